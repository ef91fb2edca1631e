use Rattle.std.proofs.Common.{length, sym, arith}
use Rattle.points.specs.declared.fault.Layer.TheVariants.{Table}
use Rattle.frechet.proofs.Asking.{allowed, answered_allowed, count_most}
use Rattle.plan.proofs.comparison.Comparison.row_of.Goals as goal

-- the row was one of the rows, of which there are no more than a line has points
pub count_row-requires : goal.count_row-requires
count_row-requires g c =
    let A = g.K.CoordsIter.coords c.args.kept.now in
    let B = g.R.CoordsIter.coords c.args.reference.now in
    let xs = c.args.cells.now in
    let k = c.args.self.now.done in
    let far = g.S.Space.far c.args.space.now in
    let ok = answered_allowed far Table k A B xs c.in_ok-last.last
    (sym c.in_ok-last.ensures.last) in
    let left = (allowed k (length A) (length B) (length xs) ok).left in
    let most = count_most (length A) (length B) in
    omega (arith, c.coords_count.ensures, c.requires)
