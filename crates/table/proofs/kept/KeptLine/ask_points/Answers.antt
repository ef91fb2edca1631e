use Rattle.std.proofs.Common.{ℕ, List, Result, ap, ◌∙◌, arith}
use lib.Ieee.{Float}
use Rattle.points.specs.declared.fault.Fault.{Fault}
use Rattle.points.specs.declared.fault.Layer.TheVariants.{Table}
use Rattle.points.specs.declared.point.Point.{Point}
use Rattle.measures.specs.Pieces.{told, densified_by}
use Rattle.table.specs.Lines.{kept_line}
use Rattle.table.specs.Whole.{free_count}
use Rattle.table.proofs.Lines.{line_count}
use Rattle.table.proofs.Refining.{fitting}
use Rattle.table.proofs.kept.KeptLine.ask_points.Goals as goal

pub returns : goal.returns
returns g c =
    let t = c.args.self.now.table.now in
    let h = c.args.self.now.head.now in
    let far : Point → Point → Result Float Fault = g.S.Space.far c.args.cut.now.space.now in
    let ratio : Point → Point → Float → Result Point Fault = g.S.Space.ratio c.args.cut.now.space.now in
    let most = c.args.cut.now.maximum in
    let long = line_count t h in
    c.ask_line.ensures.points
    ∙ (ap (λ (ps : List Point). told (densified_by far ratio Table most c.free_count-room.result ps))
    (c.points.ensures.kept)
    ∙ (ap (λ (n : ℕ). told (densified_by far ratio Table most n (kept_line t h))) c.free_count-room.ensures
    ∙ ap told (fitting far ratio most (free_count t h) (kept_line t h)
    (omega (arith, c.args.self.now.checked.whole.fits, c.args.self.now.checked.sized.most)))))
