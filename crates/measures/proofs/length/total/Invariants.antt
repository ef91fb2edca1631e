use Rattle.std.proofs.Common.{◌≡◌, drop}
use Rattle.points.specs.Walks.{pairs_from}
use Rattle.measures.specs.Length.{total_of}
use Rattle.measures.proofs.Neighbours.{total_over}
use Rattle.measures.proofs.length.total.Given as goal

abbrev pub invariant-loop-k : goal.invariant-loop-k
invariant-loop-k g l =
    let it = l.k-iterator.iter in
    let far = g.S.Space.far l.space in
    (g.L.CoordsIter.coords it.line.now ≡ g.L.CoordsIter.coords l.fn.line)
    × (it.line.ghost_name ≡ l.initial.k-iterator.iter.line.ghost_name)
    × (total_over far l.k-iterator.count l.sum
    (pairs_from it.start (drop (g.L.CoordsIter.position it.line.now) (g.L.CoordsIter.coords it.line.now)))
    ≡ total_of far (g.L.CoordsIter.coords l.fn.line))
