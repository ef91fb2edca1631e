use Rattle.std.proofs.Common.{◌≡◌, drop}
use Rattle.points.specs.Walks.{pairs_from}
use Rattle.measures.specs.Pieces.{told, refined}
use Rattle.measures.proofs.Neighbours.{asked_over}
use Rattle.measures.proofs.pairs.Densify.ask.Given as goal

abbrev pub invariant-loop-k : goal.invariant-loop-k
invariant-loop-k g l =
    let it = l.k-iterator.iter in
    let far = g.S.Space.far l.self.space.now in
    let ratio = g.S.Space.ratio l.self.space.now in
    (g.L.CoordsIter.coords it.line.now ≡ g.L.CoordsIter.coords l.fn.line)
    × (it.line.ghost_name ≡ l.initial.k-iterator.iter.line.ghost_name)
    × (asked_over far l.layer l.self.maximum ratio l.k-iterator.count
    (pairs_from it.start (drop (g.L.CoordsIter.position it.line.now) (g.L.CoordsIter.coords it.line.now)))
    ≡ told (refined far ratio l.layer l.self.maximum (g.L.CoordsIter.coords l.fn.line)))
