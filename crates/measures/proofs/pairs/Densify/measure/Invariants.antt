use Rattle.std.proofs.Common.{◌≡◌, ◌+◌, ◌*◌, ◌≤◌, length, drop}
use Rattle.points.specs.Walks.{pairs_from}
use Rattle.measures.specs.Pieces.{taken}
use Rattle.measures.proofs.Neighbours.{taken_over}
use Rattle.measures.proofs.pairs.Densify.measure.Given as goal

abbrev pub invariant-loop-k : goal.invariant-loop-k
invariant-loop-k g l =
    let it = l.k-iterator.iter in
    let left_pairs = pairs_from it.start (drop (g.L.CoordsIter.position it.line.now) (g.L.CoordsIter.coords it.line.now)) in
    let far = g.S.Space.far l.self.space.now in
    (g.L.CoordsIter.coords it.line.now ≡ g.L.CoordsIter.coords l.fn.line)
    × (it.line.ghost_name ≡ l.initial.k-iterator.iter.line.ghost_name)
    × (taken_over far l.layer l.self.maximum l.k-iterator.count l.count left_pairs
    ≡ taken far l.layer l.self.maximum (g.L.CoordsIter.coords l.fn.line))
    × (l.count ≤ 4294967296 * l.k-iterator.count)
    × (l.k-iterator.count + length left_pairs ≤ 65535)
