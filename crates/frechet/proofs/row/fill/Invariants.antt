use Rattle.std.proofs.Common.{◌≡◌, ◌+◌, ◌≤◌, length, take, drop}
use Rattle.frechet.specs.Row.{row_of, row_from, onto}
use Rattle.frechet.proofs.row.fill.Given as goal

abbrev pub invariant-loop-j : goal.invariant-loop-j
invariant-loop-j g l =
    let line = l.j-iterator.iter.line in
    let far = g.S.Space.far l.space l.p in
    let left_points = drop (g.L.CoordsIter.position line.now) (g.L.CoordsIter.coords line.now) in
    (g.L.CoordsIter.coords line.now ≡ g.L.CoordsIter.coords l.fn.shorter)
    × (line.ghost_name ≡ l.initial.j-iterator.iter.line.ghost_name)
    × (l.j-iterator.count + length left_points ≤ length l.fn.cells)
    × (length l.cells ≡ length l.fn.cells)
    × (drop l.j-iterator.count l.cells ≡ drop l.j-iterator.count l.fn.cells)
    × (row_of far l.before (g.L.CoordsIter.coords l.fn.shorter)
    ≡ onto (take l.j-iterator.count l.cells) (row_from far l.before l.j-iterator.count l.diagonal l.left left_points))
