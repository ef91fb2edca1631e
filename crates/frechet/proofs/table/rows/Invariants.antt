use Rattle.std.proofs.Common.{◌≡◌, [], length, drop, None}
use Rattle.frechet.specs.Row.{row_before}
use Rattle.frechet.specs.Table.{rows_from}
use Rattle.frechet.proofs.table.rows.Given as goal

abbrev pub invariant-loop-k : goal.invariant-loop-k
invariant-loop-k g l =
    let far = g.S.Space.far l.space in
    let line = l.k-iterator.iter.line in
    let qs = g.M.CoordsIter.coords l.fn.shorter in
    (g.L.CoordsIter.coords line.now ≡ g.L.CoordsIter.coords l.fn.longer)
    × (line.ghost_name ≡ l.initial.k-iterator.iter.line.ghost_name)
    × (g.M.CoordsIter.coords l.shorter ≡ qs)
    × (rows_from far l.k-iterator.count (row_before l.k-iterator.count (length qs) l.cells) l.last
    (drop (g.L.CoordsIter.position line.now) (g.L.CoordsIter.coords line.now)) qs l.cells
    ≡ rows_from far 0 [] None (g.L.CoordsIter.coords l.fn.longer) qs l.fn.cells)
