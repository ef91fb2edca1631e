use Rattle.std.proofs.Common.{◌≡◌, ◌-◌, List, drop}
use Rattle.points.specs.declared.point.Point.{Point}
use Rattle.table.specs.declared.Record.{Record}
use Rattle.table.specs.declared.Head.{Head}
use Rattle.table.specs.Weave.{pair_for, pieces_in, parts_in}
use Rattle.table.specs.Cursors.{HoldsSame}
use Rattle.table.proofs.Weaving.{Weaving, Pair}
use Rattle.table.proofs.weave.weave_pairs.Given as goal

abbrev pub invariant-loop : goal.invariant-loop
invariant-loop g l = record {
  same : HoldsSame l.initial.cursor l.cursor;
  weaving : Weaving (parts_in (g.S.Space.far l.cut.space.now) l.cut.maximum (g.S.Space.ratio l.cut.space.now)) l.fn.table l.fn.head
      l.edit l.cursor.table.now l.cursor.head.now l.cursor.before l.cursor.here (l.pairs - l.counter) l.start;
}

-- whatever the walk over the pairs began with, and whatever point `pair` and `pieces` start from
abbrev pub invariant-loop-k : goal.invariant-loop-k
invariant-loop-k g l =
    let paired = g.S.Space.paired l.cut.space.now in
    let far = g.S.Space.far l.cut.space.now in
    let parts = parts_in far l.cut.maximum (g.S.Space.ratio l.cut.space.now) in
    let begun = l.initial.cursor in
    record {
      same : HoldsSame begun l.cursor;
      here : l.cursor.here ≡ begun.here;
      pair : (t0 : List Record) (h0 : Head) (p : Point)
          → l.pieces ≡ pieces_in far l.cut.maximum p l.end → l.pair ≡ pair_for (paired p l.end) l.pieces
          → Weaving parts t0 h0 l.edit begun.table.now begun.head.now begun.before begun.here
          (l.pairs - l.counter) p
          → Pair parts t0 h0 l.edit (l.pairs - l.counter) p l.end begun.here l.cursor.table.now l.cursor.head.now
          l.cursor.before (drop (l.k - 1) (parts p l.end));
    }
