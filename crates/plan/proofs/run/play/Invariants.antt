use Rattle.std.proofs.Common.{◌≡◌, length, drop}
use Rattle.book.specs.Calls.{Moment}
use Rattle.plan.specs.Stands.{StandsAt}
use Rattle.plan.proofs.Playing.{Sofar}
use Rattle.plan.proofs.run.play.Given as goal

abbrev pub invariant-loop-k : goal.invariant-loop-k
invariant-loop-k g l =
    let coords = g.R.CoordsIter.coords in
    (drop (length l.calls) l.answers ≡ drop (length l.calls) l.initial.answers)
    × ((at : Moment g.row.S.Denot) → StandsAt coords at l.initial.table l.initial.cells l.initial.state
    → Sofar g.S.Space.far g.S.Space.ratio coords (length l.initial.table) (length l.initial.cells)
    l.calls at l.k l.table l.cells l.state l.answers)
