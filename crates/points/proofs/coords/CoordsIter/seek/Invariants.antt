use Rattle.std.proofs.Common.{◌≡◌, min, length}
use Rattle.points.proofs.coords.CoordsIter.seek.Given as goal

abbrev pub invariant-loop : goal.invariant-loop
invariant-loop g l =
    let line = g.Self.CoordsIter in
    (line.coords l.self ≡ line.coords l.initial.self)
    × (line.position l.self ≡ min l.counter (length (line.coords l.initial.self)))
