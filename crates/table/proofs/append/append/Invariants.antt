use Rattle.std.proofs.Common.{◌≡◌, drop}
use Rattle.table.specs.Cursors.{HoldsSame}
use Rattle.table.proofs.Appending.{Appending}
use Rattle.table.proofs.append.append.Given as goal

abbrev pub invariant-loop-point : goal.invariant-loop-point
invariant-loop-point l = record {
  same : HoldsSame l.initial.cursor l.cursor;
  here : l.cursor.here ≡ 0;
  appending : Appending l.fn.table l.fn.head l.points l.cursor.table.now l.cursor.head.now l.cursor.before
      (drop l.point-index l.points);
}
