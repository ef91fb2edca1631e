use Rattle.std.proofs.Common.{◌≡◌, ◌-◌}
use Rattle.table.specs.Cursors.{HoldsSame}
use Rattle.table.proofs.Settling.{Settling}
use Rattle.table.proofs.settle.settle.Given as goal

abbrev pub invariant-loop : goal.invariant-loop
invariant-loop l = record {
  same : HoldsSame l.initial.cursor l.cursor;
  head : l.cursor.head.now ≡ l.fn.head;
  settling : Settling l.fn.table l.fn.head l.cursor.table.now l.cursor.here (l.count - l.counter);
}
