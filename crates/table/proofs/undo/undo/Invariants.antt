use Rattle.std.proofs.Common.{◌-◌}
use Rattle.table.specs.Cursors.{HoldsSame}
use Rattle.table.proofs.Undoing.{Undoing}
use Rattle.table.proofs.undo.undo.Given as goal

abbrev pub invariant-loop : goal.invariant-loop
invariant-loop l = record {
  same : HoldsSame l.initial.cursor l.cursor;
  undoing : Undoing l.fn.table l.fn.head l.cursor.table.now l.cursor.head.now l.cursor.before l.cursor.here
      (l.count - l.counter);
}
