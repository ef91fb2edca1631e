use Rattle.std.proofs.Common.{◌∙◌}
use Rattle.book.specs.Calls.{start}
use Rattle.plan.proofs.Playing.{formatted}
use Rattle.plan.proofs.run.run_from_format.Goals as goal

pub returns : goal.returns
returns g c =
    let coords = g.R.CoordsIter.coords in
    let t = c.args.table.now in
    let made = c.in_ok-head.ensures in
    let fresh = formatted coords t c.format.new.table c.in_ok-head.head c.args.cells.now made.sized made.done in
    record {
      sized = made.sized;
      room = c.in_ok-can_run.ensures.room_is;
      run = rw made.done.size at (c.play.ensures.book start fresh);
      rest = c.play.ensures.rest;
      size = c.play.auto.table ∙ made.done.size;
      cells = c.play.auto.cells;
    }
