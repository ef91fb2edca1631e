use Rattle.std.proofs.Common.{◌≡◌, min, length, drop, refl, arith}
use Rattle.std.proofs.lemmas.List.{take_at, drop_at, length-take-le}
use Rattle.plan.proofs.turn.row_within.Goals as goal

-- the cells are those of the row, and behind them those that it was not given
pub returns : goal.returns
returns g c =
    let xs = c.args.cells.now in
    let ys = c.row.new.cells in
    let n = c.min-given.result in
    let m = min c.args.count (length xs) in
    let same : n ≡ m = omega (arith, c.min-given.ensures) in
    let long : length ys ≡ m = omega (arith, c.row.auto.cells, length-take-le n xs (omega arith)) in
    record {
      head = c.row.ensures.head;
      reference = c.row.ensures.reference;
      rest = rw (drop_at ys (drop n xs) m long, same) refl;
      called = rw (take_at ys (drop n xs) m long, ← same) c.row.ensures.called;
    }
