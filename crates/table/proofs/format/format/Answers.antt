use Rattle.std.proofs.Common.{◌≡◌, arith, rules}
use Rattle.points.specs.Rounded.{zero64}
use Rattle.table.specs.declared.Record.{Record}
use Rattle.table.specs.Format.{cleared}
use Rattle.table.proofs.Orders.{formatted}
use Rattle.table.proofs.format.format.Goals as goal

-- the default record
zeros : (r : Record) → r.x ≡ zero64 → r.y ≡ zero64 → r.next ≡ 0 → r.edit ≡ 0 → r ≡ cleared
zeros r p q n e = search rules

pub returns : goal.returns
returns c =
    let sized = c.in_ok-check_length.ensures in
    let e = c.default.ensures in
    record {
      sized = sized;
      done = formatted _ _ _ sized (omega arith) c.chain_free.ensures (zeros _ e.0 e.1.0 e.1.1.0 e.1.1.1);
    }
