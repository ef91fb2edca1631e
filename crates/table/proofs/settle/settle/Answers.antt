use Rattle.std.proofs.Common.{refl, ◌∙◌, arith, rules}
use Rattle.table.proofs.Settling as settling
use Rattle.table.proofs.settle.settle.Goals as goal

pub loop-init : goal.loop-init
loop-init c =
    let t0 = c.args.table.now in
    let h0 = c.args.head.now in
    let e = c.start-cursor.ensures in
    record {
      same = (refl, refl);
      head = e.head;
      settling = settling.settle_at t0 h0 _ _ _
          (settling.settle_start t0 h0 _ (omega arith) c.in_ok-check.ensures.whole) _ _ _ e.table e.here refl;
    }

pub renumber-requires : goal.renumber-requires
renumber-requires c =
    settling.settle_inside c.args.table.now c.args.head.now _ _ _ c.loop.invariant.settling (omega arith)

pub loop-preserved : goal.loop-preserved
loop-preserved c =
    let t0 = c.args.table.now in
    let h0 = c.args.head.now in
    let u = c.loop.invariant in
    let e = c.renumber.ensures in
    record {
      same = (e.same.0 ∙ u.same.0, e.same.1 ∙ u.same.1);
      head = e.head ∙ u.head;
      settling = settling.settle_at t0 h0 _ _ _ (settling.settle_more t0 h0 _ _ _ u.settling (omega arith))
          _ _ _ e.table e.here (omega arith);
    }

pub returns : goal.returns
returns c =
    let u = c.loop.invariant in
    settling.settle_ok c.args.table.now c.args.head.now _ _ _ u.settling (omega arith) c.in_ok-check.ensures
    _ _ _ _ (search rules) (search rules) (search rules) (search rules)
