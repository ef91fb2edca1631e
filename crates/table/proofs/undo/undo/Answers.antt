use Rattle.std.proofs.Common.{sym, refl, ◌∙◌, arith, rules, ltb-true, eqb-true}
use borrow.Author.Tests.{eqb-false}
use Rattle.points.proofs.Placing.{ensured_holds}
use Rattle.table.proofs.Undoing as undoing
use Rattle.table.proofs.undo.undo.Goals as goal
use Rattle.table.proofs.undo.undo.Goals.{then-is_of, else-is_of}

pub loop-init : goal.loop-init
loop-init c =
    let t0 = c.args.table.now in
    let h0 = c.args.head.now in
    let e = c.start-cursor.ensures in
    record {
      same = (refl, refl);
      undoing = undoing.undo_at t0 h0 _ _ _ _ _
          (undoing.undo_start t0 h0 _ (omega arith) c.in_ok-check.ensures.whole) _ _ _ _ _ e.table e.head
          e.before e.here refl;
    }

pub is_of-requires : goal.is_of-requires
is_of-requires c =
    (undoing.undo_inside c.args.table.now c.args.head.now _ _ _ _ _ c.loop.invariant.undoing (omega arith)).1

pub remove-requires : goal.remove-requires
remove-requires c =
    let inside =
    undoing.undo_inside c.args.table.now c.args.head.now _ _ _ _ _ c.loop.invariant.undoing (omega arith) in
    record { before = inside.0; here = inside.1; some = inside.2 }

pub step-requires : goal.step-requires
step-requires c =
    (undoing.undo_inside c.args.table.now c.args.head.now _ _ _ _ _ c.loop.invariant.undoing (omega arith)).1

pub loop-preserved : goal.loop-preserved
loop-preserved c =
    let t0 = c.args.table.now in
    let h0 = c.args.head.now in
    let u = c.loop.invariant in
    elim c.if-is_of.branch [
      | then-is_of w ↦
          let e = w.remove.ensures in
          rw w.cursor-is (record {
            same = (e.same.0 ∙ u.same.0, e.same.1 ∙ u.same.1);
            undoing = undoing.undo_at t0 h0 _ _ _ _ _
                (undoing.undo_drop t0 h0 _ _ _ _ _ u.undoing (omega arith) (eqb-true _ _ (sym w.if-is_of.ensures)))
                _ _ _ _ _ e.table e.head e.before e.here (omega arith);
          })
      | else-is_of w ↦
          let e = w.step.ensures in
          rw w.cursor-is (record {
            same = (e.same.0 ∙ u.same.0, e.same.1 ∙ u.same.1);
            undoing = undoing.undo_at t0 h0 _ _ _ _ _
                (undoing.undo_keep t0 h0 _ _ _ _ _ u.undoing (omega arith)
                (eqb-false _ _ (sym w.if-is_of.ensures)))
                _ _ _ _ _ e.table e.head e.before e.here (omega arith);
          })
    ]

pub returns : goal.returns
returns c =
    let some = ltb-true _ _ (ensured_holds _ _ _ (sym c.ensure.ensures ∙ c.in_ok-ensure.was)) in
    undoing.undo_ok c.args.table.now c.args.head.now _ _ _ _ _ c.loop.invariant.undoing (omega arith)
    (omega (arith, some)) c.in_ok-check.ensures _ _ _ _ (search rules) (search rules) (search rules) (search rules)
