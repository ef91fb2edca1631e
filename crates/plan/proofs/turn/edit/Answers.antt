use Rattle.std.proofs.Common.{◌≡◌, ℕ, ◌⊎◌, not, false, length, Bor, sym, refl, ap, ⊎_elim}
use Rattle.book.specs.declared.call.Call.TheVariants.{Append, Densify, Undo, Settle, Row, Close}
use Rattle.book.specs.Calls.{in_turn}
use Rattle.plan.proofs.Edits.{append_does, densify_does, undo_does, settle_does}
use Rattle.plan.proofs.Steps.{edit_step, out_of_turn}
use Rattle.plan.proofs.turn.edit.Goals as goal
use Rattle.plan.proofs.turn.edit.Goals.{in-Append, in-Densify, in-Undo, in-Settle, in-Row, in-Row-2}

pub returns : goal.returns
returns g c = λ at st.
    let far = g.S.Space.far in
    let ratio = g.S.Space.ratio in
    let coords = g.R.CoordsIter.coords in
    let t = c.args.table.now in
    let h = c.args.head in
    let xs = c.args.cells.now in
    let call = c.args.call.now in
    let turn = ap not (sym st.turn) in
    let idle = λ (is : ((s : Bor g.row.S.Denot) × (k : ℕ) × (call ≡ Row s k)) ⊎ (call ≡ Close)).
    let no : in_turn far ratio coords at.comparing call ≡ false =
    ⊎_elim (λ p. rw p.2 (sym st.turn)) (λ e. rw e (sym st.turn)) is in
    out_of_turn far ratio coords (length t) (length xs) at call no t xs _ _ refl st in
    elim c.match-call.branch [
      | in-Append w ↦
          rw (w.in-Append.is, w.table-is, w.head-is, w.answer-is, w.into-answer.ensures)
          (edit_step far ratio coords (length t) (length xs) at (Append w.in-Append.points) turn _ xs _ _ _ refl
          (append_does at.book t h st.book _ _ _ _ w.append.ensures) refl refl st.turn)
      | in-Densify w ↦
          rw (w.in-Densify.is, w.table-is, w.head-is, w.answer-is, w.into-answer-in-Densify.ensures)
          (edit_step far ratio coords (length t) (length xs) at (Densify w.in-Densify.space w.in-Densify.maximum) turn _ xs _ _ _
          refl (densify_does at.book t h st.book _ _ _ _ _ _ w.densify.ensures) refl refl st.turn)
      | in-Undo w ↦
          rw (w.in-Undo.is, w.table-is, w.head-is, w.answer-is, w.into-answer-in-Undo.ensures)
          (edit_step far ratio coords (length t) (length xs) at Undo turn _ xs _ _ _ refl
          (undo_does at.book t h st.book _ _ _ w.undo.ensures) refl refl st.turn)
      | in-Settle w ↦
          rw (w.in-Settle.is, w.table-is, w.head-is, w.answer-is, w.into-answer-in-Settle.ensures)
          (edit_step far ratio coords (length t) (length xs) at Settle turn _ xs _ _ _ refl
          (settle_does at.book t h st.book _ _ _ w.settle.ensures) refl refl st.turn)
      | in-Row w ↦ rw (w.table-is, w.head-is, w.answer-is) (idle w.in-Row.is)
      | in-Row-2 w ↦ rw (w.table-is, w.head-is, w.answer-is) (idle w.in-Row.is)
    ]
