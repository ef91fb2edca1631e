use Rattle.std.proofs.Common.{◌≤◌, min, length, sym, refl, ap, ◌∙◌, subst, arith}
use Rattle.book.specs.declared.call.Answer.TheVariants.{Closed}
use Rattle.book.specs.declared.call.Call.TheVariants.{Row, Close}
use Rattle.plan.specs.Stands.{Kept}
use Rattle.plan.proofs.Standing.{closing_is, row_does, row_step}
use Rattle.plan.proofs.Steps.{accept}
use Rattle.plan.proofs.turn.compare.Goals as goal

pub returns-in-Row : goal.returns-in-Row
returns-in-Row g c = λ at st.
    let coords = g.R.CoordsIter.coords in
    let t = c.args.table.now in
    let xs = c.args.cells.now in
    let u = c.row_within-result.ensures in
    let few : min c.in-Row.count (length xs) ≤ length xs = omega arith in
    rw c.in-Row.is
    (row_step g.S.Space.far g.S.Space.ratio coords (length t) (length xs) at (Row c.in-Row.space c.in-Row.count)
    (sym st.turn) t _ _ _ _ _ c.into.ensures
    (row_does coords at.book t xs c.args.comparison c.args.reference st.book.0 st.book.1 _ c.in-Row.space.now _ _ _ _
    u.head u.reference few u.rest _ u.called) refl refl st.turn)

pub returns-in-Close : goal.returns-in-Close
returns-in-Close g c = λ at st.
    let coords = g.R.CoordsIter.coords in
    let t = c.args.table.now in
    let xs = c.args.cells.now in
    let u = c.close-answer.ensures in
    let same = closing_is coords at.book t xs c.args.comparison c.args.reference st.book.0 st.book.1 in
    rw c.in-Close.is
    (accept g.S.Space.far g.S.Space.ratio coords (length t) (length xs) at Close (sym st.turn) t xs _ _
    at.book refl (ap (λ v. Closed v) (u.answer ∙ same)) refl (subst (Kept at.book t) (sym u.head) st.book.0))
