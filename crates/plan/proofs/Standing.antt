-- A comparison that stands to a book, and goes on standing after a row.
use Rattle.std.proofs.Common.{◌≡◌, ℕ, ◌≤◌, true, List, length, take, drop, Ok, Err, Result, sym, refl, ap, ◌∙◌, subst, inl, inr}
use lib.Ieee.{Float}
use Rattle.points.specs.declared.fault.Fault.{Fault}
use Rattle.points.specs.declared.point.Point.{Point}
use Rattle.book.specs.declared.call.Answer.{Answer}
use Rattle.book.specs.declared.call.Answer.TheVariants.{Done}
use Rattle.book.specs.declared.call.Call.{Call}
use Rattle.book.specs.Book.{Book, rowed, closing}
use Rattle.book.specs.Calls.{Moment, in_turn, comparing_after, called, tells}
use Rattle.table.specs.declared.Record.{Record}
use Rattle.table.proofs.Lines.{line_count}
use Rattle.plan.specs.declared.comparison.Comparison.{Comparison}
use Rattle.plan.specs.declared.state.State.TheVariants.{Comparing}
use Rattle.plan.specs.Rows.{progress, row_called, Calls, RowOutcome, closes}
use Rattle.book.specs.Calls.{edit_answer}
use Rattle.plan.specs.Runs.{Stepped}
use Rattle.plan.specs.Stands.{Kept, RowsStand, RowDoes}
use Rattle.plan.proofs.Asked.{came_to, one_more, Reached, Asks, row_asks}
use Rattle.plan.proofs.Edits.{good_table}
use Rattle.plan.proofs.Steps.{accept, deny}

module _ {S R : Type 0} (coords : R → List Point) (b : Book S) (t : List Record) (xs : List Float)
    (c : Comparison) (r : R) (k : Kept b t c.head) (w : RowsStand coords b xs c r) where
  came : progress c ≡ came_to b
  came = cc

  -- close answers as the book
  pub closing_is : closes c.head.count (progress c) ≡ closing b
  closing_is =
      let n : c.head.count ≡ length b.line = sym (line_count t c.head) ∙ ap length k.line in
      ap (λ v. closes v (progress c)) n ∙ ap (closes (length b.line)) came

  module _ (far : Point → Point → Result Float Fault) (s : S) (m : ℕ) (c' : Comparison) (r' : R)
      (xs' : List Float) (same : c'.head ≡ c.head) (still : coords r' ≡ coords r)
      (inside : m ≤ length xs) (rest : drop m xs' ≡ drop m xs) where
    standing : (b' : Book S) → b'.reference ≡ b.reference → Reached b' (progress c') xs'
        → RowsStand coords b' xs' c' r'
    standing b' e q = record {
      reference = still ∙ (w.reference ∙ sym e);
      counted = ap (λ p. p.reference) q.come;
      done = ap (λ p. p.done) q.come;
      last = ap (λ p. p.last) q.come;
      cells = q.cells;
    }

    kept : Kept b t c'.head
    kept = subst (Kept b t) (sym same) k

    does : (o : Result (Unit {0}) Fault) → Asks b s (rowed m far s b) (progress c') xs' o
        → RowDoes coords b (rowed m far s b) t xs' c' r' o
    does (Ok x) (cs, e, q) = (
      one_more b s cs,
      e,
      record { checked = kept.checked; line = kept.line; aside = kept.aside; newest_is = kept.newest_is },
      standing (one_more b s cs) refl q,
    )
    does (Err f) (e, q) = (e, kept, standing b refl q)

    -- a row, given the first m cells, leads to the book's next row
    pub row_does : (o : Result (Unit {0}) Fault)
        → RowOutcome far t c (coords r) (take m xs) c' (take m xs') o
        → RowDoes coords b (rowed m far s b) t xs' c' r' o
    row_does o (inl x) = good_table b t c.head k x.fault x.bad
    row_does o (inr x) =
        does o (row_asks far b s m xs xs' w.cells inside rest (progress c') o
        (subst (λ v. Calls (row_called far v b.line b.reference (take m xs)) (progress c') (take m xs') o)
        came
        (subst (λ v. Calls (row_called far (progress c) b.line v (take m xs)) (progress c') (take m xs') o)
        w.reference
        (subst (λ v. Calls (row_called far (progress c) v (coords r) (take m xs)) (progress c') (take m xs') o)
        k.line x.called))))

-- a row of a list: it answers as an edit does, and the comparison stays open
pub row_step : {S R : Type 0} (far : S → Point → Point → Result Float Fault)
    (ratio : S → Point → Point → Float → Result Point Fault) (coords : R → List Point) (n cells : ℕ)
    (at : Moment S) (l : Call S R) → in_turn far ratio coords at.comparing l ≡ true
    → (t : List Record) (xs : List Float) (c : Comparison) (r : R) (a : Answer) (o : Result (Unit {0}) Fault)
    → a ≡ edit_answer o
    → RowDoes coords at.book (called far ratio coords n cells at.book l) t xs c r o
    → tells far ratio coords at.book l ≡ Done
    → comparing_after far ratio coords at.comparing l ≡ at.comparing → true ≡ at.comparing
    → Stepped far ratio coords n cells at l t xs (Comparing c r) a
row_step far ratio coords n cells at l turn t xs c r a (Ok x) e (b, ok, k, w) done same busy =
    accept far ratio coords n cells at l turn t xs (Comparing c r) a b ok (e ∙ sym done) (busy ∙ sym same) (k, w)
row_step far ratio coords n cells at l turn t xs c r a (Err f) e (stop, k, w) done same busy =
    deny far ratio coords n cells at l turn t xs (Comparing c r) a f stop e busy (k, w)
