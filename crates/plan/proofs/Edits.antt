-- What an edit does to a book that stands to the table.
use Rattle.std.proofs.Common.{◌≡◌, ℕ, ◌-◌, ◌<◌, ◌≤◌, Bool, true, false, not, eqb, ltb, leb, ◌⊎◌, List, [], ◌∷◌, ◌++◌, length, Ok, Err, Result, sym, refl, ap, ◌∙◌, inl, inr, ⊎_elim, arith, le-ltb, lt-ltb, eq-eqb, le-leb}
use lib.Ieee.{Float}
use Rattle.std.proofs.lemmas.Bool.{lt-leb, ne_eqb, cases_lt}
use Rattle.points.specs.Faults.{raised, after, in_layer}
use Rattle.points.specs.Finite.{first_unfit}
use Rattle.points.specs.Limits.{last_edit}
use Rattle.points.specs.declared.fault.Cause.TheVariants.{NoEditNumber, NothingToUndo}
use Rattle.points.specs.declared.fault.Fault.{Fault}
use Rattle.points.specs.declared.fault.Layer.TheVariants.{Table}
use Rattle.points.specs.declared.point.Point.{Point}
use Rattle.measures.specs.Pieces.{checked_maximum, densified}
use Rattle.book.specs.Book.{Book, refuse, no_edit_left, free_records, edited, appended, refined, taken_back, undone, settled}
use Rattle.table.specs.declared.Record.{Record}
use Rattle.table.specs.declared.Head.{Head}
use Rattle.table.specs.Append.{AppendOk, AppendErr, Unfit, NoNumber, TooFewFree}
use Rattle.table.specs.Densify.{edit_after, densified_line, outcome, DensifyOk, DensifyErr, Refused}
use Rattle.table.specs.Lines.{kept_line, set_aside}
use Rattle.table.specs.Outcomes.{Unchanged}
use Rattle.table.specs.Settle.{SettleOk, SettleErr}
use Rattle.table.specs.Undo.{UndoOk, UndoErr, NoEdit}
use Rattle.table.specs.Whole.{Checked, Whole, Sized, BadTable, free_count}
use Rattle.table.proofs.Lines.{aside_newest, line_count, append_line, append_aside, undo_lines, settle_line, settle_aside}
use Rattle.table.proofs.Refining.{densify_aside}
use Rattle.plan.specs.Stands.{Kept, Does}

pub kept_of : {S : Type 0} (b : Book S) (t : List Record) (h : Head) → Checked t h → kept_line t h ≡ b.line
    → set_aside t h ≡ b.aside → Kept b t h
kept_of b t h w l a = record {
  checked = w;
  line = l;
  aside = a;
  newest_is = sym (aside_newest t h) ∙ ap length a;
}

passes : {X : Type 0} (c : Bool) (f : Fault) (r : Result X Fault) → c ≡ false → refuse c f r ≡ r
passes c f r e = ap (λ v. refuse v f r) e

stops : {X : Type 0} (c : Bool) (f : Fault) (r : Result X Fault) → c ≡ true → refuse c f r ≡ Err f
stops c f r e = ap (λ v. refuse v f r) e

module _ {S : Type 0} (b : Book S) (t : List Record) (h : Head) (k : Kept b t h) where
  line_long : length b.line ≡ h.count
  line_long = ap length (sym k.line) ∙ line_count t h

  free_long : free_records (length t) b ≡ free_count t h
  free_long = ap (λ n. length t - 1 - n) line_long

  same_kept : (t' : List Record) (h' : Head) → Unchanged t h t' h' → Kept b t' h'
  same_kept t' h' u = rw (u.table, u.head) k

  pub good_table : {X : Type 0} (f : Fault) → BadTable t h f → X
  good_table f (inl x) = absurd (x.cause k.checked.sized)
  good_table f (inr x) = absurd (x.cause k.checked.whole)

  sized_on : (t' : List Record) → length t' ≡ length t → Sized t'
  sized_on t' e = let s = k.checked.sized in record { least = omega arith; most = omega arith }

  module _ (t' : List Record) (h' : Head) where
    -- an edit that sets the line aside
    edited_kept : (l : List Point) → Whole t' h' → length t' ≡ length t → kept_line t' h' ≡ l
        → set_aside t' h' ≡ kept_line t h ∷ set_aside t h → Kept (edited b l) t' h'
    edited_kept l w e line aside =
        kept_of (edited b l) t' h' (record { sized = sized_on t' e; whole = w }) line
        (aside ∙ (ap (λ v. v ∷ set_aside t h) k.line ∙ ap (λ v. b.line ∷ v) k.aside))

    module _ (ps : List Point) where
      fit_on : first_unfit 0 ps ≡ 0 → not (eqb (first_unfit 0 ps) 0) ≡ false
      fit_on e = ap not (eq-eqb (first_unfit 0 ps) 0 e)

      number_on : h.newest < last_edit → no_edit_left b ≡ false
      number_on l = lt-leb last_edit (length b.aside) (omega (arith, k.newest_is, l))

      pub append_does : (r : Result (Unit {0}) Fault)
          → (elim r as (λ _. Type 0) [ Ok _ ↦ AppendOk t h ps t' h' | Err f ↦ AppendErr t h ps f t' h' ])
          → Does b (appended (length t) b ps) t' h' r
      append_does (Ok x) u = (
        edited b (b.line ++ ps),
        passes _ _ _ (fit_on u.fit) ∙ passes _ _ _ (number_on u.left)
            ∙ passes _ _ _ (le-ltb (free_records (length t) b) (length ps) (omega (arith, free_long, u.room))),
        edited_kept (b.line ++ ps) u.done.whole u.done.frame.size
            (append_line t h t' h' ps u.checked.whole u.room u.done ∙ ap (λ l. l ++ ps) k.line)
            (append_aside t h t' h' ps u.checked.whole u.room u.done),
      )
      append_does (Err f) u = (by u.cause, same_kept t' h' u.same)
        where
          by : BadTable t h f ⊎ Unfit t h ps f ⊎ NoNumber t h ps f ⊎ TooFewFree t h ps f
              → appended (length t) b ps ≡ Err f
          by (inl x) = good_table f x
          by (inr (inl x)) =
              stops _ _ _ (ap not (ne_eqb (first_unfit 0 ps) 0 (λ z. omega (arith, x.first.cause, z))))
              ∙ ap (λ e. Err e) (sym x.first.fault)
          by (inr (inr (inl x))) =
              passes _ _ _ (fit_on x.fit)
              ∙ stops _ _ _ (le-leb last_edit (length b.aside) (omega (arith, k.newest_is, x.cause)))
              ∙ ap (λ e. Err e) (sym x.fault)
          by (inr (inr (inr x))) =
              passes _ _ _ (fit_on x.fit) ∙ passes _ _ _ (number_on x.left)
              ∙ stops _ _ _ (room_out (cases_lt (free_records (length t) b) (length ps)))
              ∙ ap (λ e. Err e) (sym x.fault)
            where
              room_out : (free_records (length t) b < length ps) ⊎ (length ps ≤ free_records (length t) b)
                  → ltb (free_records (length t) b) (length ps) ≡ true
              room_out (inl l) = lt-ltb (free_records (length t) b) (length ps) l
              room_out (inr g) = absurd (x.cause (omega (arith, free_long, g)))

    pub undo_does : (r : Result (Unit {0}) Fault)
        → (elim r as (λ _. Type 0) [ Ok _ ↦ UndoOk t h t' h' | Err f ↦ UndoErr t h f t' h' ])
        → Does b (undone b) t' h' r
    undo_does (Ok x) u =
        let back : Book S = record {
          line = kept_line t' h';
          aside = set_aside t' h';
          reference = b.reference;
          rows = b.rows;
        } in (
          back,
          ap (taken_back b) (sym k.aside ∙ undo_lines t h t' h' u.some u.done),
          kept_of back t' h' (record { sized = sized_on t' u.done.frame.size; whole = u.done.whole })
              refl refl,
        )
    undo_does (Err f) u = (by u.cause, same_kept t' h' u.same)
      where
        none : (ls : List (List Point)) → length ls ≡ 0 → taken_back b ls ≡ Err (raised NothingToUndo Table)
        none [] e = refl
        none (l ∷ ls) e = absurd (omega arith)

        by : BadTable t h f ⊎ NoEdit t h f → undone b ≡ Err f
        by (inl x) = good_table f x
        by (inr x) = none b.aside (sym k.newest_is ∙ x.cause) ∙ ap (λ e. Err e) (sym x.fault)

    pub settle_does : (r : Result (Unit {0}) Fault)
        → (elim r as (λ _. Type 0) [ Ok _ ↦ SettleOk t h t' h' | Err f ↦ SettleErr t h f t' h' ])
        → Does b (Ok (settled b)) t' h' r
    settle_does (Ok x) u = (
      settled b,
      refl,
      kept_of (settled b) t' h' (record { sized = sized_on t' u.done.frame.size; whole = u.done.whole })
          (settle_line t h t' h' u.done ∙ k.line) (settle_aside t h t' h' u.done),
    )
    settle_does (Err f) u = good_table f u.cause

    module _ (far : Point → Point → Result Float Fault) (ratio : Point → Point → Float → Result Point Fault)
        (most : Float) where
      -- the book's rule is the table's, at the book's line and its count of edits
      refined_is : refined (length t) far ratio most b ≡ after (outcome far ratio most t h) (λ l. Ok (edited b l))
      refined_is =
          number_first (in_layer (checked_maximum most) Table) (length b.aside)
          (densified far ratio Table most (free_records (length t) b) b.line)
          ∙ ap (λ n. after (line_by n (free_records (length t) b) b.line) (λ l. Ok (edited b l)))
          (sym k.newest_is)
          ∙ ap (λ n. after (line_by h.newest n b.line) (λ l. Ok (edited b l))) free_long
          ∙ ap (λ ps. after (line_by h.newest (free_count t h) ps) (λ l. Ok (edited b l))) (sym k.line)
        where
          line_by : ℕ → ℕ → List Point → Result (List Point) Fault
          line_by = densified_line far ratio most

          number_first : (m : Result (Unit {0}) Fault) (n : ℕ) (d : Result (List Point) Fault)
              → after m (λ _. refuse (leb last_edit n) (raised NoEditNumber Table) (after d (λ l. Ok (edited b l))))
              ≡ after (after m (λ _. after (edit_after n) (λ _. d))) (λ l. Ok (edited b l))
          number_first (Err e) n d = refl
          number_first (Ok _) n d =
              ⊎_elim (λ l. rw (lt-leb last_edit n l, lt-ltb n last_edit l) refl)
              (λ g. rw (le-leb last_edit n g, le-ltb n last_edit g) refl) (cases_lt n last_edit)

      pub densify_does : (r : Result (Unit {0}) Fault)
          → (elim r as (λ _. Type 0)
          [ Ok _ ↦ DensifyOk far ratio most t h t' h' | Err f ↦ DensifyErr far ratio most t h f t' h' ])
          → Does b (refined (length t) far ratio most b) t' h' r
      densify_does (Ok x) u = (
        edited b (kept_line t' h'),
        refined_is ∙ ap (λ v. after v (λ l. Ok (edited b l))) u.points,
        edited_kept (kept_line t' h') u.done.whole u.done.frame.size refl
            (densify_aside far ratio most t h t' h' u),
      )
      densify_does (Err f) u = (by u.cause, same_kept t' h' u.same)
        where
          by : BadTable t h f ⊎ Refused far ratio most t h f → refined (length t) far ratio most b ≡ Err f
          by (inl x) = good_table f x
          by (inr x) = refined_is ∙ ap (λ v. after v (λ l. Ok (edited b l))) x.cause
