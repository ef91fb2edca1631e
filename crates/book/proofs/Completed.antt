-- A completed comparison: it tells that each distance was answered, and the answer of the table of the two lines.
use Rattle.std.proofs.Common.{◌≡◌, ℕ, ◌<◌, ◌≤◌, List, [], ◌∷◌, length, get_or, take, Some, None, Ok, Result, sym, refl, ap, ◌∙◌, subst, inl, inr, ⊎_elim, arith}
use lib.Ieee.{Float, lt}
use Rattle.std.proofs.lemmas.List.{take_all}
use Rattle.std.proofs.lemmas.Bool.{cases_lt}
use Rattle.std.proofs.lemmas.Bool.Decides.{nat_tests}
use Rattle.couplings.specs.Coupling.{Each}
use Rattle.couplings.specs.Rows.{row, rows, larger, last_or}
use Rattle.couplings.proofs.Rows.{rows_grow}
use Rattle.points.specs.declared.fault.Fault.{Fault}
use Rattle.points.specs.declared.point.Point.{Point}
use Rattle.frechet.specs.Row.{last_from}
use Rattle.frechet.specs.Next.{row_count, row_of_lines}
use Rattle.frechet.specs.Table.{longer, shorter}
use Rattle.frechet.specs.Theorem.{nowhere}
use Rattle.frechet.proofs.Told.{Told, longer_some}
use Rattle.frechet.proofs.Values.{value_of, row_values, row_asked, last_is}
use Rattle.book.specs.declared.call.Call.{Call}
use Rattle.book.specs.Book.{Asked, Book, newest, all_rows, closing}
use Rattle.book.specs.Calls.{start, played}
use Rattle.book.specs.Laws.{Completes}
use Rattle.book.proofs.Rows.{Follows, ByRule, RowsByRule, all_sound}
use Rattle.book.proofs.Closing.{closed_at}

-- two lines with points have a row for each point of the longer
count_longer : (A B : List Point) → 0 < length A → 0 < length B
    → row_count (length A) (length B) ≡ length (longer A B)
count_longer A B ha hb = grind (arith, nat_tests)

-- a close that answers a distance has all its rows, and answers the last cell of the newest
all_rows_lem : {S : Type 0} (b : Book S) (d : Float) → 0 < all_rows b → closing b ≡ Some d
    → (all_rows b ≤ length b.rows) × (last_from None (newest b.rows) ≡ Some d)
all_rows_lem b d h e = (grind (arith, nat_tests), grind (arith, nat_tests))

-- the rows of the lines A and B, each asked in the space s
module _ {S : Type 0} (far : S → Point → Point → Result Float Fault) (s : S) (A B : List Point)
    (ha : 0 < length A) (hb : 0 < length B) where
  abbrev X : List Point
  X = longer A B

  abbrev Y : List Point
  Y = shorter A B

  abbrev dist : Point → Point → Float
  dist a b = value_of (far s a b)

  abbrev table : List Point → List Float
  table ps = rows lt (λ v. v) (larger lt) dist Y [] ps

  abbrev Known : Point → Point → Type 0
  Known p q = far s p q ≡ Ok (dist p q)

  -- the newest row is the last of the table of as many points of the longer line as there are rows, and the
  -- distances from these points were answered
  record Come (rs : List (Asked S)) : Type 0 where
    cells_are : newest rs ≡ table (take (length rs) X)
    known : (i j : ℕ) → i < length rs → j < length Y → Known (get_or X i nowhere) (get_or Y j nowhere)

  one_more : (r : Asked S) (rs : List (Asked S)) → r.space ≡ s → Follows far A B rs r → Come rs → Come (r ∷ rs)
  one_more r rs e f w =
      let k = length rs in
      let p = get_or X k nowhere in
      let above = newest rs in
      let inside : k < length X = omega (arith, f.left, count_longer A B ha hb) in
      let run = subst (λ (v : S). ((row_of_lines (far v) k A B above).outcome ≡ Ok f.last)
      × (r.cells ≡ (row_of_lines (far v) k A B above).cells)) e (f.accepted, f.cells_are) in
      record {
        cells_are =
            run.1
            ∙ row_values (far s) p Y above 0 None None f.last run.0
            ∙ ap (row lt (λ v. v) (larger lt) dist p [] Y) w.cells_are
            ∙ sym (rows_grow lt (λ v. v) (larger lt) dist nowhere X Y k inside);
        known = λ i j hi hj.
            ⊎_elim
            (λ less. w.known i j less hj)
            (λ most. let same : k ≡ i = omega arith in
            subst (λ (n : ℕ). Known (get_or X n nowhere) (get_or Y j nowhere)) same
            (row_asked (far s) p Y above 0 None None f.last run.0 j hj))
            (cases_lt i k);
      }

  come : (rs : List (Asked S)) → ByRule far A B rs → Each (λ r. r.space ≡ s) rs → Come rs
  come [] w each = record { cells_are = refl; known = λ i j hi hj. absurd (omega arith) }
  come (r ∷ rs) w each = one_more r rs (each r (inl refl)) w.0 (come rs w.1 (λ x i. each x (inr i)))

  -- all rows tell the answer
  rows_tell : (z : Float) (rs : List (Asked S)) (d : Float) → ByRule far A B rs → Each (λ r. r.space ≡ s) rs
      → row_count (length A) (length B) ≤ length rs → last_from None (newest rs) ≡ Some d
      → Told (far s) z (longer A B) (shorter A B) d
  rows_tell z rs d w each full last =
      let c = come rs w each in
      let all : length X ≤ length rs = omega (arith, full, count_longer A B ha hb) in
      record {
        known = λ i j hi hj. c.known i j (omega arith) hj;
        is =
            sym (ap (last_or z) (c.cells_are ∙ ap table (take_all (length rs) X all)))
            ∙ last_is z d (newest rs) last;
      }

module _ {S R : Type 0} (far : S → Point → Point → Result Float Fault)
    (ratio : S → Point → Point → Float → Result Point Fault) (coords : R → List Point) where
  abbrev Tells : S → Float → List Point → List Point → Float → Type 0
  Tells s z A B d = 0 < length A → 0 < length B → Told (far s) z (longer A B) (shorter A B) d

  pub book_tells : (s : S) (z : Float) (b : Book S) (d : Float) → RowsByRule far b
      → Each (λ r. r.space ≡ s) b.rows → closing b ≡ Some d → Tells s z b.line b.reference d
  book_tells s z b d w each e ha hb =
      let some : 0 < all_rows b = omega (
        arith,
        longer_some b.line b.reference ha hb,
        count_longer b.line b.reference ha hb,
      ) in
      let all = all_rows_lem b d some e in
      rows_tell far s b.line b.reference ha hb z b.rows d w each all.0 all.1

  -- each distance was answered, and d is the answer of the table; z is the answer of a table without a cell
  pub completes_tells : (n cells : ℕ) (calls : List (Call S R)) (k : ℕ) (s : S) (z : Float) (A B : List Point)
      (d : Float) → Completes far ratio coords n cells calls k s A B d → 0 < length A → 0 < length B
      → Told (far s) z (longer A B) (shorter A B) d
  completes_tells n cells calls k s z A B d w =
      let at = played far ratio coords n cells start (take k calls) in
      let closed = closed_at far ratio coords n cells calls k (Some d) w.answer in
      let by-rule = all_sound far ratio coords n cells (take k calls) closed.0 in
      subst (λ (U : List Point). Tells s z U B d) w.kept
      (subst (λ (V : List Point). Tells s z at.book.line V d) w.reference
      (book_tells s z at.book d by-rule w.asked closed.1))
