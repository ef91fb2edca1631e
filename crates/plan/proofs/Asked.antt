-- What a row does to a book that stands to the table and to the cells.
use Rattle.std.proofs.Common.{◌≡◌, ℕ, suc, ◌+◌, ◌*◌, ◌≤◌, cond, List, ◌∷◌, length, take, drop, None, Ok, Err, Option, Result, sym, refl, ap, ◌∙◌, subst, arith, eq-eqb}
use lib.Ieee.{Float}
use Rattle.std.proofs.lemmas.List.{take-append-drop, length-take-le}
use Rattle.points.specs.Faults.{raised, after, in_layer}
use Rattle.points.specs.declared.fault.Cause.{Cause}
use Rattle.points.specs.declared.fault.Cause.TheVariants.{ReferenceChanged}
use Rattle.points.specs.declared.fault.Fault.{Fault}
use Rattle.points.specs.declared.fault.Layer.TheVariants.{Table}
use Rattle.points.specs.declared.point.Point.{Point}
use Rattle.frechet.specs.Next.{row_allowed, row_of_lines, row_in_cells, row_unless, next_row}
use Rattle.frechet.specs.Row.{last_from, row_start, row_before, written}
use Rattle.frechet.specs.Table.{Rows, shorter}
use Rattle.frechet.proofs.Asking.{Allowed, allowed, shorter_min, before_kept, before_front, row_short}
use Rattle.frechet.proofs.Halves.{row_whole, next_before, half_room}
use Rattle.book.specs.Book.{Book, newest, with_row, row_run, rowed}
use Rattle.plan.specs.Rows.{Progress, counted, called_unless, row_called, Calls}

module _ {S : Type 0} where
  -- where a comparison has come to with the rows of a book
  abbrev pub came_to : Book S → Progress
  came_to b = record {
    reference = length b.reference;
    done = length b.rows;
    last = last_from None (newest b.rows);
  }

  -- the book with one row more
  abbrev pub one_more : Book S → S → List Float → Book S
  one_more b s cs = record {
    line = b.line;
    aside = b.aside;
    reference = b.reference;
    rows = record { space = s; cells = cs } ∷ b.rows;
  }

  -- how many cells a row of the book has, and the newest row in its cells
  abbrev pub width : Book S → ℕ
  width b = length (shorter b.line b.reference)

  abbrev pub InCells : Book S → List Float → Type 0
  InCells b xs = row_before (length b.rows) (length (shorter b.line b.reference)) xs ≡ newest b.rows

  pub record Reached (b : Book S) (p : Progress) (xs : List Float) : Type 0 where
    pub come : p ≡ came_to b
    pub cells : InCells b xs

  -- a row by its result
  abbrev pub Asks : Book S → S → Result (Book S) Fault → Progress → List Float → Result (Unit {0}) Fault → Type 0
  Asks b s on p xs (Ok _) = (cs : List Float) × (on ≡ Ok (one_more b s cs)) × Reached (one_more b s cs) p xs
  Asks b s on p xs (Err f) = (on ≡ Err f) × Reached b p xs

-- of the cells xs the first m were given, and hold ys now
module _ {S : Type 0} (far : Point → Point → Result Float Fault) (b : Book S) (s : S) (m : ℕ)
    (xs xs' : List Float) (cells : InCells b xs) (inside : m ≤ length xs) (rest : drop m xs' ≡ drop m xs) where
  long : length (take m xs) ≡ m
  long = length-take-le m xs inside

  whole : take m xs' ≡ take m xs → xs' ≡ xs
  whole e = let before = take-append-drop m xs in let after = take-append-drop m xs' in cc

  -- a row that was asked for
  module _ (ok : Allowed (length b.rows) (length b.line) (length b.reference) m) where
    room : 2 * width b ≤ m
    room = omega (arith, ok.room, shorter_min b.line b.reference)

    under : row_before (length b.rows) (width b) (take m xs) ≡ newest b.rows
    under = before_front (length b.rows) (width b) m xs room ∙ cells

    after_row : (p : Progress) (r : Result (Unit {0}) Fault) (o : Result (Option Float) Fault)
        → (row_run far b).outcome ≡ o
        → Calls (counted (came_to b) (written (row_start (length b.rows) (width b)) (row_run far b).cells
        (take m xs)) o) p (take m xs') r
        → Asks b s (with_row b s (row_run far b)) p xs' r
    after_row p r (Err f) e u = subst (Asks b s (with_row b s (row_run far b)) p xs') (sym u.result) (
      ap (λ v. after v (λ _. Ok (one_more b s (row_run far b).cells))) e,
      record {
        come = u.progress;
        cells =
            sym (before_front (length b.rows) (width b) m xs' room)
            ∙ ap (row_before (length b.rows) (width b)) u.cells
            ∙ before_kept (length b.rows) (width b) (row_run far b).cells (take m xs)
            (row_short far (length b.rows) b.line b.reference (newest b.rows))
            (omega (arith, room, long))
            ∙ under;
      },
    )
    after_row p r (Ok l) e u =
        let full = row_whole (far _) (newest b.rows) 0 None None l (shorter b.line b.reference) e in
        let one : length b.rows + 1 ≡ suc (length b.rows) = omega arith in
        subst (Asks b s (with_row b s (row_run far b)) p xs') (sym u.result) (
          (row_run far b).cells,
          ap (λ v. after v (λ _. Ok (one_more b s (row_run far b).cells))) e,
          record {
            come = let last = full.ends in cc;
            cells =
                ap (λ n. row_before n (width b) xs') (sym one)
                ∙ sym (before_front (length b.rows + 1) (width b) m xs' room)
                ∙ ap (row_before (length b.rows + 1) (width b)) u.cells
                ∙ next_before (length b.rows) (width b) (row_run far b).cells (take m xs) full.full
                (half_room (length b.rows) (width b) (length (take m xs)) (omega (arith, room, long)));
          },
        )

  -- the checks beforehand, and the row
  by_checks : (p : Progress) (r : Result (Unit {0}) Fault) (v : Result (Unit {0}) Cause)
      → row_allowed (length b.rows) (length b.line) (length b.reference) m ≡ v
      → (row : Rows)
      → row ≡ row_unless (in_layer v Table) (take m xs) (row_in_cells far (length b.rows) b.line
      b.reference (take m xs))
      → Calls (counted (came_to b) row.cells row.last) p (take m xs') r
      → Asks b s (after (in_layer v Table) (λ _. with_row b s (row_run far b))) p xs' r
  by_checks p r (Err f) e row is u =
      let w = subst (λ q. Calls (counted (came_to b) q.cells q.last) p (take m xs') r) is u in
      subst (Asks b s (Err (raised f Table)) p xs') (sym w.result) (
        refl,
        record {
          come = w.progress;
          cells = ap (row_before (length b.rows) (width b)) (whole w.cells) ∙ cells;
        },
      )
  by_checks p r (Ok x) e row is u =
      let ok = allowed (length b.rows) (length b.line) (length b.reference) m e in
      let w = subst (λ q. Calls (counted (came_to b) q.cells q.last) p (take m xs') r) is u in
      after_row ok p r (row_run far b).outcome refl
      (subst (λ above. Calls (counted (came_to b)
      (written (row_start (length b.rows) (width b))
      (row_of_lines far (length b.rows) b.line b.reference above).cells (take m xs))
      (row_of_lines far (length b.rows) b.line b.reference above).outcome) p (take m xs') r)
      (under ok) w)

  -- the reference's count is that at open
  pub row_asks : (p : Progress) (r : Result (Unit {0}) Fault)
      → Calls (row_called far (came_to b) b.line b.reference (take m xs)) p (take m xs') r
      → Asks b s (rowed m far s b) p xs' r
  row_asks p r u =
      let k = length b.rows in
      let row = next_row far Table k b.line b.reference (take m xs) in
      by_checks p r (row_allowed k (length b.line) (length b.reference) m) refl row
      (ap (λ n. row_unless (in_layer (row_allowed k (length b.line) (length b.reference) n) Table) (take m xs)
      (row_in_cells far k b.line b.reference (take m xs))) long)
      (subst (λ v. Calls (called_unless (in_layer (cond v (Ok tt) (Err ReferenceChanged)) Table) (came_to b)
      (take m xs) (counted (came_to b) row.cells row.last)) p (take m xs') r)
      (eq-eqb (length b.reference) (length b.reference) refl) u)
