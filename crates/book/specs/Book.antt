-- The line book, a history of a kept line on paper: what it holds, and what each call does to it. It is fed the
-- number of records and what the callers hand in, and knows no record, no index and no cell of a buffer. A call
-- gives the next book, or is refused by the first cause in the order of the checks.
use Rattle.std.specs.Prelude.{ℕ, ◌-◌, Bool, cond, not, List, [], ◌∷◌, ◌++◌, length, Some, None, Ok, Err, Option, Result, ◌==◌, nat_le, nat_lt, Float}
use Rattle.points.specs.declared.fault.Cause.TheVariants.{NotFinite, NoRoom, NoEditNumber, NothingToUndo}
use Rattle.points.specs.declared.fault.Fault.{Fault}
use Rattle.points.specs.declared.fault.Layer.TheVariants.{Table}
use Rattle.points.specs.declared.point.Point.{Point}
use Rattle.points.specs.Faults.{raised, placed, after, in_layer}
use Rattle.points.specs.Finite.{first_unfit}
use Rattle.points.specs.Limits.{last_edit}
use Rattle.points.specs.Rounded.{zero64}
use Rattle.points.specs.Walks.{fits}
use Rattle.measures.specs.Pieces.{checked_maximum, densified}
use Rattle.frechet.specs.Row.{Run, last_from}
use Rattle.frechet.specs.Next.{row_count, row_allowed, row_of_lines}

-- the cells of a row, and the space that it was asked in
pub record Asked (S : Type 0) : Type 0 where
  pub space : S
  pub cells : List Float

-- the line, the lines set aside, the reference and the rows; of lines and of rows the newest comes first
pub record Book (S : Type 0) : Type 0 where
  pub line : List Point
  pub aside : List (List Point)
  pub reference : List Point
  pub rows : List (Asked S)

abbrev pub empty_book : {S : Type 0} → Book S
empty_book = record { line = []; aside = []; reference = []; rows = [] }

-- where this is so the call is refused by this fault, and else it goes on
abbrev pub refuse : {X : Type 0} → Bool → Fault → Result X Fault → Result X Fault
refuse so fault on = cond so (Err fault) on

module _ {S : Type 0} where
  -- of n records all but one, which no chain has, and those of the line are free
  abbrev pub free_records : ℕ → Book S → ℕ
  free_records n b = n - 1 - length b.line

  -- as many edits can be taken back as there are lines set aside; no number is left for one more
  abbrev pub no_edit_left : Book S → Bool
  no_edit_left b = nat_le last_edit (length b.aside)

  -- an edit sets the line aside
  abbrev pub edited : Book S → List Point → Book S
  edited b l = record { line = l; aside = b.line ∷ b.aside; reference = b.reference; rows = b.rows }

  -- append adds its points at the end
  abbrev pub appended : ℕ → Book S → List Point → Result (Book S) Fault
  appended n b ps =
      refuse (not (first_unfit 0 ps == 0)) (placed (first_unfit 0 ps) (raised NotFinite Table))
      (refuse (no_edit_left b) (raised NoEditNumber Table)
      (refuse (nat_lt (free_records n b) (length ps)) (raised NoRoom Table)
      (Ok (edited b (b.line ++ ps)))))

  -- densify puts in the points of its rule, by the distances and the points at a ratio of a space
  abbrev pub refined : ℕ → (Point → Point → Result Float Fault) → (Point → Point → Float → Result Point Fault)
      → Float → Book S → Result (Book S) Fault
  refined n far ratio most b =
      after (in_layer (checked_maximum most) Table) (λ _.
      refuse (no_edit_left b) (raised NoEditNumber Table)
      (after (densified far ratio Table most (free_records n b) b.line) (λ l. Ok (edited b l))))

  -- undo takes back the newest line set aside
  abbrev pub taken_back : Book S → List (List Point) → Result (Book S) Fault
  taken_back b [] = Err (raised NothingToUndo Table)
  taken_back b (l ∷ ls) = Ok (record { line = l; aside = ls; reference = b.reference; rows = b.rows })

  abbrev pub undone : Book S → Result (Book S) Fault
  undone b = taken_back b b.aside

  -- settle drops all set aside
  abbrev pub settled : Book S → Book S
  settled b = record { line = b.line; aside = []; reference = b.reference; rows = b.rows }

  -- open takes the reference and drops the rows
  abbrev pub referred : Book S → List Point → Book S
  referred b ps = record { line = b.line; aside = b.aside; reference = ps; rows = [] }

  abbrev pub opened : Book S → List Point → Result (Book S) Fault
  opened b ps = after (in_layer (fits (length ps)) Table) (λ _. Ok (referred b ps))

  -- the cells of the newest row, if there is one
  abbrev pub newest : List (Asked S) → List Float
  newest [] = []
  newest (r ∷ rs) = r.cells

  -- row adds the next row of the two lines, under the newest; a row that was stopped is not added
  abbrev pub with_row : Book S → S → Run → Result (Book S) Fault
  with_row b s run = after run.outcome (λ _. Ok (record {
    line = b.line;
    aside = b.aside;
    reference = b.reference;
    rows = record { space = s; cells = run.cells } ∷ b.rows;
  }))

  abbrev pub row_run : (Point → Point → Result Float Fault) → Book S → Run
  row_run far b = row_of_lines far (length b.rows) b.line b.reference (newest b.rows)

  -- asked in the space s with these distances, and given m cells
  abbrev pub rowed : ℕ → (Point → Point → Result Float Fault) → S → Book S → Result (Book S) Fault
  rowed m far s b =
      after (in_layer (row_allowed (length b.rows) (length b.line) (length b.reference) m) Table)
      (λ _. with_row b s (row_run far b))

  -- how many rows a complete comparison has
  abbrev pub all_rows : Book S → ℕ
  all_rows b = row_count (length b.line) (length b.reference)

  -- close answers none while rows remain, zero where there are no rows to ask, and else the newest row's last cell
  abbrev pub closing : Book S → Option Float
  closing b =
      cond (nat_lt (length b.rows) (all_rows b)) None
      (cond (all_rows b == 0) (Some zero64) (last_from None (newest b.rows)))
