-- How a table, its head or open comparison, and the row buffer stand to the line book.
use Rattle.std.specs.Prelude.{◌≡◌, Bool, true, false, List, length, None, Ok, Err, Result, Float}
use Rattle.points.specs.declared.fault.Fault.{Fault}
use Rattle.points.specs.declared.point.Point.{Point}
use Rattle.frechet.specs.Row.{last_from, row_before}
use Rattle.frechet.specs.Table.{shorter}
use Rattle.book.specs.Book.{Book, newest}
use Rattle.book.specs.Calls.{Moment}
use Rattle.table.specs.declared.Record.{Record}
use Rattle.table.specs.declared.Head.{Head}
use Rattle.table.specs.Lines.{kept_line, set_aside}
use Rattle.table.specs.Whole.{Checked}
use Rattle.plan.specs.declared.comparison.Comparison.{Comparison}
use Rattle.plan.specs.declared.state.State.{State}
use Rattle.plan.specs.declared.state.State.TheVariants.{Editing, Comparing}

-- the table is whole and keeps the book's line; line i set aside is the line without the records of edit i and
-- later ones, and the newest edit number is how many lines are set aside
pub record Kept {S : Type 0} (b : Book S) (t : List Record) (h : Head) : Type 0 where
  pub checked : Checked t h
  pub line : kept_line t h ≡ b.line
  pub aside : set_aside t h ≡ b.aside
  pub newest_is : h.newest ≡ length b.aside

-- the comparison has the book's reference and has come as far as its rows, and the newest row stands in its
-- cells: row k in the cells from (k mod 2) × s on, for a shorter line of s points
pub record RowsStand {S R : Type 0} (coords : R → List Point) (b : Book S) (xs : List Float) (c : Comparison)
    (r : R) : Type 0 where
  pub reference : coords r ≡ b.reference
  pub counted : c.reference ≡ length b.reference
  pub done : c.done ≡ length b.rows
  pub last : c.last ≡ last_from None (newest b.rows)
  pub cells : row_before (length b.rows) (length (shorter b.line b.reference)) xs ≡ newest b.rows

-- what an edit does, by its result, where the book goes on to `on`: an accepted edit leads to the next book,
-- which stands then; a refused one is refused by the book too, which stands as before
abbrev pub Does : {S : Type 0} → Book S → Result (Book S) Fault → List Record → Head → Result (Unit {0}) Fault
    → Type 0
Does {S} b on t h (Ok _) = (b' : Book S) × (on ≡ Ok b') × Kept b' t h
Does b on t h (Err f) = (on ≡ Err f) × Kept b t h

-- what a row does
abbrev pub RowDoes : {S R : Type 0} → (R → List Point) → Book S → Result (Book S) Fault → List Record
    → List Float → Comparison → R → Result (Unit {0}) Fault → Type 0
RowDoes {S} coords b on t xs c r (Ok _) =
    (b' : Book S) × (on ≡ Ok b') × Kept b' t c.head × RowsStand coords b' xs c r
RowDoes coords b on t xs c r (Err f) = (on ≡ Err f) × Kept b t c.head × RowsStand coords b xs c r

abbrev pub Stands : {S R : Type 0} → (R → List Point) → Book S → List Record → List Float → State R → Type 0
Stands coords b t xs (Editing h) = Kept b t h
Stands coords b t xs (Comparing c r) = Kept b t c.head × RowsStand coords b xs c r

abbrev pub is_comparing : {R : Type 0} → State R → Bool
is_comparing (Editing h) = false
is_comparing (Comparing c r) = true

-- the same of a moment in a list of calls, at which a comparison is open or not
pub record StandsAt {S R : Type 0} (coords : R → List Point) (at : Moment S) (t : List Record) (xs : List Float)
    (s : State R) : Type 0 where
  pub turn : is_comparing s ≡ at.comparing
  pub book : Stands coords at.book t xs s
