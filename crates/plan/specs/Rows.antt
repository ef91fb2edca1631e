-- How far a comparison has come, what a row leaves, and what close answers.
use Rattle.std.specs.Prelude.{◌≡◌, ℕ, ◌+◌, ◌-◌, cond, ◌⊎◌, List, length, Some, None, Ok, Err, Option, Result, ◌==◌, nat_lt, Float}
use Rattle.points.specs.Faults.{in_layer}
use Rattle.points.specs.Rounded.{zero64}
use Rattle.points.specs.declared.fault.Cause.{Cause}
use Rattle.points.specs.declared.fault.Cause.TheVariants.{ReferenceChanged}
use Rattle.points.specs.declared.fault.Fault.{Fault}
use Rattle.points.specs.declared.fault.Layer.TheVariants.{Table}
use Rattle.points.specs.declared.point.Point.{Point}
use Rattle.frechet.specs.Next.{row_count, next_row}
use Rattle.table.specs.declared.Record.{Record}
use Rattle.table.specs.Lines.{kept_line}
use Rattle.table.specs.Whole.{Checked, BadTable}
use Rattle.plan.specs.declared.comparison.Comparison.{Comparison}

-- the reference's count at open, the rows accepted, and the newest row's last cell
pub record Progress : Type 0 where
  pub reference : ℕ
  pub done : ℕ
  pub last : Option Float

abbrev pub progress : Comparison → Progress
progress c = record { reference = c.reference; done = c.done; last = c.last }

-- how many rows remain, for a kept line of so many points
abbrev pub rows_left : ℕ → Progress → ℕ
rows_left kept p = row_count kept p.reference - p.done

-- refusal 12: the reference has not the count that it had at open
abbrev pub same_count : ℕ → Progress → Result (Unit {0}) Cause
same_count n p = cond (n == p.reference) (Ok tt) (Err ReferenceChanged)

-- what a row leaves
pub record Called : Type 0 where
  pub progress : Progress
  pub cells : List Float
  pub result : Result (Unit {0}) Fault

-- one row more was accepted, with this last cell
abbrev pub one_more : Progress → Option Float → Progress
one_more p l = record { reference = p.reference; done = p.done + 1; last = l }

-- an accepted row is counted
abbrev pub counted : Progress → List Float → Result (Option Float) Fault → Called
counted p xs (Err f) = record { progress = p; cells = xs; result = Err f }
counted p xs (Ok l) = record { progress = one_more p l; cells = xs; result = Ok tt }

abbrev pub called_unless : Result (Unit {0}) Fault → Progress → List Float → Called → Called
called_unless (Err f) p xs on = record { progress = p; cells = xs; result = Err f }
called_unless (Ok _) p xs on = on

-- a row of the kept line A and the reference B, in cells that hold xs: the reference's count is looked at first
abbrev pub row_called : (Point → Point → Result Float Fault) → Progress → List Point → List Point → List Float
    → Called
row_called far p A B xs =
    let row = next_row far Table p.done A B xs in
    called_unless (in_layer (same_count (length B) p) Table) p xs (counted p row.cells row.last)

-- the three parts are those of `to`
pub record Calls (to : Called) (p : Progress) (xs : List Float) (r : Result (Unit {0}) Fault) : Type 0 where
  pub progress : p ≡ to.progress
  pub cells : xs ≡ to.cells
  pub result : r ≡ to.result

-- refusals 1 and 2: the table is refused, and nothing changes
pub record TableRefused (t : List Record) (c : Comparison) (xs : List Float) (c' : Comparison) (xs' : List Float)
    (r : Result (Unit {0}) Fault) : Type 0 where
  pub fault : Fault
  pub bad : BadTable t c.head fault
  pub result : r ≡ Err fault
  pub same : c' ≡ c
  pub cells : xs' ≡ xs

-- on a whole table: the row of its kept line
pub record RowAsked (far : Point → Point → Result Float Fault) (t : List Record) (c : Comparison)
    (B : List Point) (xs : List Float) (c' : Comparison) (xs' : List Float)
    (r : Result (Unit {0}) Fault) : Type 0 where
  pub checked : Checked t c.head
  pub called : Calls (row_called far (progress c) (kept_line t c.head) B xs) (progress c') xs' r

-- what a row leaves, on any table
abbrev pub RowOutcome : (Point → Point → Result Float Fault) → List Record → Comparison → List Point
    → List Float → Comparison → List Float → Result (Unit {0}) Fault → Type 0
RowOutcome far t c B xs c' xs' r = TableRefused t c xs c' xs' r ⊎ RowAsked far t c B xs c' xs' r

-- what a comparison answers of whose rows so many were accepted, with this last cell: none while rows remain, and
-- zero where there are none to ask
abbrev pub answer_of : ℕ → ℕ → Option Float → Option Float
answer_of rows done last = cond (nat_lt done rows) None (cond (rows == 0) (Some zero64) last)

-- what close answers, for a kept line of so many points
abbrev pub closes : ℕ → Progress → Option Float
closes kept p = answer_of (row_count kept p.reference) p.done p.last
