-- One row of two lines by itself: which row it is, when it is refused, and what the cells hold then.
use Rattle.std.specs.Prelude.{ℕ, min, max, cond, List, length, Ok, Err, Result, ◌==◌, nat_lt, slice_index_or, Float}
use Rattle.points.specs.declared.fault.Cause.{Cause}
use Rattle.points.specs.declared.fault.Cause.TheVariants.{NoRowLeft}
use Rattle.points.specs.declared.fault.Fault.{Fault}
use Rattle.points.specs.declared.fault.Layer.{Layer}
use Rattle.points.specs.declared.point.Point.{Point}
use Rattle.points.specs.Faults.{in_layer}
use Rattle.frechet.specs.Row.{Run, row_of, row_start, row_before, written}
use Rattle.frechet.specs.Table.{Rows, longer, shorter, room_for}
use Rattle.frechet.specs.Theorem.{nowhere}

-- a row for each point of the longer line, and none where a line is empty
abbrev pub row_count : ℕ → ℕ → ℕ
row_count a b = cond (min a b == 0) 0 (max a b)

-- row k of the lines A and B: from the longer line's point k to each point of the shorter, under the row before
abbrev pub row_of_lines : (Point → Point → Result Float Fault) → ℕ → List Point → List Point → List Float → Run
row_of_lines far k A B above = row_of (far (slice_index_or (longer A B) k nowhere)) above (shorter A B)

-- refused beforehand: after the last row, and then where there are fewer than two cells for each point of the
-- shorter line
abbrev pub row_allowed : ℕ → ℕ → ℕ → ℕ → Result (Unit {0}) Cause
row_allowed k a b cells = cond (nat_lt k (row_count a b)) (room_for cells a b) (Err NoRowLeft)

-- row k in its half of the cells, under the row that stands in the other half
abbrev pub row_in_cells : (Point → Point → Result Float Fault) → ℕ → List Point → List Point → List Float → Rows
row_in_cells far k A B xs =
    let s = length (shorter A B) in
    let run = row_of_lines far k A B (row_before k s xs) in
    record { last = run.outcome; cells = written (row_start k s) run.cells xs }

-- a refusal beforehand leaves the cells
abbrev pub row_unless : Result (Unit {0}) Fault → List Float → Rows → Rows
row_unless (Err f) xs next = record { last = Err f; cells = xs }
row_unless (Ok _) xs next = next

-- what is answered, and what the cells hold then
abbrev pub next_row : (Point → Point → Result Float Fault) → Layer → ℕ → List Point → List Point → List Float
    → Rows
next_row far layer k A B xs =
    row_unless (in_layer (row_allowed k (length A) (length B) (length xs)) layer) xs (row_in_cells far k A B xs)
