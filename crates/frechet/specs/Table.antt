-- All rows of two lines, what is answered, and what the cells hold then.
use Rattle.std.specs.Prelude.{ℕ, ◌+◌, ◌/◌, min, cond, List, [], ◌∷◌, length, Some, None, Ok, Err, Option, Result, ◌==◌, nat_le, Float}
use Rattle.points.specs.declared.fault.Cause.{Cause}
use Rattle.points.specs.declared.fault.Cause.TheVariants.{NoRoom}
use Rattle.points.specs.declared.fault.Fault.{Fault}
use Rattle.points.specs.declared.fault.Layer.TheVariants.{Line}
use Rattle.points.specs.declared.point.Point.{Point}
use Rattle.points.specs.Faults.{after, in_layer}
use Rattle.points.specs.Rounded.{zero64}
use Rattle.points.specs.Walks.{fits}
use Rattle.frechet.specs.Row.{row_of, row_start, written}

-- the last cell of the last row, if any, or why a row stopped; and the cells
pub record Rows : Type 0 where
  pub last : Result (Option Float) Fault
  pub cells : List Float

-- a row that stopped is the last
abbrev pub row_then : Result (Option Float) Fault → List Float → (Option Float → List Float → Rows) → Rows
row_then (Err f) xs go = record { last = Err f; cells = xs }
row_then (Ok l) xs go = go l xs

-- the rows from row k on, for the points of the longer line that are left, under the row `above` with its last cell
abbrev pub rows_from : (Point → Point → Result Float Fault) → ℕ → List Float → Option Float
    → List Point → List Point → List Float → Rows
rows_from far k above last [] shorter xs = record { last = Ok last; cells = xs }
rows_from far k above last (p ∷ ps) shorter xs =
    let run = row_of (far p) above shorter in
    row_then run.outcome (written (row_start k (length shorter)) run.cells xs)
    (λ l ys. rows_from far (k + 1) run.cells l ps shorter ys)

-- the answer or the refusal, and the cells
pub record Compared : Type 0 where
  pub result : Result Float Fault
  pub cells : List Float

-- a table without a row answers zero
abbrev pub answer_of : Result (Option Float) Fault → Result Float Fault
answer_of (Err f) = Err f
answer_of (Ok None) = Ok zero64
answer_of (Ok (Some d)) = Ok d

abbrev pub tabled : (Point → Point → Result Float Fault) → List Point → List Point → List Float → Compared
tabled far longer shorter xs =
    let all = rows_from far 0 [] None longer shorter xs in
    record { result = answer_of all.last; cells = all.cells }

-- the first line is the shorter if its count is at most the second's
abbrev pub shorter : List Point → List Point → List Point
shorter A B = cond (nat_le (length A) (length B)) A B

abbrev pub longer : List Point → List Point → List Point
longer A B = cond (nat_le (length A) (length B)) B A

-- two cells for each point of the shorter line
abbrev pub room_for : ℕ → ℕ → ℕ → Result (Unit {0}) Cause
room_for cells a b = cond (nat_le (min a b) (cells / 2)) (Ok tt) (Err NoRoom)

-- lines of at most 65,535 points, and room
abbrev pub allowed : ℕ → ℕ → ℕ → Result (Unit {0}) Cause
allowed a b cells = after (fits a) (λ _. after (fits b) (λ _. room_for cells a b))

-- a refusal beforehand leaves the cells
abbrev pub unless : Result (Unit {0}) Fault → List Float → Compared → Compared
unless (Err f) xs next = record { result = Err f; cells = xs }
unless (Ok _) xs next = next

-- the discrete Fréchet distance; with an empty line there are no rows, and the answer is zero
abbrev pub frechet : (Point → Point → Result Float Fault) → List Point → List Point → List Float → Compared
frechet far A B xs =
    unless (in_layer (allowed (length A) (length B) (length xs)) Line) xs
    (cond (min (length A) (length B) == 0)
    (record { result = Ok zero64; cells = xs })
    (tabled far (longer A B) (shorter A B) xs))
