-- One row of the table of two lines, where a distance may be refused, and the cells that it is written to.
use Rattle.std.specs.Prelude.{ℕ, ◌+◌, ◌*◌, ◌%◌, cond, List, [], ◌∷◌, ◌++◌, length, take, drop, Some, None, Ok, Err, Option, Result, ◌==◌, Float}
use Rattle.std.specs.Float.Ieee.{lt}
use Rattle.std.specs.List.{slice_get}
use Rattle.couplings.specs.Rows.{larger, lesser, cell}
use Rattle.points.specs.declared.fault.Fault.{Fault}
use Rattle.points.specs.declared.point.Point.{Point}
use Rattle.points.specs.Faults.{placed}

-- what there is, as a list
abbrev pub listed : Option Float → List Float
listed None = []
listed (Some x) = x ∷ []

-- The larger of a distance and the least of the cells before it, in the order in which they are named: above, above to
-- the left, to the left, as far as they exist. `lt` alone decides, so a tie or a NaN leaves the one named first.
abbrev pub cell_of : Float → Option Float → Option Float → Option Float → Float
cell_of d up diagonal left = cell lt (λ v. v) (larger lt) d (listed up ++ (listed diagonal ++ listed left))

-- the lesser of two cells, as far as they exist
abbrev pub least_of : Option Float → Option Float → Option Float
least_of None b = b
least_of (Some a) None = Some a
least_of (Some a) (Some b) = Some (lesser lt a b)

-- the cells of a row as far as it came, and its last cell, if any, or why it stopped
pub record Run : Type 0 where
  pub cells : List Float
  pub outcome : Result (Option Float) Fault

abbrev pub onto : List Float → Run → Run
onto cs run = record { cells = cs ++ run.cells; outcome = run.outcome }

-- a refused distance stops the row at its cell, counted from 1
abbrev pub cell_then : ℕ → Result Float Fault → (Float → Run) → Run
cell_then n (Err f) go = record { cells = []; outcome = Err (placed (n + 1) f) }
cell_then n (Ok d) go = go d

abbrev pub cell_and : Float → (Float → Run) → Run
cell_and c go = onto (c ∷ []) (go c)

-- the row from cell n on, for the points that are left; `above` is the row before, and empty at the first row
abbrev pub row_from : (Point → Result Float Fault) → List Float → ℕ → Option Float → Option Float → List Point
    → Run
row_from far above n diagonal left [] = record { cells = []; outcome = Ok left }
row_from far above n diagonal left (q ∷ qs) =
    cell_then n (far q) (λ d. cell_and (cell_of d (slice_get above n) diagonal left)
    (λ c. row_from far above (n + 1) (slice_get above n) (Some c) qs))

abbrev pub row_of : (Point → Result Float Fault) → List Float → List Point → Run
row_of far above qs = row_from far above 0 None None qs

-- the last cell, if any
abbrev pub last_from : Option Float → List Float → Option Float
last_from left [] = left
last_from left (c ∷ cs) = last_from (Some c) cs

-- cs written over the front of xs, and into xs from place n on
abbrev pub over : List Float → List Float → List Float
over cs xs = cs ++ drop (length cs) xs

abbrev pub written : ℕ → List Float → List Float → List Float
written n cs xs = take n xs ++ over cs (drop n xs)

-- of two rows of s cells in one buffer: where row k begins, and the row before it, which the first row lacks
abbrev pub row_start : ℕ → ℕ → ℕ
row_start k s = k % 2 * s

abbrev pub row_before : ℕ → ℕ → List Float → List Float
row_before k s xs = cond (k == 0) [] (take s (drop (row_start (k + 1) s) xs))
