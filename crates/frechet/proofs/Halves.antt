-- One row after another in the two halves of a buffer.
use Rattle.std.proofs.Common.{◌≡◌, ℕ, suc, ◌+◌, ◌*◌, ◌%◌, ◌≤◌, false, cond, eqb, List, [], ◌∷◌, length, take, drop, Some, Ok, Err, Option, Result, refl, ap, ◌∙◌, ◌⊎◌, inl, inr, ⊎_elim, arith}
use lib.Ieee.{Float}
use Rattle.std.specs.List.{slice_get}
use Rattle.std.proofs.lemmas.List.{take_at, drop_at, length-take-le}
use Rattle.std.proofs.lemmas.Bool.{ne_eqb, cases_lt}
use Rattle.points.specs.declared.fault.Fault.{Fault}
use Rattle.points.specs.declared.point.Point.{Point}
use Rattle.frechet.specs.Row.{Run, cell_of, cell_then, cell_and, last_from, row_from, row_start, row_before, over, written}

-- a row that was not stopped has a cell for each point, and answers its last
pub record Whole (qs : List Point) (left : Option Float) (l : Option Float) (run : Run) : Type 0 where
  pub full : length run.cells ≡ length qs
  pub ends : l ≡ last_from left run.cells

more_whole : (n : ℕ) (q : Point) (qs : List Point) (left l : Option Float) (r : Result Float Fault)
    (cell : Float → Float) (go : Float → Run) →
    ((c : Float) → (go c).outcome ≡ Ok l → Whole qs (Some c) l (go c)) →
    (cell_then n r (λ d. cell_and (cell d) go)).outcome ≡ Ok l
    → Whole (q ∷ qs) left l (cell_then n r (λ d. cell_and (cell d) go))
more_whole n q qs left l (Err f) cell go ih e = absurd cc
more_whole n q qs left l (Ok d) cell go ih e =
    let w = ih (cell d) e in
    record { full = ap suc w.full; ends = w.ends }

pub row_whole : (far : Point → Result Float Fault) (above : List Float) (n : ℕ)
    (diagonal left l : Option Float) (qs : List Point) → (row_from far above n diagonal left qs).outcome ≡ Ok l
    → Whole qs left l (row_from far above n diagonal left qs)
row_whole far above n diagonal left l [] e = record { full = refl; ends = cc }
row_whole far above n diagonal left l (q ∷ qs) e =
    more_whole n q qs left l (far q) (λ d. cell_of d (slice_get above n) diagonal left)
    (λ c. row_from far above (n + 1) (slice_get above n) (Some c) qs)
    (λ c. row_whole far above (n + 1) (slice_get above n) (Some c) l qs) e

-- the row that was written last is the row before the next
pub next_before : (k s : ℕ) (cs xs : List Float) → length cs ≡ s → row_start k s ≤ length xs
    → row_before (k + 1) s (written (row_start k s) cs xs) ≡ cs
next_before k s cs xs full room =
    let n = row_start k s in
    let not0 : eqb (k + 1) 0 ≡ false = ne_eqb (k + 1) 0 (λ e. omega arith) in
    let same : row_start (k + 1 + 1) s ≡ n = ap (λ m. m * s) (omega arith) in
    ap (λ b. cond b [] (take s (drop (row_start (k + 1 + 1) s) (written n cs xs)))) not0
    ∙ ap (λ m. take s (drop m (written n cs xs))) same
    ∙ ap (take s) (drop_at (take n xs) (over cs (drop n xs)) n (length-take-le n xs room))
    ∙ take_at cs (drop (length cs) (drop n xs)) s full

-- of a row and the next, one begins at the first cell and one after a row
pub starts : (k s : ℕ)
    → ((row_start k s ≡ 0) × (row_start (k + 1) s ≡ s)) ⊎ ((row_start k s ≡ s) × (row_start (k + 1) s ≡ 0))
starts k s =
    ⊎_elim
    (λ l. let e : k % 2 ≡ 0 = omega arith in let f : (k + 1) % 2 ≡ 1 = omega arith in
    inl (rw e (omega arith), rw f (omega arith)))
    (λ l. let e : k % 2 ≡ 1 = omega arith in let f : (k + 1) % 2 ≡ 0 = omega arith in
    inr (rw e (omega arith), rw f (omega arith)))
    (cases_lt (k % 2) 1)

pub half_room : (k s size : ℕ) → 2 * s ≤ size → row_start k s ≤ size
half_room k s size h = ⊎_elim (λ e. omega arith) (λ e. omega arith) (starts k s)
