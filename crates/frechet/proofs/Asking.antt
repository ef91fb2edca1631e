-- What a row that was not refused beforehand tells, and where it stands in the cells.
use Rattle.std.proofs.Common.{◌≡◌, ℕ, ◌+◌, ◌*◌, ◌<◌, ◌≤◌, min, max, cond, eqb, List, [], length, take, drop, None, Ok, Err, Option, Result, sym, refl, ap, ◌∙◌, inl, inr, ⊎_elim, arith}
use lib.Ieee.{Float}
use Rattle.std.proofs.lemmas.List.{drop-take, take-take}
use Rattle.std.proofs.lemmas.Bool.Decides.{nat_tests}
use Rattle.points.specs.declared.fault.Cause.{Cause}
use Rattle.points.specs.declared.fault.Fault.{Fault}
use Rattle.points.specs.declared.fault.Layer.{Layer}
use Rattle.points.specs.declared.point.Point.{Point}
use Rattle.points.specs.Faults.{in_layer}
use Rattle.frechet.specs.Next.{row_count, row_allowed, row_of_lines, row_in_cells, row_unless, next_row}
use Rattle.frechet.specs.Row.{row_start, row_before, written}
use Rattle.frechet.specs.Table.{shorter}
use Rattle.frechet.proofs.Filling.{unread, length_row}
use Rattle.frechet.proofs.Halves.{starts, half_room}

-- ---- the checks beforehand

-- the row is one of the rows, and there are two cells for each point of the shorter line
pub record Allowed (k a b m : ℕ) : Type 0 where
  pub left : k < row_count a b
  pub room : 2 * min a b ≤ m

pub allowed : (k a b m : ℕ) → row_allowed k a b m ≡ Ok tt → Allowed k a b m
allowed k a b m e = record { left = grind (arith, nat_tests); room = grind (arith, nat_tests) }

pub answered_allowed : (far : Point → Point → Result Float Fault) (layer : Layer) (k : ℕ) (A B : List Point)
    (xs : List Float) (l : Option Float) → (next_row far layer k A B xs).last ≡ Ok l
    → row_allowed k (length A) (length B) (length xs) ≡ Ok tt
answered_allowed far layer k A B xs l e = go (row_allowed k (length A) (length B) (length xs)) e
  where
    go : (r : Result (Unit {0}) Cause) → (row_unless (in_layer r layer) xs (row_in_cells far k A B xs)).last ≡ Ok l
        → r ≡ Ok tt
    go (Ok t) q = refl
    go (Err c) q = absurd cc

-- ---- how many rows there are

pub shorter_min : (A B : List Point) → length (shorter A B) ≡ min (length A) (length B)
shorter_min A B = grind (arith, nat_tests)

pub count_most : (a b : ℕ) → row_count a b ≤ max a b
count_most a b = grind (arith, nat_tests)

-- ---- the two halves of the cells

-- a row leaves the row before as it was
pub before_kept : (k s : ℕ) (cs xs : List Float) → length cs ≤ s → 2 * s ≤ length xs
    → row_before k s (written (row_start k s) cs xs) ≡ row_before k s xs
before_kept k s cs xs short room =
    ap (λ v. cond (eqb k 0) [] v)
    (unread (row_start k s) (row_start (k + 1) s) s cs xs (half_room k s (length xs) room)
    (⊎_elim (λ e. inr (omega arith)) (λ e. inl (omega arith)) (starts k s)))

-- the first m cells hold both rows, if there are so many
pub before_front : (k s m : ℕ) (xs : List Float) → 2 * s ≤ m → row_before k s (take m xs) ≡ row_before k s xs
before_front k s m xs room =
    let d : ℕ = row_start (k + 1) s in
    let most : row_start (k + 1) s + s ≤ m = ⊎_elim (λ e. omega arith) (λ e. omega arith) (starts k s) in
    ap (λ v. cond (eqb k 0) [] v)
    (sym (drop-take d s (take m xs)) ∙ ap (drop d) (take-take (d + s) m xs most) ∙ drop-take d s xs)

pub row_short : (far : Point → Point → Result Float Fault) (k : ℕ) (A B : List Point) (above : List Float)
    → length (row_of_lines far k A B above).cells ≤ length (shorter A B)
row_short far k A B above = length_row (far _) above 0 None None (shorter A B)
