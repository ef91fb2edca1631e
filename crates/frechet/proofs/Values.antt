-- A distance as a value, and the row rule on values.
use Rattle.std.proofs.Common.{◌≡◌, ℕ, zero, suc, ◌+◌, ◌<◌, Bool, true, false, T, List, [], ◌∷◌, ◌++◌, length, get_or, drop, pos, Some, None, Ok, Err, Option, Result, sym, refl, ap, ◌∙◌, arith}
use lib.Ieee.{Float, nan, inf, fin, is_nan, lt}
use Rattle.std.specs.Float.{float_is_finite}
use Rattle.std.specs.List.{slice_get}
use Rattle.std.proofs.lemmas.Grind.{common_steps}
use Rattle.std.proofs.lemmas.Option.{slice_get_cases}
use Rattle.couplings.specs.Rows.{row, larger, last_or}
use Rattle.points.specs.declared.fault.Fault.{Fault}
use Rattle.points.specs.declared.point.Point.{Point}
use Rattle.spaces.specs.Space.{Measures}
use Rattle.frechet.specs.Row.{Run, listed, cell_of, cell_then, cell_and, row_from, last_from}
use Rattle.frechet.specs.Theorem.{nowhere}
use Rattle.frechet.proofs.Order.{is_number}

-- the distance, and zero where there is none
abbrev pub value_of : Result Float Fault → Float
value_of (Ok d) = d
value_of (Err f) = fin false 0 (pos 0)

-- a measured distance is a number
pub value_number : (b : Bool) (r : Result Float Fault) → Measures b r → T (is_number (value_of r))
unfolding float_is_finite is_nan
value_number b (Err f) h = tt
value_number false (Ok d) h = absurd cc
value_number true (Ok nan) h = absurd h
value_number true (Ok (inf s)) h = tt
value_number true (Ok (fin s m e)) h = tt

-- what lies at a place of the row above, and after it
split : (xs : List Float) (n : ℕ)
    → (drop n xs ≡ listed (slice_get xs n) ++ drop (n + 1) xs) × (slice_get xs n ≡ None → drop (n + 1) xs ≡ [])
split xs n = let c = slice_get_cases xs n in (grind (arith, common_steps), grind (arith, common_steps))

module _ (far : Point → Point → Result Float Fault) (p : Point) where
  abbrev pub dist : Point → Point → Float
  dist a b = value_of (far a b)

  abbrev row_by : List Float → List Point → List Float → List Float
  row_by left qs above = row lt (λ v. v) (larger lt) dist p left qs above

  -- a cell and the cells after it, by the cell above
  at : (n : ℕ) (q : Point) (qs : List Point) (g l o : Option Float) (r : Result Float Fault) → far p q ≡ r
      → (up : Option Float) (rest : List Float) → (up ≡ None → rest ≡ []) → (go : Float → Run)
      → ((c : Float) → (go c).outcome ≡ Ok o → (go c).cells ≡ row_by (listed up ++ (c ∷ [])) qs rest)
      → (cell_then n r (λ d. cell_and (cell_of d up g l) go)).outcome ≡ Ok o
      → (cell_then n r (λ d. cell_and (cell_of d up g l) go)).cells
      ≡ row_by (listed g ++ listed l) (q ∷ qs) (listed up ++ rest)
  at n q qs g l o (Err f) er up rest none go ih e = absurd cc
  at n q qs g l o (Ok d) er (Some u) rest none go ih e =
      rw er (ap (λ v. cell_of d (Some u) g l ∷ v) (ih (cell_of d (Some u) g l) e))
  at n q qs g l o (Ok d) er None rest none go ih e =
      rw (none refl, er)
      (ap (λ v. cell_of d None g l ∷ v) (rw (none refl) at (ih (cell_of d None g l) e)))

  -- an accepted row is the row of the values
  pub row_values : (qs : List Point) (above : List Float) (n : ℕ) (g l o : Option Float)
      → (row_from (far p) above n g l qs).outcome ≡ Ok o
      → (row_from (far p) above n g l qs).cells
      ≡ row lt (λ v. v) (larger lt) (λ a b. value_of (far a b)) p (listed g ++ listed l) qs (drop n above)
  row_values [] above n g l o e = refl
  row_values (q ∷ qs) above n g l o e =
      at n q qs g l o (far p q) refl (slice_get above n) (drop (n + 1) above) (split above n).1
      (λ c. row_from (far p) above (n + 1) (slice_get above n) (Some c) qs)
      (λ c h. row_values qs above (n + 1) (slice_get above n) (Some c) o h) e
      ∙ sym (ap (row_by (listed g ++ listed l) (q ∷ qs)) (split above n).0)

  -- and has asked for each distance
  asked : (n : ℕ) (q : Point) (qs : List Point) (o : Option Float) (r : Result Float Fault) → far p q ≡ r
      → (cell : Float → Float) (go : Float → Run)
      → ((c : Float) → (go c).outcome ≡ Ok o → (j : ℕ) → j < length qs
      → far p (get_or qs j nowhere) ≡ Ok (dist p (get_or qs j nowhere)))
      → (cell_then n r (λ d. cell_and (cell d) go)).outcome ≡ Ok o
      → (j : ℕ) → j < length (q ∷ qs) → far p (get_or (q ∷ qs) j nowhere) ≡ Ok (dist p (get_or (q ∷ qs) j nowhere))
  asked n q qs o (Err f) er cell go ih e j h = absurd cc
  asked n q qs o (Ok d) er cell go ih e zero h = er ∙ ap (λ v. Ok (value_of v)) (sym er)
  asked n q qs o (Ok d) er cell go ih e (suc j) h = ih (cell d) e j (omega arith)

  pub row_asked : (qs : List Point) (above : List Float) (n : ℕ) (g l o : Option Float)
      → (row_from (far p) above n g l qs).outcome ≡ Ok o
      → (j : ℕ) → j < length qs → far p (get_or qs j nowhere) ≡ Ok (value_of (far p (get_or qs j nowhere)))
  row_asked [] above n g l o e j h = absurd (omega arith)
  row_asked (q ∷ qs) above n g l o e j h =
      asked n q qs o (far p q) refl (λ d. cell_of d (slice_get above n) g l)
      (λ c. row_from (far p) above (n + 1) (slice_get above n) (Some c) qs)
      (λ c k. row_asked qs above (n + 1) (slice_get above n) (Some c) o k) e j h

-- the last cell
pub last_some : (z : Float) (cs : List Float) → last_from (Some z) cs ≡ Some (last_or z cs)
last_some z [] = refl
last_some z (c ∷ cs) = last_some c cs

pub last_is : (z d : Float) (cs : List Float) → last_from None cs ≡ Some d → last_or z cs ≡ d
last_is z d [] e = absurd cc
last_is z d (c ∷ cs) e = let w = last_some c cs in cc
