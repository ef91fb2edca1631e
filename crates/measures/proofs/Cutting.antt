-- One point more of what a densify asks for, and its points by way of the prepared pair.
use Rattle.std.proofs.Common.{◌≡◌, ℕ, zero, suc, ◌+◌, ◌-◌, ◌<◌, ◌≤◌, ◌∷◌, Ok, Err, Result, refl, ap, ◌∙◌, arith}
use lib.Ieee.{Float}
use Rattle.std.specs.Float.{float_is_finite}
use Rattle.points.specs.declared.fault.Fault.{Fault}
use Rattle.points.specs.declared.point.Point.{Point}
use Rattle.points.specs.Faults.{after}
use Rattle.spaces.specs.Space.{by_pair}
use Rattle.measures.specs.Pieces.{told, ratio_of, cut_from}
use Rattle.measures.proofs.Ratios.{ratio_finite}

pub told_ok : {X : Type 0} (r : Result X Fault) → told r ≡ Ok tt → (x : X) × (r ≡ Ok x)
told_ok (Ok x) e = (x, refl)
told_ok (Err f) e = absurd cc

pub told_then : {X Y : Type 0} (r : Result X Fault) (k : X → Y) → told (after r (λ x. Ok (k x))) ≡ told r
told_then (Ok x) k = refl
told_then (Err f) k = refl

module _ (at : Float → Result Point Fault) (n : ℕ) where
  one_cut : (c i : ℕ) (r : Result Point Fault)
      → told (after r (λ x. after (cut_from at n c (i + 1)) (λ xs. Ok (x ∷ xs))))
      ≡ after r (λ _. told (cut_from at n c (i + 1)))
  one_cut c i (Ok x) = told_then (cut_from at n c (i + 1)) (λ xs. x ∷ xs)
  one_cut c i (Err f) = refl

  cut_here : (i : ℕ) → i < n
      → told (cut_from at n (n - i) i)
      ≡ after (at (ratio_of i n)) (λ _. told (cut_from at n (n - (i + 1)) (i + 1)))
  cut_here i h =
      let s : n - i ≡ suc (n - (i + 1)) = omega arith in
      ap (λ c. told (cut_from at n c i)) s ∙ one_cut (n - (i + 1)) i (at (ratio_of i n))

  pub cut_more : (i : ℕ) (x : Point) → i < n → at (ratio_of i n) ≡ Ok x
      → told (cut_from at n (n - i) i) ≡ told (cut_from at n (n - (i + 1)) (i + 1))
  cut_more i x h e = cut_here i h ∙ ap (λ r. after r (λ _. told (cut_from at n (n - (i + 1)) (i + 1)))) e

-- every point of a pair, by way of the prepared pair
module _ {P : Type 0} (at : Float → Result Point Fault) (pair : Result P Fault)
    (between : P → Float → Result Point Fault)
    (law : (t : Float) → at t ≡ by_pair (float_is_finite t) pair (λ x. between x t)) (n : ℕ) (fits : n < 4294967296) where
  pub on_pair : (k : ℕ) → 0 < k → k < n → at (ratio_of k n) ≡ after pair (λ x. between x (ratio_of k n))
  on_pair k l h =
      law (ratio_of k n)
      ∙ ap (λ b. by_pair b pair (λ x. between x (ratio_of k n)))
      (ratio_finite k n l (omega arith) (omega arith) fits)

  cut_pair : (c i : ℕ) → 0 < i → i + c ≤ n
      → cut_from at n c i ≡ cut_from (λ t. after pair (λ x. between x t)) n c i
  cut_pair zero i l h = refl
  cut_pair (suc c) i l h =
      ap (λ r. after r (λ x. after (cut_from at n c (i + 1)) (λ xs. Ok (x ∷ xs)))) (on_pair i l (omega arith))
      ∙ ap (λ r. after (after pair (λ x. between x (ratio_of i n))) (λ x. after r (λ xs. Ok (x ∷ xs))))
      (cut_pair c (i + 1) (omega arith) (omega arith))

  pub cut_paired : (x : P) → pair ≡ Ok x → 2 ≤ n
      → told (cut_from at n (n - 1) 1) ≡ told (cut_from (between x) n (n - 1) 1)
  cut_paired x e h =
      ap told (cut_pair (n - 1) 1 (omega arith) (omega arith))
      ∙ ap (λ (r : Result P Fault). told (cut_from (λ t. after r (λ y. between y t)) n (n - 1) 1)) e

  pub cut_unpaired : (f : Fault) → pair ≡ Err f → 2 ≤ n → told (cut_from at n (n - 1) 1) ≡ Err f
  cut_unpaired f e h =
      let s : n - 1 ≡ suc (n - 2) = omega arith in
      ap told (cut_pair (n - 1) 1 (omega arith) (omega arith))
      ∙ (ap (λ (r : Result P Fault). told (cut_from (λ t. after r (λ y. between y t)) n (n - 1) 1)) e
      ∙ ap (λ c. told (cut_from (λ t. Err f) n c 1)) s)
