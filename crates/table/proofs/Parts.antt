-- The points of a pair, by number, and what is left of them.
use Rattle.std.proofs.Common.{◌≡◌, ℕ, ◌+◌, ◌-◌, ◌<◌, ◌≤◌, [], ◌∷◌, length, get_or, drop, Ok, Err, Option, Result, sym, refl, ap, ◌∙◌, arith, le-ltb}
use lib.Ieee.{Float}
use Rattle.std.specs.Result.{result_ok, result_unwrap_or}
use Rattle.std.proofs.lemmas.List.{drop_more, drop_all}
use Rattle.std.proofs.lemmas.List.FromFn.{length-map-range_with_len, get_or-map-range_with_len}
use Rattle.std.specs.Float.{float_is_finite}
use Rattle.points.specs.declared.fault.Fault.{Fault}
use Rattle.points.specs.declared.point.Point.{Point}
use Rattle.points.specs.Faults.{after}
use Rattle.spaces.specs.Space.{by_pair}
use Rattle.measures.specs.Pieces.{ratio_of}
use Rattle.measures.proofs.Cutting.{on_pair}
use Rattle.table.specs.Weave.{origin, pair_for, part_of, parts_from, pieces_in, parts_in}

module _ (at : Float → Result Point Fault) (n : ℕ) where
  pub length_parts : (c i : ℕ) → length (parts_from at n c i) ≡ c
  length_parts c i = length-map-range_with_len (λ k. result_unwrap_or (at (ratio_of k n)) origin) i c

  nth_parts : (c i k : ℕ) → k < c
      → get_or (parts_from at n c i) k origin ≡ result_unwrap_or (at (ratio_of (i + k) n)) origin
  nth_parts c i k h =
      get_or-map-range_with_len (λ j. result_unwrap_or (at (ratio_of j n)) origin) i c k (i + k) origin h refl

module _ {P : Type 0} (far : Point → Point → Result Float Fault) (most : Float)
    (ratio : Point → Point → Float → Result Point Fault) (paired : Point → Point → Result P Fault)
    (between : P → Float → Result Point Fault)
    (law : (p q : Point) (t : Float) → ratio p q t ≡ by_pair (float_is_finite t) (paired p q) (λ x. between x t))
    (p q : Point) where
  asked : (t : Float) (r : Result P Fault)
      → part_of between (result_ok r) t ≡ result_unwrap_or (after r (λ x. between x t)) origin
  asked t (Ok x) = refl
  asked t (Err f) = refl

  prepared : (n k : ℕ) → n < 4294967296 → 0 < k → k < n
      → part_of between (pair_for (paired p q) n) (ratio_of k n) ≡ result_unwrap_or (ratio p q (ratio_of k n)) origin
  prepared n k fits l h =
      rw (le-ltb n 2 (omega arith)) (asked (ratio_of k n) (paired p q)
      ∙ ap (λ r. result_unwrap_or r origin)
      (sym (on_pair (ratio p q) (paired p q) between (law p q) n fits k l h)))

  -- of n pieces, point k is the next
  module _ (k : ℕ) (low : 1 ≤ k) (n : ℕ) (is : n ≡ pieces_in far most p q) where
    pub parts_more : (pair : Option P) → pair ≡ pair_for (paired p q) n → n < 4294967296 → k < n
        → drop (k - 1) (parts_in far most ratio p q)
        ≡ part_of between pair (ratio_of k n) ∷ drop (k + 1 - 1) (parts_in far most ratio p q)
    parts_more pair pq fits h =
        let xs = parts_in far most ratio p q in
        let m = pieces_in far most p q in
        let long = length_parts (ratio p q) m (m - 1) 1 in
        let on : k - 1 + 1 ≡ k + 1 - 1 = omega arith in
        let up : 1 + (k - 1) ≡ k = omega arith in
        let here : get_or xs (k - 1) origin ≡ part_of between pair (ratio_of k n) =
        nth_parts (ratio p q) m (m - 1) 1 (k - 1) (omega arith)
        ∙ (ap (λ v. result_unwrap_or (ratio p q (ratio_of v m)) origin) up
        ∙ (ap (λ v. result_unwrap_or (ratio p q (ratio_of k v)) origin) (sym is)
        ∙ (sym (prepared n k fits low h) ∙ ap (λ r. part_of between r (ratio_of k n)) (sym pq)))) in
        drop_more xs (k - 1) origin (omega arith)
        ∙ (ap (λ v. v ∷ drop (k - 1 + 1) xs) here ∙ ap (λ v. part_of between pair (ratio_of k n) ∷ drop v xs) on)

    pub parts_done : n ≤ k → drop (k - 1) (parts_in far most ratio p q) ≡ []
    parts_done h =
        let m = pieces_in far most p q in
        let long = length_parts (ratio p q) m (m - 1) 1 in
        drop_all (k - 1) (parts_in far most ratio p q) (omega arith)
