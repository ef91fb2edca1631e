-- The walks along a line, told pair by pair of its neighbours.
use Rattle.std.proofs.Common.{◌≡◌, ℕ, ◌+◌, ◌-◌, List, [], ◌∷◌, ◌++◌, Some, Ok, Err, Result, sym, refl, ap, ◌∙◌}
use lib.Ieee.{Float}
use Rattle.points.specs.declared.fault.Fault.{Fault}
use Rattle.points.specs.declared.fault.Layer.{Layer}
use Rattle.points.specs.declared.point.Point.{Point}
use Rattle.points.specs.Faults.{after, at_place}
use Rattle.points.specs.Rounded.{◌⊕◌, zero64}
use Rattle.points.specs.Walks.{neighbours, pairs_from}
use Rattle.measures.specs.Length.{total_from, total_of}
use Rattle.measures.specs.Pieces.{told, pieces_between, taken_from, taken, points_between, refined_from, refined}
use Rattle.measures.proofs.Cutting.{told_then}

-- what follows is the same where it is so after each accepted result
after_same : {X Y E : Type 0} (r : Result X E) (f g : X → Result Y E) → ((x : X) → f x ≡ g x) → after r f ≡ after r g
after_same (Ok x) f g h = h x
after_same (Err e) f g h = refl

one_pair : (k : ℕ) (q : Point) (r rest : Result (List Point) Fault)
    → after (at_place (told r) k) (λ _. told rest)
    ≡ told (after (at_place r k) (λ xs. after rest (λ ys. Ok (xs ++ q ∷ ys))))
one_pair k q (Ok xs) rest = sym (told_then rest (λ ys. xs ++ q ∷ ys))
one_pair k q (Err f) rest = refl

module _ (far : Point → Point → Result Float Fault) where
  abbrev pub total_over : ℕ → Float → List (Point × Point) → Result Float Fault
  total_over k sum [] = Ok sum
  total_over k sum (l ∷ ls) = after (at_place (far l.0 l.1) (k + 1)) (λ d. total_over (k + 1) (sum ⊕ d) ls)

  total_pairs : (k : ℕ) (sum : Float) (p : Point) (qs : List Point)
      → total_over k sum (pairs_from (Some p) qs) ≡ total_from far (k + 1) sum p qs
  total_pairs k sum p [] = refl
  total_pairs k sum p (q ∷ qs) = after_same (at_place (far p q) (k + 1)) _ _ (λ d. total_pairs (k + 1) (sum ⊕ d) q qs)

  pub total_neighbours : (ps : List Point) → total_over 0 zero64 (neighbours ps) ≡ total_of far ps
  total_neighbours [] = refl
  total_neighbours (p ∷ ps) = total_pairs 0 zero64 p ps

  module _ (layer : Layer) (most : Float) where
    abbrev pub taken_over : ℕ → ℕ → List (Point × Point) → Result ℕ Fault
    taken_over k count [] = Ok count
    taken_over k count (l ∷ ls) =
        after (at_place (pieces_between far layer most l.0 l.1) (k + 1)) (λ n. taken_over (k + 1) (count + (n - 1)) ls)

    taken_pairs : (k count : ℕ) (p : Point) (qs : List Point)
        → taken_over k count (pairs_from (Some p) qs) ≡ taken_from far layer most (k + 1) count p qs
    taken_pairs k count p [] = refl
    taken_pairs k count p (q ∷ qs) =
        after_same (at_place (pieces_between far layer most p q) (k + 1)) _ _ (λ n. taken_pairs (k + 1) (count + (n - 1)) q qs)

    pub taken_neighbours : (ps : List Point) → taken_over 0 0 (neighbours ps) ≡ taken far layer most ps
    taken_neighbours [] = refl
    taken_neighbours (p ∷ ps) = taken_pairs 0 0 p ps

    module _ (ratio : Point → Point → Float → Result Point Fault) where
      abbrev pub asked_over : ℕ → List (Point × Point) → Result (Unit {0}) Fault
      asked_over k [] = Ok tt
      asked_over k (l ∷ ls) =
          after (at_place (told (points_between far ratio layer most l.0 l.1)) (k + 1)) (λ _. asked_over (k + 1) ls)

      asked_pairs : (k : ℕ) (p : Point) (qs : List Point)
          → asked_over k (pairs_from (Some p) qs) ≡ told (refined_from far ratio layer most (k + 1) p qs)
      asked_pairs k p [] = refl
      asked_pairs k p (q ∷ qs) =
          ap (λ r. after (at_place (told (points_between far ratio layer most p q)) (k + 1)) (λ _. r)) (asked_pairs (k + 1) q qs)
          ∙ one_pair (k + 1) q (points_between far ratio layer most p q) (refined_from far ratio layer most (k + 1 + 1) q qs)

      pub asked_neighbours : (ps : List Point)
          → asked_over 0 (neighbours ps) ≡ told (refined far ratio layer most ps)
      asked_neighbours [] = refl
      asked_neighbours (p ∷ ps) =
          asked_pairs 0 p ps ∙ sym (told_then (refined_from far ratio layer most 1 p ps) (λ rest. p ∷ rest))
