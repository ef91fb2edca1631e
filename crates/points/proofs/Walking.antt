-- A walk along a list: the element at a place, if any, and what is left of the list there.
use Rattle.std.proofs.Common.{◌≡◌, ℕ, ◌+◌, ◌<◌, ◌≤◌, List, [], ◌∷◌, suc, length, drop, Some, None, refl, ap, arith}
use Rattle.std.specs.List.{slice_get}
use Rattle.std.proofs.lemmas.Bool.Decides.{nat_tests}
use Rattle.std.proofs.lemmas.Grind.{common_steps}
use Rattle.std.proofs.lemmas.Option.{gets}
pub use Rattle.std.proofs.lemmas.Option.{slice_get_within}
use Rattle.points.specs.Walks.{stepped, neighbours, pairs_from}

pub drop_some : {X : Type 0} (xs : List X) (j : ℕ) (x : X) → slice_get xs j ≡ Some x → drop j xs ≡ x ∷ drop (j + 1) xs
drop_some xs j x e = grind (arith, common_steps, gets)

pub drop_none : {X : Type 0} (xs : List X) (j : ℕ) → slice_get xs j ≡ None → drop j xs ≡ []
drop_none xs j e = grind (arith, common_steps, gets)

-- a step that is not at the end
pub step_inside : {X : Type 0} (xs ys : List X) (n j : ℕ) → xs ≡ ys → n ≡ j → j < length ys
    → stepped xs n ≡ j + 1
step_inside xs ys n j same at h = grind (arith, nat_tests)

-- one pair of neighbours more, and none at the end
pub pair_more : {X : Type 0} (xs : List X) (j : ℕ) (p q : X) → slice_get xs j ≡ Some q
    → pairs_from (Some p) (drop j xs) ≡ (p, q) ∷ pairs_from (Some q) (drop (j + 1) xs)
pair_more xs j p q e = ap (pairs_from (Some p)) (drop_some xs j q e)

pub pair_none : {X : Type 0} (xs : List X) (j : ℕ) (p : X) → slice_get xs j ≡ None
    → pairs_from (Some p) (drop j xs) ≡ []
pair_none xs j p e = ap (pairs_from (Some p)) (drop_none xs j e)

-- the steps of a walk, and of its pairs of neighbours
pub ruleset walk_steps = (drop_some, drop_none, slice_get_within, step_inside, pair_more, pair_none)

-- fewer pairs of neighbours than points
length_pairs : {X : Type 0} (p : X) (qs : List X) → length (pairs_from (Some p) qs) ≡ length qs
length_pairs p [] = refl
length_pairs p (q ∷ qs) = ap suc (length_pairs q qs)

pub length_neighbours : {X : Type 0} (xs : List X) → length (neighbours xs) ≤ length xs
length_neighbours [] = omega arith
length_neighbours (p ∷ ps) = omega (arith, length_pairs p ps)
