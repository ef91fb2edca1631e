-- A walk of k steps from the first point.
use Rattle.std.proofs.Common.{◌≡◌, ℕ, min, List, length, sym, ap, ◌∙◌, ⊎_elim, arith}
use Rattle.std.specs.List.{slice_get}
use Rattle.std.proofs.lemmas.Option.{slice_get_past}
use Rattle.std.proofs.lemmas.Bool.{cases_lt}

-- it stops at the end, where there is no more to be had than further on
pub nth_least : {X : Type 0} (xs : List X) (k : ℕ) → slice_get xs (min k (length xs)) ≡ slice_get xs k
nth_least xs k =
    ⊎_elim
    (λ h. let e : min k (length xs) ≡ k = omega arith in ap (slice_get xs) e)
    (λ h. let e : min k (length xs) ≡ length xs = omega arith in
    ap (slice_get xs) e ∙ slice_get_past xs (length xs) (omega arith) ∙ sym (slice_get_past xs k h))
    (cases_lt k (length xs))
