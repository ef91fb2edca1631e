-- The place of the first point that is not finite.
use Rattle.std.proofs.Common.{◌≡◌, ℕ, ◌+◌, true, false, not, cond, suc, ltb, List, [], ◌∷◌, length, refl, arith}
use Rattle.std.specs.List.{position_or_len}
use Rattle.std.proofs.lemmas.Bool.Decides.{nat_tests}
use Rattle.points.specs.declared.point.Point.{Point}
use Rattle.points.specs.Finite.{first_unfit, finite_point}

pub unfit_at : (k : ℕ) (ps : List Point)
    → first_unfit k ps
    ≡ cond (ltb (position_or_len (λ p. not (finite_point p)) ps) (length ps))
    (k + position_or_len (λ p. not (finite_point p)) ps + 1) 0
unfit_at k [] = refl
unfit_at k (p ∷ ps) =
    let n = position_or_len (λ p. not (finite_point p)) ps in
    let rest = unfit_at (k + 1) ps in
    elim (finite_point p) as (λ v.
    cond v (first_unfit (k + 1) ps) (k + 1)
    ≡ cond (ltb (cond (not (not v)) (1 + n) 0) (suc (length ps))) (k + cond (not (not v)) (1 + n) 0 + 1) 0)
    [ true ↦ grind (arith, nat_tests) | false ↦ grind (arith, nat_tests) ]
