-- A walk along a list of points, and how many points a given line may have.
use Rattle.std.specs.Prelude.{ℕ, ◌+◌, cond, List, [], ◌∷◌, length, Some, None, Option, Ok, Err, Result, nat_le, nat_lt}
use Rattle.points.specs.declared.fault.Cause.{Cause}
use Rattle.points.specs.declared.fault.Cause.TheVariants.{NoRoom}

-- the position after one step forward; at the end it stays
abbrev pub stepped : {X : Type 0} → List X → ℕ → ℕ
stepped xs n = cond (nat_lt n (length xs)) (n + 1) n

-- a call takes lines of at most 65,535 points
abbrev pub fits : ℕ → Result ℕ Cause
fits n = cond (nat_le n 65535) (Ok n) (Err NoRoom)

-- a point and the points after it, as pairs of neighbours
abbrev pub pairs_from : {X : Type 0} → Option X → List X → List (X × X)
pairs_from None qs = []
pairs_from (Some p) [] = []
pairs_from (Some p) (q ∷ qs) = (p, q) ∷ pairs_from (Some q) qs

-- the pairs of neighbours of a list, in order
abbrev pub neighbours : {X : Type 0} → List X → List (X × X)
neighbours [] = []
neighbours (p ∷ ps) = pairs_from (Some p) ps
