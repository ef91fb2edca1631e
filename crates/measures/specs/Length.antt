-- The length of a line: the distances of its neighbours, added up in line order from +0, each sum rounded.
use Rattle.std.specs.Prelude.{ℕ, ◌+◌, cond, List, [], ◌∷◌, length, Ok, Err, Result, Float}
use Rattle.std.specs.Float.{float_is_finite}
use Rattle.points.specs.declared.fault.Cause.{Cause}
use Rattle.points.specs.declared.fault.Cause.TheVariants.{BadResult}
use Rattle.points.specs.declared.fault.Fault.{Fault}
use Rattle.points.specs.declared.fault.Layer.TheVariants.{Line}
use Rattle.points.specs.declared.point.Point.{Point}
use Rattle.points.specs.Faults.{after, at_place, in_layer}
use Rattle.points.specs.Rounded.{◌⊕◌, zero64}
use Rattle.points.specs.Walks.{fits}

-- a sum, and the pairs from pair k on, the first of them between p and the point after it
abbrev pub total_from : (Point → Point → Result Float Fault) → ℕ → Float → Point → List Point
    → Result Float Fault
total_from far k sum p [] = Ok sum
total_from far k sum p (q ∷ qs) = after (at_place (far p q) k) (λ d. total_from far (k + 1) (sum ⊕ d) q qs)

abbrev pub total_of : (Point → Point → Result Float Fault) → List Point → Result Float Fault
total_of far [] = Ok zero64
total_of far (p ∷ ps) = total_from far 1 zero64 p ps

abbrev pub finite_total : Float → Result Float Cause
finite_total t = cond (float_is_finite t) (Ok t) (Err BadResult)

-- the line's count is looked at first, the total after all pairs
abbrev pub length_of : (Point → Point → Result Float Fault) → List Point → Result Float Fault
length_of far ps =
    after (in_layer (fits (length ps)) Line) (λ _. after (total_of far ps) (λ t. in_layer (finite_total t) Line))
