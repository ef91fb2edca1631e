-- What every space owes: which refusal is given where, and what an accepted result is.
use Rattle.std.specs.Prelude.{◌≡◌, Bool, true, false, cond, not, ◌&&◌, T, ◌⊎◌, Ok, Err, Result, Float}
use Rattle.std.specs.Float.Ieee.{le}
use Rattle.std.specs.Float.{float_is_finite, is_sign_negative, float_with_sign}
use Rattle.points.specs.declared.fault.Cause.TheVariants.{NotFinite, NotAdmitted, NoAnswer, BadResult}
use Rattle.points.specs.declared.fault.Fault.{Fault}
use Rattle.points.specs.declared.fault.Layer.TheVariants as layers
use Rattle.points.specs.declared.point.Point.{Point}
use Rattle.points.specs.Faults.{raised, after}
use Rattle.points.specs.Finite.{finite_point}
use Rattle.points.specs.Rounded.{zero64}

-- finite, not below zero, and not -0
abbrev pub is_distance : Float → Bool
is_distance d = float_is_finite d && not (is_sign_negative d)

-- the host had no answer, or the result was none that the space may give
abbrev pub Unanswered : Fault → Type 0
Unanswered f = (f ≡ raised NoAnswer layers.Host) ⊎ (f ≡ raised BadResult layers.Space)

-- a distance, by whether both points are admitted
abbrev pub Measures : Bool → Result Float Fault → Type 0
Measures false r = r ≡ Err (raised NotAdmitted layers.Space)
Measures true (Ok d) = T (is_distance d)
Measures true (Err f) = Unanswered f

-- a point at a ratio or at a distance, by whether that is finite and whether both points are admitted
abbrev pub Lands : (Point → Bool) → Bool → Bool → Result Point Fault → Type 0
Lands ok false both r = r ≡ Err (raised NotFinite layers.Space)
Lands ok true false r = r ≡ Err (raised NotAdmitted layers.Space)
Lands ok true true (Ok p) = T (finite_point p) × T (ok p)
Lands ok true true (Err f) = Unanswered f

-- the point at a ratio by way of the pair: the ratio is looked at first, then the pair is made and asked
abbrev pub by_pair : {X : Type 0} → Bool → Result X Fault → (X → Result Point Fault) → Result Point Fault
by_pair true pair ask = after pair ask
by_pair false pair ask = Err (raised NotFinite layers.Space)

-- a distance as it is answered: -0 as +0
abbrev pub distance_answer : Float → Result Float Fault
distance_answer d =
    cond (float_is_finite d && le zero64 d) (Ok (float_with_sign false d)) (Err (raised BadResult layers.Space))

-- whether a distance is at most a limit, which is looked at first
abbrev pub within : Result Float Fault → Float → Result Bool Fault
within far limit = cond (float_is_finite limit) (after far (λ d. Ok (le d limit))) (Err (raised NotFinite layers.Space))
