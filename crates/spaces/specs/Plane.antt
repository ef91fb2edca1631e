-- The Euclidean plane, over any hypot: every operation rounded, in the order written.
use Rattle.std.specs.Prelude.{Bool, cond, ◌&&◌, Ok, Err, Option, Result, from_bits, Float}
use Rattle.std.specs.Float.Ieee.{le}
use Rattle.std.specs.Float.{float_is_finite, binary64}
use Rattle.points.specs.declared.fault.Cause.TheVariants.{NotFinite, NotAdmitted, BadResult}
use Rattle.points.specs.declared.fault.Fault.{Fault}
use Rattle.points.specs.declared.fault.Layer.TheVariants.{Space}
use Rattle.points.specs.declared.point.Point.{Point}
use Rattle.points.specs.Faults.{raised, after}
use Rattle.points.specs.Rounded.{size}
use Rattle.points.specs.Vectors.{sum, difference, multiple, quotient}
use Rattle.hosts.specs.Meaning.{answered}
use Rattle.spaces.specs.declared.euclidean.PlanePair.{PlanePair}
use Rattle.spaces.specs.Space.{distance_answer}

-- 10^9
abbrev pub farthest : Float
farthest = from_bits binary64 0x41cd_cd65_0000_0000

-- coordinates of magnitude at most 10^9; no NaN and no infinity is
abbrev pub admitted : Point → Bool
admitted p = le (size p.x) farthest && le (size p.y) farthest

abbrev pub both_admitted : Point → Point → Result (Unit {0}) Fault
both_admitted p q = cond (admitted p && admitted q) (Ok tt) (Err (raised NotAdmitted Space))

abbrev pub is_finite : Float → Result (Unit {0}) Fault
is_finite t = cond (float_is_finite t) (Ok tt) (Err (raised NotFinite Space))

-- a point as it is answered
abbrev pub point_answer : Point → Result Point Fault
point_answer p = cond (admitted p) (Ok p) (Err (raised BadResult Space))

-- the hypot of origin less destination
abbrev pub distance : (Float → Float → Option Float) → Point → Point → Result Float Fault
distance hypot p q =
    after (both_admitted p q)
    (λ _. after (answered (hypot (difference p q).x (difference p q).y)) distance_answer)

-- a start, and the way from it to the end
abbrev pub paired : Point → Point → Result PlanePair Fault
paired p q = after (both_admitted p q) (λ _. Ok (record { start = p; way = difference q p }))

-- start + way × ratio
abbrev pub between : PlanePair → Float → Result Point Fault
between pair t = after (is_finite t) (λ _. point_answer (sum pair.start (multiple pair.way t)))

abbrev pub at_ratio : Point → Point → Float → Result Point Fault
at_ratio p q t = after (is_finite t) (λ _. after (paired p q) (λ pair. between pair t))

-- start + (way × distance) / total
abbrev pub at_total : Point → Point → Float → Float → Result Point Fault
at_total p q d total = point_answer (sum p (quotient (multiple (difference q p) d) total))

abbrev pub at_distance : (Float → Float → Option Float) → Point → Point → Float → Result Point Fault
at_distance hypot p q d =
    after (is_finite d)
    (λ _. after (both_admitted p q)
    (λ _. after (answered (hypot (difference q p).x (difference q p).y)) (at_total p q d)))
