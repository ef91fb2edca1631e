-- Arc sine and arc tangent of the series host: one rounded operation after another, in the order written.
use Rattle.std.specs.Prelude.{◌≡◌, ℕ, ◌+◌, ◌*◌, cond, ◌&&◌, Some, None, Option, from_bits, Float}
use Rattle.std.specs.Float.{binary64}
use Rattle.std.specs.Float.Ieee.{neg, lt, le}
use Rattle.std.specs.Float as Floats
use Rattle.points.specs.Rounded.{◌⊕◌, ◌⊖◌, ◌⊗◌, ◌⊘◌, root, float, size, zero64, one64}
use Rattle.hosts.specs.Turns.{turns}
use Rattle.hosts.specs.Circle.{half_pi}

-- 3.141592653589793, 4 and a NaN
abbrev pub whole_pi : Float
whole_pi = from_bits binary64 0x4009_21fb_5444_2d18

abbrev pub four : Float
four = from_bits binary64 0x4010_0000_0000_0000

abbrev pub no_number : Float
no_number = from_bits binary64 0x7ff8_0000_0000_0000

-- 1 / (2k + 1)
abbrev pub quotient : ℕ → Float
quotient k = one64 ⊘ float (2 * k + 1)

abbrev pub arc_term : Float → ℕ → Float → Float
arc_term z k s = quotient k ⊖ z ⊗ s

-- from 1/25, twelve terms from k = 11 down to 0
abbrev pub arc_sum : Float → Float
arc_sum z = turns (arc_term z) (quotient 12) 11 12

-- v / (1 + √(1 + v²)), the tangent of half the angle
abbrev pub half : Float → Float
half v = v ⊘ (one64 ⊕ root (one64 ⊕ v ⊗ v))

-- four times the series at the tangent of a quarter of the angle
abbrev pub arc_by : Float → Float
arc_by v = four ⊗ (v ⊗ arc_sum (v ⊗ v))

-- A(v) for |v| at most 1
abbrev pub arc_within : Float → Float
arc_within v = arc_by (half (half v))

-- A(v): beyond 1 in magnitude, a quarter turn of v's sign less A(1/v)
abbrev pub arc : Float → Float
arc v =
    cond (lt one64 v) (half_pi ⊖ arc_within (one64 ⊘ v))
    (cond (lt v (neg one64)) (neg half_pi ⊖ arc_within (one64 ⊘ v))
    (arc_within v))

-- which is the rule by A itself: 1/v is at most 1 in magnitude there
abbrev pub ArcRule : Type 0
ArcRule = (v : Float)
    → arc v
    ≡ cond (lt one64 v) (half_pi ⊖ arc (one64 ⊘ v))
    (cond (lt v (neg one64)) (neg half_pi ⊖ arc (one64 ⊘ v))
    (arc_within v))

-- the angle of (x, y): beside the y axis by y / x, on it by the sign of y alone
abbrev pub angle : Float → Float → Float
angle y x =
    cond (lt zero64 x) (arc (y ⊘ x))
    (cond (lt x zero64) (cond (le zero64 y) (arc (y ⊘ x) ⊕ whole_pi) (arc (y ⊘ x) ⊖ whole_pi))
    (cond (lt zero64 y) half_pi (cond (lt y zero64) (neg half_pi) zero64)))

abbrev pub atan2_answer : Float → Float → Option Float
atan2_answer y x = cond (Floats.float_is_finite y && Floats.float_is_finite x) (Some (angle y x)) None

-- beyond 1 in magnitude the answer is NaN, else the angle of (√((1 - x)(1 + x)), x)
abbrev pub asin_answer : Float → Option Float
asin_answer x =
    cond (Floats.float_is_finite x)
    (Some (cond (lt one64 (size x)) no_number (angle x (root ((one64 ⊖ x) ⊗ (one64 ⊕ x)))))) None
