-- Square root and hypot of the series host: one rounded operation after another, in the order written.
use Rattle.std.specs.Prelude.{cond, ◌||◌, Some, None, Option, from_bits, is_nan, Float}
use Rattle.std.specs.Float.{binary64}
use Rattle.std.specs.Float.Ieee.{lt, eq}
use Rattle.std.specs.Float as Floats
use Rattle.points.specs.Rounded.{◌⊕◌, ◌⊗◌, ◌⊘◌, root, size, zero64, one64}

abbrev pub infinity : Float
infinity = from_bits binary64 0x7ff0_0000_0000_0000

-- IEEE 754's root; a number below 0 gives NaN
abbrev pub sqrt_answer : Float → Option Float
sqrt_answer x = cond (Floats.float_is_finite x) (Some (root x)) None

-- m √(1 + (n/m)²), for the larger magnitude m and the smaller n
abbrev pub scaled : Float → Float → Float
scaled m n =
    cond (eq m zero64) zero64
    (cond (Floats.float_is_infinite m) infinity
    (m ⊗ root (one64 ⊕ n ⊘ m ⊗ (n ⊘ m))))

-- infinities are answered, a NaN is not
abbrev pub hypot_answer : Float → Float → Option Float
hypot_answer x y =
    cond (is_nan x || is_nan y) None
    (Some (cond (lt (size x) (size y)) (scaled (size y) (size x)) (scaled (size x) (size y))))
