-- The square root where x is no number above 0, as IEEE 754 has it.
use Rattle.std.specs.Prelude.{◌≡◌, Bool, false, T, pos, Float}
use Rattle.std.specs.Float.Ieee.{lt}
use Rattle.std.specs.Float.{float_zero, nan, inf, fin}

pub record SpecialRoot (x r : Float) : Type 0 where
  -- a NaN gives a NaN
  pub not_a_number : x ≡ nan → r ≡ nan
  -- what is below 0 gives a NaN, and so does -infinity
  pub below_zero : T (lt x float_zero) → r ≡ nan
  -- +0 gives +0, and -0 gives -0: s is the sign
  pub signed_zero : (s : Bool) → x ≡ fin s 0 (pos 0) → r ≡ fin s 0 (pos 0)
  -- +infinity gives +infinity
  pub infinity : x ≡ inf false → r ≡ inf false
