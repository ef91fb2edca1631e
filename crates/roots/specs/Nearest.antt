-- The double nearest to an exact square root.
use Rattle.std.specs.Prelude.{ℕ, ◌+◌, ◌-◌, ◌*◌, ◌/◌, ◌^◌, ◌<◌, cond, T, Float}
use Rattle.std.specs.Float.Ieee.{up, down, fits, lt}
use Rattle.std.specs.Float.Ieee.Positive.{positive}
use Rattle.std.specs.Float.{float_is_finite, is_sign_negative, nan, inf, fin, binary64}

-- a finite double as a whole number of steps of 2 ^ -1074, the smallest double above 0, without its sign
abbrev pub steps : Float → ℕ
steps nan = 0
steps (inf s) = 0
steps (fin s m e) = m * up e * 2 ^ 1074 / down e

-- r + y in steps, for an r above 0, and 0 where that is below 0
abbrev pub sum : Float → Float → ℕ
sum r y = cond (is_sign_negative y) (steps r - steps y) (steps r + steps y)

-- y lies strictly farther from the exact root of x than r does: halfway between r and y lies (r + y) / 2, and
-- the root is on r's side of it. So 4 x is on that side of the square of r + y, both in squares of a step.
pub record Farther (x r y : Float) : Type 0 where
  pub above : T (lt r y) → 4 * (steps x * 2 ^ 1074) < sum r y * sum r y
  pub below : T (lt y r) → sum r y * sum r y < 4 * (steps x * 2 ^ 1074)

-- r is a number above 0, and every finite double y of another value lies strictly farther from the exact root.
-- There is no tie: were the root halfway between r and y, at z, then x would be z * z. As x has at most 53
-- binary digits, z would have at most 27, and so be a double itself, nearer than both.
pub record NearestRoot (x r : Float) : Type 0 where
  pub number : T (positive r)
  pub farther : (y : Float) → T (fits binary64 y) → T (float_is_finite y) → Farther x r y
