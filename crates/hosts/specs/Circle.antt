-- Sine and cosine of the series host: one rounded operation after another, in the order written.
use Rattle.std.specs.Prelude.{◌≡◌, ℕ, ◌+◌, ◌-◌, ◌*◌, ◌^◌, ◌<◌, ◌≤◌, Bool, cond, T, ℤ, pos, ◌+ℤ◌, ◌*ℤ◌, neg_ℤ, Some, None, Option, ◌==◌, from_bits, unsigned_abs, Float}
use Rattle.std.specs.Float.{binary64}
use Rattle.std.specs.Float.Ieee.{neg, le, to_signed}
use Rattle.std.specs.Float.Ieee.Exact.{HasValue}
use Rattle.std.specs.Float as Floats
use Rattle.std.specs.Int.{int_rem_euclid}
use Rattle.points.specs.Rounded.{◌⊖◌, ◌⊗◌, ◌⊘◌, float, size, one64}
use Rattle.hosts.specs.Turns.{turns}

-- 10^6, 0.6366197723675814, 1.5707963267948966 and 6.123233995736766e-17
abbrev pub farthest : Float
farthest = from_bits binary64 0x412e_8480_0000_0000

abbrev pub two_over_pi : Float
two_over_pi = from_bits binary64 0x3fe4_5f30_6dc9_c883

abbrev pub half_pi : Float
half_pi = from_bits binary64 0x3ff9_21fb_5444_2d18

abbrev pub half_pi_rest : Float
half_pi_rest = from_bits binary64 0x3c91_a626_3314_5c07

-- s = 1 - (z / (2k(2k+1))) × s, and the same with the divisor (2k-1)(2k)
abbrev pub sine_term : Float → ℕ → Float → Float
sine_term z k s = one64 ⊖ z ⊘ float (2 * k * (2 * k + 1)) ⊗ s

abbrev pub cosine_term : Float → ℕ → Float → Float
cosine_term z k s = one64 ⊖ z ⊘ float ((2 * k - 1) * (2 * k)) ⊗ s

-- nine terms, from k = 9 down to 1
abbrev pub sine_part : Float → Float
sine_part r = r ⊗ turns (sine_term (r ⊗ r)) one64 9 9

abbrev pub cosine_part : Float → Float
cosine_part r = turns (cosine_term (r ⊗ r)) one64 9 9

-- the nearest whole number of quarter turns, ties away from zero
abbrev pub quarters : Float → Float
quarters x = Floats.float_round binary64 (x ⊗ two_over_pi)

-- the angle that is left after q quarter turns
abbrev pub rest : Float → Float → Float
rest x q = (x ⊖ q ⊗ half_pi) ⊖ q ⊗ half_pi_rest

-- q mod 4, from 0 to 3 for a negative q too
abbrev pub quadrant : Float → ℕ
quadrant q = unsigned_abs (int_rem_euclid (to_signed 63 q) (pos 4))

abbrev pub by_quadrant : ℕ → Float → Float → Float → Float → Float
by_quadrant q a b c d = cond (q == 0) a (cond (q == 1) b (cond (q == 2) c d))

-- the sine of r after so many quarter turns
abbrev pub sine_in : ℕ → Float → Float
sine_in q r = by_quadrant q (sine_part r) (cosine_part r) (neg (sine_part r)) (neg (cosine_part r))

abbrev pub sine : Float → Float → Float
sine q r = sine_in (quadrant q) r

abbrev pub cosine : Float → Float → Float
cosine q r = by_quadrant (quadrant q) (cosine_part r) (neg (sine_part r)) (neg (cosine_part r)) (sine_part r)

-- no answer beyond 10^6 in magnitude, nor for a NaN
abbrev pub sin_answer : Float → Option Float
sin_answer x = cond (le (size x) farthest) (Some (sine (quarters x) (rest x (quarters x)))) None

abbrev pub cos_answer : Float → Option Float
cos_answer x = cond (le (size x) farthest) (Some (cosine (quarters x) (rest x (quarters x)))) None

-- the integer of a sign and a magnitude
abbrev pub signed : Bool → ℕ → ℤ
signed s h = cond s (neg_ℤ (pos h)) (pos h)

-- q is ±h, at most 2^21 in magnitude, and so is its integer; its quadrant is what it has over the multiple 4k
abbrev pub Whole : Float → Type 0
Whole q = (s : Bool) × (h : ℕ) × (k : ℤ) × (h ≤ 2 ^ 21) × HasValue q s h 1 × (to_signed 63 q ≡ signed s h)
    × (signed s h ≡ pos 4 *ℤ k +ℤ pos (quadrant q)) × (quadrant q < 4)

-- the quarter turns lose nothing, for every angle that is answered
abbrev pub WholeQuarters : Type 0
WholeQuarters = (x : Float) → T (le (size x) farthest) → Whole (quarters x)
