-- The ratios of a densify are finite.
use Rattle.std.proofs.Common.{◌≡◌, ℕ, ◌*◌, ◌<◌, true, false, T, refl, ◌∙◌, mul-pos, arith, ltb→lt, ne_eqb}
use lib.Ieee.{Float, nan, inf, fin, binary64, le, round, units, size, odd, of_bits, of_int, mul, div}
use lib.Ieee.Back.{round_whole}
use lib.Ieee.Exact.{HasValue}
use lib.Ieee.Order.{round_mono}
use lib.Ieee.Positive.{num, den, positive, den_pos, value→cross, positive_of_value, between, mul_mono}
use lib.Ieee.Scale.{round_same}
use Rattle.std.specs.Float.{float_is_finite}
use Rattle.points.specs.Rounded.{◌⊗◌, ◌⊘◌, float, one64}
use Rattle.measures.specs.Pieces.{ratio_of}

positive_finite : (x : Float) → T (positive x) → float_is_finite x ≡ true
unfolding float_is_finite
positive_finite nan p = absurd p
positive_finite (inf s) p = absurd p
positive_finite (fin s m e) p = refl

div_is : (x y : Float) → T (positive x) → T (positive y)
    → x ⊘ y ≡ round binary64 false (num x * den y) (num y * den x)
unfolding div
div_is nan y p q = absurd p
div_is (inf s) y p q = absurd p
div_is (fin true m e) y p q = absurd p
div_is (fin false m e) nan p q = absurd q
div_is (fin false m e) (inf t) p q = absurd q
div_is (fin false m e) (fin true n d) p q = absurd q
div_is (fin false m e) (fin false n d) p q =
    let low = ltb→lt 0 n q in
    let ne : n ≡ 0 → ⊥ = λ z. omega arith in
    rw (ne_eqb n 0 ne) refl

float_is : (n : ℕ) → float n ≡ round binary64 false n 1
unfolding of_int
float_is n = refl

float_value : (n : ℕ) → n < 4294967296 → HasValue (float n) false n 1
float_value n h =
    rw (float_is n) (round_whole binary64 false n (omega arith))

float_positive : (n : ℕ) → 0 < n → n < 4294967296 → T (positive (float n))
float_positive n l h = positive_of_value (float n) n 1 (float_value n h) l

one_positive : T (positive one64)
unfolding of_bits
one_positive = tt

one_num : num one64 ≡ 1
unfolding of_bits
one_num = refl

one_den : den one64 ≡ 1
unfolding of_bits
one_den = refl

inverse : (n : ℕ) → 0 < n → n < 4294967296 → one64 ⊘ float n ≡ round binary64 false 1 n
inverse n l h =
    let y = float n in
    let cross = value→cross y n 1 (float_value n h) in
    let pos = mul-pos l (den_pos y) in
    div_is one64 y one_positive (float_positive n l h)
    ∙ rw (one_num, one_den)
    (round_same binary64 false (1 * den y) (num y * 1) 1 n (omega (arith, cross, pos)) l (omega (arith, cross)))

-- 1, 2^32 and its inverse
abbrev unit : Float
unit = round binary64 false 1 1

abbrev high : Float
high = round binary64 false 4294967296 1

abbrev low : Float
low = round binary64 false 1 4294967296

unit_positive : T (positive unit)
unfolding round size units odd
unit_positive = tt

high_positive : T (positive high)
unfolding round size units odd
high_positive = tt

low_positive : T (positive low)
unfolding round size units odd
low_positive = tt

least_positive : T (positive (unit ⊗ low))
unfolding mul round size units odd
least_positive = tt

most_positive : T (positive (high ⊗ unit))
unfolding mul round size units odd
most_positive = tt

module _ (n : ℕ) (l : 0 < n) (h : n < 4294967296) where
  low_inverse : T (le low (one64 ⊘ float n))
  low_inverse = rw (inverse n l h) (round_mono binary64 1 4294967296 1 n (omega arith) l (omega arith))

  inverse_unit : T (le (one64 ⊘ float n) unit)
  inverse_unit = rw (inverse n l h) (round_mono binary64 1 n 1 1 l (omega arith) (omega arith))

  inverse_positive : T (positive (one64 ⊘ float n))
  inverse_positive = between low (one64 ⊘ float n) unit low_positive unit_positive low_inverse inverse_unit

  unit_float : T (le unit (float n))
  unit_float = rw (float_is n) (round_mono binary64 1 1 n 1 (omega arith) (omega arith) (omega arith))

  float_high : T (le (float n) high)
  float_high = rw (float_is n) (round_mono binary64 n 1 4294967296 1 (omega arith) (omega arith) (omega arith))

pub ratio_finite : (k n : ℕ) → 0 < k → k < 4294967296 → 0 < n → n < 4294967296 → float_is_finite (ratio_of k n) ≡ true
ratio_finite k n lk hk ln hn =
    let x = float k in
    let y = one64 ⊘ float n in
    let px = float_positive k lk hk in
    let py = inverse_positive n ln hn in
    positive_finite (x ⊗ y)
    (between (unit ⊗ low) (x ⊗ y) (high ⊗ unit) least_positive most_positive
    (mul_mono binary64 unit x low y unit_positive px low_positive py (unit_float k lk hk)
    (low_inverse n ln hn))
    (mul_mono binary64 x high y unit px high_positive py unit_positive (float_high k lk hk)
    (inverse_unit n ln hn)))
