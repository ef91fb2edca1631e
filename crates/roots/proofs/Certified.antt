-- The certificate in whole numbers gives the library's root.
use Rattle.std.proofs.Common.{◌≡◌, ℕ, zero, suc, ◌+◌, ◌-◌, ◌*◌, ◌/◌, ◌%◌, ◌^◌, ◌<◌, ◌≤◌, false, T, sym, ap, ◌∙◌, subst, inl, inr, le_trans, le_of_eq, lt_of_lt_of_le, mul-le-mul_right, mul_assoc, div-lt_iff_lt-mul, eq-zero-or-pos, mul-le-mul, mul-lt-mul_of_pos_right, mul-pos, lt_of_not-le, le-div_iff_mul-le, mul-one, not-le_of_lt, le_of_mul-le-mul_right, arith, pow_pos, pow_mono, pow-add}
use lib.Ieee.{Float, binary64, size, units, round, fits, of_bits, to_bits}
use lib.Ieee.Bits.{of_bits-to_bits}
use lib.Ieee.Digits.{size-lt, size-le}
use lib.Ieee.Fits.{round_is}
use lib.Ieee.Nearest.{closest, closest_same}
use Rattle.std.specs.Float.Ieee.{root_twice}
use Rattle.std.specs.Float.{sqrt}
use Rattle.roots.specs.Certificate.{NearestWhole}
use Rattle.roots.proofs.WholeRoots.{at_most, at_least, reaches}
use Rattle.roots.proofs.Doubles.{sqrt_is}
use Rattle.roots.proofs.Patterns.{read, packed}
use Rattle.roots.proofs.Rounded.{settled}

-- ---- inequalities over powers as variables

squeeze : (a d c : ℕ) → 0 < c → 4 * d * (c * c) ≤ a * c * (a * c) → 4 * d ≤ a * a
squeeze a d c C h =
    let g : 4 * d * (c * c) ≤ a * a * (c * c) = omega arith in
    le_of_mul-le-mul_right g (mul-pos C C)

stretch : (a d c : ℕ) → 0 < c → a * c * (a * c) ≤ 4 * d * (c * c) → a * a ≤ 4 * d
stretch a d c C h =
    let g : a * a * (c * c) ≤ 4 * d * (c * c) = omega arith in
    le_of_mul-le-mul_right g (mul-pos C C)

size_gt : (n j : ℕ) → 2 ^ j ≤ n → j < size n
size_gt n j h =
    lt_of_not-le (λ (g : size n ≤ j). not-le_of_lt (lt_of_lt_of_le (size-lt n) (pow_mono g)) h)

power_at : (a b : ℕ) → a ≡ b → 2 ^ a ≡ 2 ^ b
power_at a b e = ap (λ (k : ℕ). 2 ^ k) e

-- ---- from the certificate to `round`: the radicand is 4 d times the square of c, and p + 1 is the root
module _ (d p j : ℕ) (A : 2 ^ 104 ≤ d) (B : d < 2 ^ 106) (lo : p * p + p < d)
    (hi : d ≤ (p + 1) * (p + 1) + (p + 1)) where
  abbrev c : ℕ
  c = 2 ^ (j + 1196)

  abbrev n : ℕ
  n = 4 * d * (c * c)

  abbrev r : ℕ
  r = root_twice n

  c_pos : 0 < c
  c_pos = pow_pos (j + 1196)

  r_low : 2 * ((2 * p + 1) * c) < r
  r_low =
      lt_of_not-le (λ (g : r ≤ 2 * ((2 * p + 1) * c)).
      let q = 2 * p + 1 in
      let s : 4 * d ≤ q * q = squeeze q d c c_pos (at_most n (q * c) g) in
      omega arith)

  r_high : r < 2 * ((2 * p + 3) * c)
  r_high =
      lt_of_not-le (λ (g : 2 * ((2 * p + 3) * c) ≤ r).
      let q = 2 * p + 3 in
      let s : q * q ≤ 4 * d = stretch q d c c_pos (at_least n (q * c) g) in
      omega arith)

  r_from : 2 * (2 ^ 53 * c) ≤ r
  r_from =
      reaches n (2 ^ 53 * c)
      (let g : 2 ^ 106 * (c * c) ≤ 4 * d * (c * c) = mul-le-mul_right (c * c) (omega arith) in omega arith)

  r_upto : r < 2 * (2 ^ 54 * c)
  r_upto =
      lt_of_not-le (λ (g : 2 * (2 ^ 54 * c) ≤ r).
      let s : 2 ^ 54 * 2 ^ 54 ≤ 4 * d = stretch (2 ^ 54) d c c_pos (at_least n (2 ^ 54 * c) g) in
      omega arith)

  unit : 2 ^ 2272 * 2 ^ j ≡ 4 * c * 2 ^ 1074
  unit =
      sym (pow-add 2 2272 j)
      ∙ power_at (2272 + j) (j + 1196 + 1076) (omega arith)
      ∙ pow-add 2 (j + 1196) 1076
      ∙ join c (2 ^ 1074)
    where
      join : (a l : ℕ) → a * (4 * l) ≡ 4 * a * l
      join a l = omega arith

  digits : closest (r * 2 ^ 1074) (2 ^ 2272 * 2 ^ j) ≡ p + 1
  digits =
      ap (closest (r * 2 ^ 1074)) unit
      ∙ closest_same (r * 2 ^ 1074) (4 * c * 2 ^ 1074) r (4 * c) (mul-pos four (pow_pos 1074)) four
      (move r (4 * c) (2 ^ 1074))
      ∙ settled r (4 * c) (p + 1) four (omega (arith, r_low)) (omega (arith, r_high))
    where
      four : 0 < 4 * c
      four = omega (arith, c_pos)

      move : (x y l : ℕ) → x * l * y ≡ x * (y * l)
      move x y l = omega arith

  -- in units of c, with w + 1 digits
  ends : (w : ℕ) → 2 ^ (w + j) * 2 ^ 2272 ≡ 2 ^ (w + 2) * c * 2 ^ 1074
  ends w =
      sym (pow-add 2 (w + j) 2272)
      ∙ power_at (w + j + 2272) (w + 2 + (j + 1196) + 1074) (omega arith)
      ∙ pow-add 2 (w + 2 + (j + 1196)) 1074
      ∙ ap (λ (k : ℕ). k * 2 ^ 1074) (pow-add 2 (w + 2) (j + 1196))

  over : 2 ^ (52 + j) * 2 ^ 2272 ≤ r * 2 ^ 1074
  over =
      le_trans (le_of_eq (ends 52))
      (mul-le-mul_right (2 ^ 1074) (let g : 2 ^ 54 * c ≤ r = omega (arith, r_from) in g))

  under : r * 2 ^ 1074 < 2 ^ (53 + j) * 2 ^ 2272
  under =
      lt_of_lt_of_le
      (mul-lt-mul_of_pos_right (let g : r < 2 ^ 55 * c = omega (arith, r_upto) in g) (pow_pos 1074))
      (le_of_eq (sym (ends 53)))

  dropped : size (r * 2 ^ 1074 / 2 ^ 2272) - 53 ≡ j
  dropped =
      let q = r * 2 ^ 1074 / 2 ^ 2272 in
      let a : 52 + j < size q = size_gt q (52 + j) ((le-div_iff_mul-le (pow_pos 2272)).1 over) in
      let b : size q ≤ 53 + j = size-le q (53 + j) ((div-lt_iff_lt-mul (pow_pos 2272)).1 under) in
      omega arith

  rounded : round binary64 false r (2 ^ 2272) ≡ units binary64 false (p + 1) j
  rounded =
      round_is binary64 false r (2 ^ 2272)
      ∙ ap (λ (k : ℕ). units binary64 false (closest (r * 2 ^ 1074) (2 ^ 2272 * 2 ^ k)) k) dropped
      ∙ ap (λ (k : ℕ). units binary64 false k j) digits

-- ---- the radicand of the digits m at the exponent k, which is halved

abbrev radicand : ℕ → ℕ → ℕ
radicand m k = m * 2 ^ (52 + k % 2)

split : (m k : ℕ) → m * 2 ^ k * 2 ^ 3468
    ≡ 4 * radicand m k * (2 ^ (k / 2 + 511 + 1196) * 2 ^ (k / 2 + 511 + 1196))
split m k =
    let h = k / 2 + 511 + 1196 in
    let i = 52 + k % 2 in
    mul_assoc m (2 ^ k) (2 ^ 3468)
    ∙ ap (λ (x : ℕ). m * x)
    (sym (pow-add 2 k 3468)
    ∙ power_at (k + 3468) (2 + i + (h + h)) (omega arith)
    ∙ pow-add 2 (2 + i) (h + h)
    ∙ (λ t. pow-add 2 2 i t * pow-add 2 h h t))
    ∙ regroup m (2 ^ i) (2 ^ h * 2 ^ h)
  where
    regroup : (a b s : ℕ) → a * (4 * b * s) ≡ 4 * (a * b) * s
    regroup a b s = omega arith

bounds : (m k : ℕ) → 2 ^ 52 ≤ m → m < 2 ^ 53
    → (2 ^ 104 ≤ radicand m k) × (radicand m k ≤ (2 ^ 53 - 1) * 2 ^ 53)
bounds m k A B = (
  let g : 2 ^ 52 * 2 ^ 52 ≤ radicand m k = mul-le-mul A (pow_mono {i = 52} {j = 52 + k % 2} (omega arith)) in g,
  let g : m ≤ 2 ^ 53 - 1 = omega arith in mul-le-mul g (pow_mono {i = 52 + k % 2} {j = 53} (omega arith)),
)

widened : (m k : ℕ) → m * (1 + k % 2) * 2 ^ 52 ≡ radicand m k
widened m k =
    elim (eq-zero-or-pos (k % 2)) [
      | inl z ↦
          (λ i. m * (1 + z i) * 2 ^ 52) ∙ ap (λ (x : ℕ). x * 2 ^ 52) (mul-one m) ∙ sym (λ i. m * 2 ^ (52 + z i))
      | inr p ↦
          let o : k % 2 ≡ 1 = omega arith in
          (λ i. m * (1 + o i) * 2 ^ 52) ∙ mul_assoc m 2 (2 ^ 52) ∙ sym (λ i. m * 2 ^ (52 + o i))
    ]

-- ---- the double of the digits p + 1 is the root of the double of the digits m

-- p + 1 has 53 digits
in_range : (d p : ℕ) → 2 ^ 104 ≤ d → d ≤ (2 ^ 53 - 1) * 2 ^ 53 → p * p + p < d → d ≤ (p + 1) * (p + 1) + (p + 1)
    → (2 ^ 52 ≤ p + 1) × (p + 1 < 2 ^ 53)
in_range d p A B lo hi = (
  lt_of_not-le (λ (g : p + 1 ≤ 2 ^ 52 - 1).
      let x : (p + 1) * (p + 1) ≤ (2 ^ 52 - 1) * (2 ^ 52 - 1) = mul-le-mul g g in
      omega arith),
  lt_of_not-le (λ (g : 2 ^ 53 ≤ p + 1).
      let h : 2 ^ 53 - 1 ≤ p = omega arith in
      let x : (2 ^ 53 - 1) * (2 ^ 53 - 1) ≤ p * p = mul-le-mul h h in
      omega arith),
)

certified : (m k p : ℕ) → 2 ^ 52 ≤ m → m < 2 ^ 53 → k ≤ 2045
    → p * p + p < radicand m k → radicand m k ≤ (p + 1) * (p + 1) + (p + 1)
    → of_bits binary64 ((k / 2 + 511) * 2 ^ 52 + (p + 1)) ≡ sqrt binary64 (of_bits binary64 (k * 2 ^ 52 + m))
certified m k p A B K lo hi =
    let d = radicand m k in
    let j = k / 2 + 511 in
    let e = bounds m k A B in
    let g = in_range d p e.0 e.1 lo hi in
    let D : d < 2 ^ 106 = omega (arith, e.1) in
    let J : j ≤ 2045 = omega arith in
    let M : 0 < m = omega arith in
    packed (p + 1) j g.0 g.1 J
    ∙ sym (sqrt_is (of_bits binary64 (k * 2 ^ 52 + m)) (m * 2 ^ k) (read m k A B K) (mul-pos M (pow_pos k))
    ∙ ap (λ (x : ℕ). round binary64 false (root_twice x) (2 ^ 2272)) (split m k)
    ∙ rounded d p j e.0 D lo hi)

-- ---- for the answers

pub one_less : (d q : ℕ) → 0 < q → q * q + 2 < d + 3 * q → d + 3 * q ≤ q * q + 2 * q → NearestWhole d (q - 1)
one_less d zero Q lo hi = absurd (omega arith)
one_less d (suc p) Q lo hi =
    subst (NearestWhole d) {x = p} (omega arith) (record { above = omega arith; below = omega arith })

-- d is the radicand of the digits m at the exponent k, and q is certified as its root
module _ (k m d q : ℕ) (A : 2 ^ 52 ≤ m) (B : m < 2 ^ 53) (e : d ≡ m * (1 + k % 2) * 2 ^ 52)
    (h : NearestWhole d q) where
  is_radicand : d ≡ radicand m k
  is_radicand = e ∙ widened m k

  pub has_53_digits : (2 ^ 52 ≤ q) × (q < 2 ^ 53)
  has_53_digits =
      let w = bounds m k A B in
      let r = is_radicand in
      go q h.above h.below (omega arith) (omega arith)
    where
      go : (q : ℕ) → q * q < d + q → d ≤ q * q + q → 2 ^ 104 ≤ d → d ≤ (2 ^ 53 - 1) * 2 ^ 53
          → (2 ^ 52 ≤ q) × (q < 2 ^ 53)
      go zero lo hi l u = absurd (omega arith)
      go (suc p) lo hi l u =
          let i = in_range d p l u (omega arith) (omega arith) in
          omega arith

  pattern_root : (b : ℕ) → k ≤ 2045 → b ≡ k * 2 ^ 52 + m
      → of_bits binary64 ((k / 2 + 511) * 2 ^ 52 + q) ≡ sqrt binary64 (of_bits binary64 b)
  pattern_root b K y =
      let p = q - 1 in
      let z : p + 1 ≡ q = omega (arith, has_53_digits.0) in
      let r : d ≡ radicand m k = is_radicand in
      let n : NearestWhole d (p + 1) = subst (NearestWhole d) (sym z) h in
      let lo : p * p + p < radicand m k = omega arith in
      let hi : radicand m k ≤ (p + 1) * (p + 1) + (p + 1) = omega arith in
      ap (λ (x : ℕ). of_bits binary64 ((k / 2 + 511) * 2 ^ 52 + x)) (sym z)
      ∙ certified m k p A B K lo hi
      ∙ ap (λ (x : ℕ). sqrt binary64 (of_bits binary64 x)) (sym y)

  -- where x has the pattern b, and j is the exponent of the root
  pub is_root : (x : Float) (b j : ℕ) → T (fits binary64 x) → b ≡ to_bits binary64 x → k ≤ 2045
      → b ≡ k * 2 ^ 52 + m → j ≡ (k / 2 + 511) * 2 ^ 52 → of_bits binary64 (j + q) ≡ sqrt binary64 x
  is_root x b j f y K n w =
      ap (λ (z : ℕ). of_bits binary64 (z + q)) w
      ∙ pattern_root b K n
      ∙ ap (λ (z : ℕ). sqrt binary64 (of_bits binary64 z)) y
      ∙ ap (sqrt binary64) (of_bits-to_bits binary64 x f)
