-- A double as a whole number of steps, and the library's root by that number.
use Rattle.std.proofs.Common.{◌≡◌, ℕ, zero, suc, ◌+◌, ◌-◌, ◌*◌, ◌/◌, ◌%◌, ◌^◌, ◌<◌, ◌≤◌, Bool, true, false, ◌&&◌, T, eqb, ltb, leb, ℤ, pos, negsuc, sym, ap, ◌∙◌, inl, inr, true≢false, le_of_eq, mul-le-mul_right, mul_assoc, eq-zero-or-pos, mul-lt-mul_of_pos_right, mul-pos, lt_of_not-le, zero-mul, mul-one, mul_right_comm, not-le_of_lt, div-one, mul-div_cancel, arith, ltb→lt, leb→le, pow_pos, pow-add}
use native.Mathlib.Nat.{zero-div}
use lib.Pow.{pow-lt, shl-shr}
use lib.Ieee.{Float, nan, inf, fin, binary64, up, down, round, fits}
use lib.Ieee.Exact.{HasValue}
use lib.Ieee.Fits.{and_l, and_r, up_pos, down_pos}
use lib.Ieee.Positive.{positive}
use Rattle.std.specs.Float.Ieee.{root_twice}
use Rattle.std.specs.Float.{sqrt, float_is_finite}
use Rattle.roots.specs.Nearest.{steps}

-- ---- powers of 2

pub split_pow : (a l k : ℕ) → k ≤ l → a * 2 ^ l ≡ a * 2 ^ (l - k) * 2 ^ k
split_pow a l k h =
    let e : l ≡ l - k + k = omega arith in
    ap (λ (z : ℕ). a * 2 ^ z) e
    ∙ ap (λ (z : ℕ). a * z) (pow-add 2 (l - k) k)
    ∙ sym (mul_assoc a (2 ^ (l - k)) (2 ^ k))

div_pow : (a l k : ℕ) → k ≤ l → a * 2 ^ l / 2 ^ k ≡ a * 2 ^ (l - k)
div_pow a l k h = ap (λ (z : ℕ). z / 2 ^ k) (split_pow a l k h) ∙ shl-shr (a * 2 ^ (l - k)) k

exact_pow : (a l k : ℕ) → k ≤ l → a * 2 ^ l ≡ a * 2 ^ l / 2 ^ k * 2 ^ k
exact_pow a l k h = split_pow a l k h ∙ sym (ap (λ (z : ℕ). z * 2 ^ k) (div_pow a l k h))

exponent : (k l : ℕ) → 2 ^ k ≤ 2 ^ l → k ≤ l
exponent k l h = elim (eq-zero-or-pos (k - l)) [
  | inl z ↦ omega arith
  | inr p ↦ let q : l < k = omega arith in absurd (not-le_of_lt (pow-lt q) h)
]

-- ---- what a double's digits and exponent satisfy

parts : (a b c d : Bool) → T (a && b && c && d) → T b × T c × T d
parts a b c d t = (
  and_r a b (and_l (a && b) c (and_l (a && b && c) d t)),
  and_r (a && b) c (and_l (a && b && c) d t),
  and_r (a && b && c) d t,
)

held : (s : Bool) (m : ℕ) (e : ℤ) → T (fits binary64 (fin s (suc m) e))
    → (suc m < 2 ^ 53) × (down e ≤ 2 ^ 1074) × (suc m * up e < 2 ^ 1024 * down e)
unfolding fits
held s m e f =
    let D = leb (down e) (2 ^ 1074) in
    let U = ltb (suc m * up e) (2 ^ 1024 * down e) in
    let h = parts (eqb (suc m % 2) 1) (ltb (suc m) (2 ^ 53)) D U f in (
      ltb→lt (suc m) (2 ^ 53) h.0,
      leb→le (down e) (2 ^ 1074) h.1,
      ltb→lt (suc m * up e) (2 ^ 1024 * down e) h.2,
    )

-- n is a number of at most 53 digits, with zeros after them
abbrev pub Digits : ℕ → Type 0
Digits n = (m : ℕ) × (t : ℕ) × (m < 2 ^ 53) × (n ≡ m * 2 ^ t)

pub decode : (y : Float) → T (fits binary64 y) → T (float_is_finite y) → Digits (steps y)
unfolding float_is_finite
decode nan f h = absurd h
decode (inf s) f h = absurd h
decode (fin s zero e) f h =
    (0, 0, pow_pos 53, ap (λ (z : ℕ). z * 2 ^ 1074 / down e) (zero-mul (up e)) ∙ zero-div (down e))
decode (fin s (suc m) (pos k)) f h = (
  suc m,
  k + 1074,
  (held s m (pos k) f).0,
  div-one (suc m * 2 ^ k * 2 ^ 1074)
      ∙ mul_assoc (suc m) (2 ^ k) (2 ^ 1074)
      ∙ ap (λ (z : ℕ). suc m * z) (sym (pow-add 2 k 1074)),
)
decode (fin s (suc m) (negsuc k)) f h = (
  suc m,
  1074 - suc k,
  (held s m (negsuc k) f).0,
  ap (λ (z : ℕ). z * 2 ^ 1074 / 2 ^ suc k) (mul-one (suc m))
      ∙ div_pow (suc m) 1074 (suc k) (exponent (suc k) 1074 (held s m (negsuc k) f).1),
)

-- the division in `steps` leaves no remainder
pub exact : (s : Bool) (m : ℕ) (e : ℤ) → T (fits binary64 (fin s m e))
    → m * up e * 2 ^ 1074 ≡ steps (fin s m e) * down e
exact s zero e f =
    let z : 0 * up e * 2 ^ 1074 ≡ 0 = ap (λ (k : ℕ). k * 2 ^ 1074) (zero-mul (up e)) in
    let d : 0 / down e * down e ≡ 0 = ap (λ (k : ℕ). k * down e) (zero-div (down e)) ∙ zero-mul (down e) in
    z ∙ sym (ap (λ (k : ℕ). k / down e * down e) z ∙ d)
exact s (suc m) (pos k) f =
    let n = suc m * 2 ^ k * 2 ^ 1074 in
    sym (mul-one (n / 1) ∙ div-one n)
exact s (suc m) (negsuc k) f =
    exact_pow (suc m * 1) 1074 (suc k) (exponent (suc k) 1074 (held s m (negsuc k) f).1)

pub value : (x : Float) → T (fits binary64 x) → T (positive x) → HasValue x false (steps x) (2 ^ 1074)
value nan f p = absurd p
value (inf s) f p = absurd p
value (fin true m e) f p = absurd p
value (fin false m e) f p = (λ i. false, exact false m e f)

pub steps_of : (r : Float) (g : ℕ) → HasValue r false g (2 ^ 1074) → steps r ≡ g
steps_of nan g h = absurd h
steps_of (inf s) g h = absurd h
steps_of (fin s m e) g h = ap (λ (z : ℕ). z / down e) h.1 ∙ mul-div_cancel g (down_pos e)

within : (n d x k l : ℕ) → x * k ≡ n * d → x < l * d → 0 < k → n < l * k
within n d x k l e h K =
    lt_of_not-le (λ (m : l * k ≤ n).
    let a : l * k * d ≤ n * d = mul-le-mul_right d m in
    let b : x * k < l * d * k = mul-lt-mul_of_pos_right h K in
    omega arith)

-- a double above 0 is at least a step, and below 2 ^ 1024
pub range : (x : Float) → T (fits binary64 x) → T (positive x) → (0 < steps x) × (steps x < 2 ^ 2098)
range nan f p = absurd p
range (inf s) f p = absurd p
range (fin true m e) f p = absurd p
range (fin false zero e) f p = absurd p
range (fin false (suc m) e) f p = (
  elim (eq-zero-or-pos (steps (fin false (suc m) e))) [
    | inl z ↦
        let p : 0 < suc m * up e = mul-pos {m = suc m} (omega arith) (up_pos e) in
        let a : 0 < suc m * up e * 2 ^ 1074 = mul-pos p (pow_pos 1074) in
        let b : steps (fin false (suc m) e) * down e ≡ 0 = ap (λ (k : ℕ). k * down e) z ∙ zero-mul (down e) in
        absurd (not-le_of_lt a (le_of_eq (exact false (suc m) e f ∙ b)))
    | inr q ↦ q
  ],
  within (steps (fin false (suc m) e)) (down e) (suc m * up e) (2 ^ 1074) (2 ^ 1024) (exact false (suc m) e f)
      (held false m e f).2 (pow_pos 1074),
)

-- a fraction a / p below b / q, in whole numbers of a unit
pub in_units : (a p b q R Y u : ℕ) → 0 < u → a * u ≡ R * p → b * u ≡ Y * q → a * q < b * p → R < Y
in_units a p b q R Y u U e f h =
    lt_of_not-le (λ (g : Y ≤ R).
    let i : a * q * u < b * p * u = mul-lt-mul_of_pos_right h U in
    let j : a * u * q ≡ R * p * q = ap (λ (k : ℕ). k * q) e in
    let k : b * u * p ≡ Y * q * p = ap (λ (k : ℕ). k * p) f in
    let l : Y * (p * q) ≤ R * (p * q) = mul-le-mul_right (p * q) g in
    omega arith)

-- ---- the library's root of v steps

scaled : (a d v : ℕ) → 0 < d → a * 2 ^ 1074 ≡ v * d → a * 2 ^ 4542 / d ≡ v * 2 ^ 3468
scaled a d v D e =
    ap (λ (k : ℕ). k / d)
    (sym (mul_assoc a (2 ^ 1074) (2 ^ 3468)) ∙ ap (λ (k : ℕ). k * 2 ^ 3468) e ∙ mul_right_comm v d (2 ^ 3468))
    ∙ mul-div_cancel (v * 2 ^ 3468) D

pub sqrt_is : (x : Float) (v : ℕ) → HasValue x false v (2 ^ 1074) → 0 < v
    → sqrt binary64 x ≡ round binary64 false (root_twice (v * 2 ^ 3468)) (2 ^ 2272)
unfolding sqrt
sqrt_is nan v h V = absurd h
sqrt_is (inf s) v h V = absurd h
sqrt_is (fin true m e) v h V = absurd (true≢false h.0)
sqrt_is (fin false zero e) v h V =
    let z : 0 * up e * 2 ^ 1074 ≡ 0 = ap (λ (k : ℕ). k * 2 ^ 1074) (zero-mul (up e)) ∙ zero-mul (2 ^ 1074) in
    let p : 0 < v * down e = mul-pos V (down_pos e) in
    absurd (not-le_of_lt p (le_of_eq (sym h.1 ∙ z)))
sqrt_is (fin false (suc m) e) v h V =
    ap (λ (n : ℕ). round binary64 false (root_twice n) (2 ^ 2272))
    (scaled (suc m * up e) (down e) v (down_pos e) h.1)
