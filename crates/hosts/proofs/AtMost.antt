-- A fraction of at most a whole number b, rounded, is a double of at most b in magnitude.
use Rattle.std.proofs.Common.{◌≡◌, ℕ, ◌*◌, ◌^◌, ◌<◌, ◌≤◌, Bool, true, false, cond, T, ltb, sym, subst, inl, inr, zero-le, le_trans, le_of_eq, mul-le-mul_right, eq-zero-or-pos, mul-one, le_of_mul-le-mul_right, arith, lit<, ltb→lt, pow_pos}
use lib.Ieee.{Float, nan, inf, fin, binary64, up, down, lt, eq, le, odd, units, round}
use lib.Ieee.Back.{round_whole}
use lib.Ieee.Exact.{HasValue, units_val}
use lib.Ieee.Fits.{round_is}
use lib.Ieee.Order.{kept, drop, round_mono}
use lib.Ieee.Positive.{positive_of_value, values_of_le}
use lib.Ieee.Scale.{grid, overflow, round_val}

-- finite, and at most b in magnitude
abbrev pub AtMost : ℕ → Float → Type 0
AtMost b nan = ⊥
AtMost b (inf s) = ⊥
AtMost b (fin s m e) = m * up e ≤ b * down e

no_infinity : (y : Float) (b c : ℕ) → HasValue y false b c → T (le (inf false) y) → ⊥
unfolding le lt eq
no_infinity nan b c v h = v
no_infinity (inf s) b c v h = v
no_infinity (fin s m e) b c v h = h

no_overflow : (q k b c : ℕ) (y : Float) → HasValue y false b c → T (le (units binary64 false q k) y)
    → q * 2 ^ k < overflow binary64
unfolding units
no_overflow q k b c y v = go (ltb (q * 2 ^ k) (overflow binary64)) (ltb→lt (q * 2 ^ k) (overflow binary64))
  where
    go : (t : Bool) → (T t → q * 2 ^ k < overflow binary64)
        → T (le (cond t (odd 54 false q k 1074) (inf false)) y) → q * 2 ^ k < overflow binary64
    go true h l = h tt
    go false h l = absurd (no_infinity y b c v l)

-- in steps of 2 ^ -1074
in_steps : (a c b : ℕ) → 0 < c → 0 < b → b ≤ 2 ^ 53 → a ≤ b * c
    → (grid binary64 a c < overflow binary64) × (grid binary64 a c ≤ b * 2 ^ 1074)
in_steps a c b C B W h =
    let x = round binary64 false a c in
    let y = round binary64 false b 1 in
    let g = grid binary64 a c in
    let v = round_whole binary64 false b W in
    let k : a * 1 ≤ b * c = omega arith in
    let l : T (le x y) = round_mono binary64 a c b 1 C (lit< tt) k in
    let u : g < overflow binary64 =
    no_overflow (kept 53 (a * 2 ^ 1074) c) (drop 53 (a * 2 ^ 1074) c) b 1 y v
    (subst (λ (z : Float). T (le z y)) (round_is binary64 false a c) l) in
    let w = round_val binary64 a c u in (
      u,
      elim (eq-zero-or-pos g) [
        | inl z ↦ le_trans (le_of_eq z) zero-le
        | inr p ↦
            subst (λ (n : ℕ). n ≤ b * 2 ^ 1074) (mul-one g)
            (values_of_le x y g (2 ^ 1074) b 1 (positive_of_value x g (2 ^ 1074) w p)
            (positive_of_value y b 1 v B) w v l)
      ],
    )

of_value : (x : Float) (s : Bool) (g b : ℕ) → HasValue x s g (2 ^ 1074) → g ≤ b * 2 ^ 1074 → AtMost b x
of_value nan s g b v h = absurd v
of_value (inf t) s g b v h = absurd v
of_value (fin t m e) s g b v h = scaled (m * up e) (down e) g b (2 ^ 1074) (pow_pos 1074) v.1 h
  where
    scaled : (n d g b p : ℕ) → 0 < p → n * p ≡ g * d → g ≤ b * p → n ≤ b * d
    scaled n d g b p P e h =
        let i : g * d ≤ b * p * d = mul-le-mul_right d h in
        let j : n * p ≤ b * d * p = omega arith in
        le_of_mul-le-mul_right j P

pub at_most : (s : Bool) (a c b : ℕ) → 0 < c → 0 < b → b ≤ 2 ^ 53 → a ≤ b * c → AtMost b (round binary64 s a c)
at_most s a c b C B W h =
    let g = in_steps a c b C B W h in
    of_value (round binary64 s a c) s (grid binary64 a c) b
    (subst (λ (z : Float). HasValue z s (grid binary64 a c) (2 ^ 1074)) (sym (round_is binary64 s a c))
    (units_val binary64 s (kept 53 (a * 2 ^ 1074) c) (drop 53 (a * 2 ^ 1074) c) g.0))
    g.1
