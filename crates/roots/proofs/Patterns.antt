-- The pattern of a normal double above 0, and its value.
use Rattle.std.proofs.Common.{◌≡◌, ℕ, suc, ◌+◌, ◌-◌, ◌*◌, ◌/◌, ◌%◌, ◌^◌, ◌<◌, ◌≤◌, Bool, false, cond, T, eqb, leb, sym, ap, ◌∙◌, subst, lt_of_lt_of_le, mul-div_cancel, arith, pow_mono, shl_lt, lt-ltb, ne_eqb}
use borrow.Author.Tests.{lt-leb}
use lib.Ieee.{Float, nan, inf, fin, binary64, up, down, size, odd, units, fits, of_bits, of_fields, to_bits, top}
use lib.Ieee.{hid}
use lib.Ieee.Fits.{odd-fits, down_pos}
use lib.Ieee.Bits.{of_bits-to_bits, of_bits-fits}
use lib.Ieee.Exact.{HasValue, odd_sign, units_val}

-- ---- values

bits_of_value : (x : Float) (s : Bool) (a : ℕ) → HasValue x s a (2 ^ 1074)
    → to_bits binary64 x ≡ cond s (top binary64) 0 + (size a - 53) * hid binary64 + a / 2 ^ (size a - 53)
unfolding to_bits
bits_of_value nan s a v = absurd v
bits_of_value (inf t) s a v = absurd v
bits_of_value (fin t m e) s a v =
    let q = m * up e * 2 ^ 1074 / down e in
    let n : q ≡ a = ap (λ (k : ℕ). k / down e) v.1 ∙ mul-div_cancel a (down_pos e) in
    λ i. cond (v.0 i) (top binary64) 0 + (size (n i) - 53) * hid binary64 + n i / 2 ^ (size (n i) - 53)

same_value : (x y : Float) (s : Bool) (a : ℕ) → T (fits binary64 x) → T (fits binary64 y)
    → HasValue x s a (2 ^ 1074) → HasValue y s a (2 ^ 1074) → x ≡ y
same_value x y s a p q v w =
    sym (of_bits-to_bits binary64 x p)
    ∙ ap (of_bits binary64) (bits_of_value x s a v ∙ sym (bits_of_value y s a w))
    ∙ of_bits-to_bits binary64 y q

fields : (k t : ℕ) → k ≤ 2045
    → HasValue (of_fields binary64 false (suc k) t) false ((2 ^ 52 + t) * 2 ^ k) (2 ^ 1074)
unfolding of_fields
fields k t K =
    let P : Bool → Type 0 = λ b.
    HasValue (cond b (cond (eqb t 0) (inf false) nan) (odd 53 false (2 ^ 52 + t) k 1074)) false
    ((2 ^ 52 + t) * 2 ^ k) (2 ^ 1074) in
    subst P (sym (ne_eqb (suc k) 2047 (omega arith))) (odd_sign 53 false (2 ^ 52 + t) k 1074)

-- a double of 53 digits m, by its pattern
pub read : (m k : ℕ) → 2 ^ 52 ≤ m → m < 2 ^ 53 → k ≤ 2045
    → HasValue (of_bits binary64 (k * 2 ^ 52 + m)) false (m * 2 ^ k) (2 ^ 1074)
unfolding of_bits
read m k A B K =
    let b = k * 2 ^ 52 + m in
    let x : suc k ≡ b % 2 ^ 63 / 2 ^ 52 = omega arith in
    let y : m - 2 ^ 52 ≡ b % 2 ^ 52 = omega arith in
    let z : false ≡ leb (2 ^ 63) b = sym (lt-leb (2 ^ 63) b (omega arith)) in
    let w : 2 ^ 52 + (m - 2 ^ 52) ≡ m = omega arith in
    let v = of_fields binary64 (leb (2 ^ 63) b) (b % 2 ^ 63 / 2 ^ 52) (b % 2 ^ 52) in
    subst (λ (a : ℕ). HasValue v false (a * 2 ^ k) (2 ^ 1074)) w
    (subst (λ (u : Float). HasValue u false ((2 ^ 52 + (m - 2 ^ 52)) * 2 ^ k) (2 ^ 1074))
    (λ i. of_fields binary64 (z i) (x i) (y i)) (fields k (m - 2 ^ 52) K))

units_fits : (m k : ℕ) → m ≤ 2 ^ 53 → m * 2 ^ k < 2 ^ 2098 → T (fits binary64 (units binary64 false m k))
unfolding units
units_fits m k h l =
    subst (λ (b : Bool). T (fits binary64 (cond b (odd 54 false m k 1074) (inf false))))
    (sym (lt-ltb (m * 2 ^ k) (2 ^ 2098) l)) (odd-fits binary64 54 false m k (omega arith) h l)

pub packed : (m k : ℕ) → 2 ^ 52 ≤ m → m < 2 ^ 53 → k ≤ 2045
    → of_bits binary64 (k * 2 ^ 52 + m) ≡ units binary64 false m k
packed m k A B K =
    let b = k * 2 ^ 52 + m in
    let h : 53 + k ≤ 2098 = omega arith in
    let l : m * 2 ^ k < 2 ^ 2098 = lt_of_lt_of_le (shl_lt {a = m} 53 k B) (pow_mono h) in
    same_value (of_bits binary64 b) (units binary64 false m k) false (m * 2 ^ k) (of_bits-fits binary64 b)
    (units_fits m k (omega arith) l) (read m k A B K) (units_val binary64 false m k l)
