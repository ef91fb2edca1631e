-- The number of quarter turns, as a double, as an integer and by fours.
use Rattle.std.proofs.Common.{◌≡◌, ℕ, ◌-◌, ◌*◌, ◌/◌, ◌^◌, ◌<◌, ◌≤◌, min, Bool, true, false, cond, T, ℤ, pos, negsuc, ◌+ℤ◌, ◌*ℤ◌, neg_ℤ, nat_abs, sym, ap, ◌∙◌, le_of_lt, div-lt_iff_lt-mul, mul-pos, mul-one, mul-div_cancel, arith, lit<, lit≤, pow_pos}
use lib.Ieee.{Float, nan, inf, fin, binary64, unlike, up, down, mul, lt, le, eq, round, to_signed, of_bits}
use lib.Ieee.Back.{round_whole}
use lib.Ieee.Exact.{HasValue}
use lib.Ieee.Fits.{down_pos}
use Rattle.std.proofs.lemmas.Int.{ints}
use Rattle.std.proofs.lemmas.Bool.Decides.{nat_tests}
use Rattle.std.specs.Float.{round_with, ratio_round_half_up, float_with_sign}
use Rattle.std.specs.Int.{int_rem_euclid}
use Rattle.hosts.specs.Circle.{two_over_pi, signed, Whole, WholeQuarters}
use Rattle.hosts.proofs.AtMost.{AtMost, at_most}

-- ---- an integer by fours

fours : (z : ℤ) → (k : ℤ) × (z ≡ pos 4 *ℤ k +ℤ pos (nat_abs (int_rem_euclid z (pos 4))))
fours (pos a) = (pos (a / 4), ap pos (omega arith))
fours (negsuc a) = (negsuc (a / 4), omega (arith, ints))

under_four : (z : ℤ) → nat_abs (int_rem_euclid z (pos 4)) < 4
under_four (pos a) = omega arith
under_four (negsuc a) = omega arith

-- ---- the double of a whole number h

converted : (s : Bool) (h : ℕ) (q : Float) → h ≤ 2 ^ 21 → HasValue q s h 1 → to_signed 63 q ≡ signed s h
unfolding to_signed
converted s h nan b v = absurd v
converted s h (inf t) b v = absurd v
converted s h (fin t m e) b v =
    let d : m * up e / down e ≡ h =
    ap (λ (z : ℕ). z / down e) (sym (mul-one (m * up e)) ∙ v.1) ∙ mul-div_cancel h (down_pos e) in
    let l : min h (2 ^ 63) ≡ h = omega arith in
    let k : min h (2 ^ 63 - 1) ≡ h = omega arith in
    let f : Bool → ℕ → ℕ → ℤ = λ b x y. cond b (neg_ℤ (pos x)) (pos y) in
    (λ i. f (v.0 i) (min (d i) (2 ^ 63)) (min (d i) (2 ^ 63 - 1))) ∙ (λ i. f s (l i) (k i))

whole : (s : Bool) (h : ℕ) → h ≤ 2 ^ 21 → Whole (round binary64 s h 1)
whole s h b =
    let q = round binary64 s h 1 in
    let w : h ≤ 2 ^ 53 = omega arith in
    let v = round_whole binary64 s h w in
    let c = converted s h q b v in
    let f = fours (to_signed 63 q) in
    (s, h, f.0, b, v, c, sym c ∙ f.1, under_four (to_signed 63 q))

-- ---- the whole number next to n / d

half_cap : (n d : ℕ) → 0 < d → n ≤ 1000000 * d → ratio_round_half_up n d ≤ 2 ^ 21
half_cap n d D h =
    let e : 0 < 2 * d = omega arith in
    le_of_lt ((div-lt_iff_lt-mul e).1 (omega arith))

nearest : (y : Float) → AtMost 1000000 y → Whole (round_with ratio_round_half_up ratio_round_half_up binary64 y)
unfolding round_with
nearest nan h = absurd h
nearest (inf s) h = absurd h
nearest (fin false m e) h =
    whole false (ratio_round_half_up (m * up e) (down e)) (half_cap (m * up e) (down e) (down_pos e) h)
nearest (fin true m e) h =
    whole true (ratio_round_half_up (m * up e) (down e)) (half_cap (m * up e) (down e) (down_pos e) h)

-- ---- an angle of at most 10^6 in magnitude

le_cap : (m : ℕ) (e : ℤ) → T (le (fin false m e) (fin false 15625 (pos 6))) → m * up e * 1 ≤ 1000000 * down e
unfolding le lt eq
le_cap m e t = grind (arith, nat_tests)

times : (s : Bool) (m : ℕ) (e : ℤ) → T (le (fin false m e) (fin false 15625 (pos 6)))
    → AtMost 1000000 (mul binary64 (fin s m e) (fin false 5734161139222659 (negsuc 52)))
unfolding mul
times s m e t =
    let C : 0 < down e * 2 ^ 53 = mul-pos (down_pos e) (pow_pos 53) in
    at_most (unlike s false) (m * up e * 5734161139222659) (down e * 2 ^ 53) 1000000 C (lit< tt) (lit≤ tt)
    (cap (m * up e) (down e) (le_cap m e t))
  where
    cap : (n d : ℕ) → n * 1 ≤ 1000000 * d → n * 5734161139222659 ≤ 1000000 * (d * 2 ^ 53)
    cap n d h = omega arith

pub whole_quarters : WholeQuarters
unfolding float_with_sign of_bits le lt eq
whole_quarters nan t = absurd t
whole_quarters (inf s) t = absurd t
whole_quarters (fin s m e) t = nearest (mul binary64 (fin s m e) two_over_pi) (times s m e t)
