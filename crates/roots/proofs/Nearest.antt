-- The rounded root is nearer to the exact one than any other double.
use Rattle.std.proofs.Common.{◌≡◌, ℕ, zero, suc, ◌+◌, ◌-◌, ◌*◌, ◌^◌, ◌<◌, ◌≤◌, true, false, T, ℤ, sym, refl, ap, ◌∙◌, subst, le_of_lt, mul-le-mul_right, mul_assoc, mul-le-mul, mul-lt-mul_of_pos_right, mul-pos, lt_of_not-le, not-le_of_lt, le_of_mul-le-mul_right, sub-le, arith, lit<, ltb→lt, pow_pos, pow-add}
use lib.Ieee.{Float, nan, inf, fin, binary64, up, down, round, fits, lt}
use lib.Ieee.Exact.{HasValue}
use lib.Ieee.Fits.{round-fits}
use lib.Ieee.Positive.{positive, positive_of_value}
use lib.Ieee.Scale.{grid, round_val}
use Rattle.std.specs.Float.Ieee.{root_twice}
use Rattle.std.specs.Float.{sqrt, float_is_finite, is_sign_negative}
use Rattle.roots.specs.Nearest.{steps, Farther, NearestRoot}
use Rattle.roots.proofs.WholeRoots.{at_most, at_least}
use Rattle.roots.proofs.Doubles.{Digits, decode, exact, value, range, steps_of, in_units, sqrt_is}
use Rattle.roots.proofs.Rounded.{nearer_above, nearer_below, grid_le}
use Rattle.roots.proofs.Ties.{AsNear, Nearer, strict}

-- ---- inequalities over powers as variables

lift : (r s c p : ℕ) → 0 < p → 2 * (r * p) ≤ s * (4 * c * p) → r ≤ 2 * (s * c)
lift r s c p P h = let g : r * p ≤ 2 * (s * c) * p = omega arith in le_of_mul-le-mul_right g P

press : (r s c p : ℕ) → 0 < p → s * (4 * c * p) ≤ 2 * (r * p) → 2 * (s * c) ≤ r
press r s c p P h = let g : 2 * (s * c) * p ≤ r * p = omega arith in le_of_mul-le-mul_right g P

square_up : (v s c e : ℕ) → 0 < c * c → v * (4 * e * (c * c)) ≤ s * c * (s * c) → 4 * (v * e) ≤ s * s
square_up v s c e C h =
    let g : 4 * (v * e) * (c * c) ≤ s * s * (c * c) = omega arith in
    le_of_mul-le-mul_right g C

square_down : (v s c e : ℕ) → 0 < c * c → s * c * (s * c) ≤ v * (4 * e * (c * c)) → s * s ≤ 4 * (v * e)
square_down v s c e C h =
    let g : s * s * (c * c) ≤ 4 * (v * e) * (c * c) = omega arith in
    le_of_mul-le-mul_right g C

capped : (g b r p a o : ℕ) → r ≤ a → 2 * (g * b) ≤ 3 * (r * p) + b → 3 * (a * p) + b < 2 * (o * b) → g < o
capped g b r p a o h k l =
    lt_of_not-le (λ (m : o ≤ g).
    let x : o * b ≤ g * b = mul-le-mul_right b m in
    let y : r * p ≤ a * p = mul-le-mul_right p h in
    omega arith)

above_zero : (q g : ℕ) → 0 < q → (g < 1 → 4 * q ≤ (g + 1) * (g + 1)) → 0 < g
above_zero q zero Q h = let k : 4 * q ≤ 1 = h (lit< tt) in absurd (omega arith)
above_zero q (suc g) Q h = omega arith

-- a number below 0 takes something from r
taken : (r y c : ℕ) → (r + 0) * (r + 0) < c → (r - y) * (r - y) < c
taken r y c h = let k : (r - y) * (r - y) ≤ r * r = mul-le-mul (sub-le r y) (sub-le r y) in omega arith

-- ---- the rounded root of v steps, in steps
module _ (v : ℕ) (V : v < 2 ^ 2098) where
  abbrev n : ℕ
  n = v * 2 ^ 3468

  abbrev g : ℕ
  g = grid binary64 (root_twice n) (2 ^ 2272)

  n_lt : n < 2 ^ 2783 * 2 ^ 2783
  n_lt = mul-lt-mul_of_pos_right V (pow_pos 3468)

  root_le : root_twice n ≤ 2 * 2 ^ 2783
  root_le =
      le_of_lt (lt_of_not-le (λ (h : 2 * 2 ^ 2783 ≤ root_twice n). not-le_of_lt n_lt (at_least n (2 ^ 2783) h)))

  g_lt : g < 2 ^ 2098
  g_lt =
      capped g (2 ^ 2272) (root_twice n) (2 ^ 1074) (2 * 2 ^ 2783) (2 ^ 2098) root_le
      (grid_le (root_twice n) (2 ^ 2272)) (lit< tt)

  rounded_value : HasValue (round binary64 false (root_twice n) (2 ^ 2272)) false g (2 ^ 1074)
  rounded_value = round_val binary64 (root_twice n) (2 ^ 2272) g_lt

  near_digits : (p t : ℕ) → p < 2 ^ 53 → AsNear (v * 2 ^ 1074) g (p * 2 ^ t)
  near_digits p t P =
      let s = g + p * 2 ^ t in
      let c = 2 ^ 1196 in (
        λ h. square_up v s c (2 ^ 1074) (pow_pos 2392)
            (at_most n (s * c) (lift (root_twice n) s c (2 ^ 1074) (pow_pos 1074)
            (nearer_above (root_twice n) (2 ^ 2272) p t (pow_pos 2272) P h))),
        λ h. square_down v s c (2 ^ 1074) (pow_pos 2392)
            (at_least n (s * c) (press (root_twice n) s c (2 ^ 1074) (pow_pos 1074)
            (nearer_below (root_twice n) (2 ^ 2272) p t (pow_pos 2272) P h))),
      )

  near : (y : ℕ) → Digits y → AsNear (v * 2 ^ 1074) g y
  near y d = subst (AsNear (v * 2 ^ 1074) g) (sym d.3) (near_digits d.0 d.1 d.2)

  not_zero : 0 < v → 0 < g
  not_zero U = above_zero (v * 2 ^ 1074) g (mul-pos U (pow_pos 1074)) (near_digits 1 0 (lit< tt)).0

-- ---- the law

-- a number r above 0 against a double y
farther : (x : Float) (m : ℕ) (e : ℤ) (y : Float)
    → T (fits binary64 (fin false m e)) → 0 < steps (fin false m e)
    → T (fits binary64 y) → T (float_is_finite y)
    → ((k : ℕ) → Digits k → Nearer (steps x * 2 ^ 1074) (steps (fin false m e)) k)
    → Farther x (fin false m e) y
unfolding float_is_finite is_sign_negative lt
farther x m e nan f R fy hy law = absurd hy
farther x m e (inf s) f R fy hy law = absurd hy
farther x m e (fin false n d) f R fy hy law =
    let r = steps (fin false m e) in
    let y = steps (fin false n d) in
    let a = exact false m e f in
    let b = exact false n d fy in
    let h = law y (decode (fin false n d) fy hy) in
    record {
      above = λ l. h.0 (in_units (m * up e) (down e) (n * up d) (down d) r y (2 ^ 1074) (pow_pos 1074) a b
          (ltb→lt (m * up e * down d) (n * up d * down e) l));
      below = λ l. h.1 (in_units (n * up d) (down d) (m * up e) (down e) y r (2 ^ 1074) (pow_pos 1074) b a
          (ltb→lt (n * up d * down e) (m * up e * down d) l));
    }
farther x m e (fin true n d) f R fy hy law =
    let r = steps (fin false m e) in
    let h = (law 0 (0, 0, pow_pos 53, refl)).1 R in
    record { above = λ l. absurd l; below = λ l. taken r (steps (fin true n d)) (4 * (steps x * 2 ^ 1074)) h }

nearest_of : (x r : Float) → T (fits binary64 r) → T (positive r) → 0 < steps r
    → ((k : ℕ) → Digits k → Nearer (steps x * 2 ^ 1074) (steps r) k) → NearestRoot x r
nearest_of x nan f p R law = absurd p
nearest_of x (inf s) f p R law = absurd p
nearest_of x (fin true m e) f p R law = absurd p
nearest_of x (fin false m e) f p R law =
    record { number = p; farther = λ y fy hy. farther x m e y f R fy hy law }

positive_finite : (x : Float) → T (positive x) → T (float_is_finite x)
unfolding float_is_finite
positive_finite nan p = absurd p
positive_finite (inf s) p = absurd p
positive_finite (fin s m e) p = tt

shifted : (v m t : ℕ) → v ≡ m * 2 ^ t → v * 2 ^ 1074 ≡ m * 2 ^ (t + 1074)
shifted v m t e =
    ap (λ (z : ℕ). z * 2 ^ 1074) e
    ∙ mul_assoc m (2 ^ t) (2 ^ 1074)
    ∙ ap (λ (z : ℕ). m * z) (sym (pow-add 2 t 1074))

pub nearest_root : (x : Float) → T (fits binary64 x) → T (positive x) → NearestRoot x (sqrt binary64 x)
nearest_root x f p =
    let v = steps x in
    let b = range x f p in
    let r = round binary64 false (root_twice (v * 2 ^ 3468)) (2 ^ 2272) in
    let h = rounded_value v b.1 in
    let G : steps r ≡ g v b.1 = steps_of r (g v b.1) h in
    let d = decode x f (positive_finite x p) in
    let q = shifted v d.0 d.1 d.3 in
    let law = strict (v * 2 ^ 1074) (g v b.1) d.0 (d.1 + 1074) d.2 q (near v b.1) in
    subst (NearestRoot x) (sym (sqrt_is x v (value x f p) b.0))
    (nearest_of x r (round-fits binary64 false (root_twice (v * 2 ^ 3468)) (2 ^ 2272))
    (positive_of_value r (g v b.1) (2 ^ 1074) h (not_zero v b.1 b.0))
    (subst (λ (k : ℕ). 0 < k) (sym G) (not_zero v b.1 b.0))
    (subst (λ (k : ℕ). (y : ℕ) → Digits y → Nearer (v * 2 ^ 1074) k y) (sym G) law))
