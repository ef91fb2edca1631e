-- What is rounded is the nearest value.
use Rattle.std.proofs.Common.{◌≡◌, ℕ, suc, ◌+◌, ◌-◌, ◌*◌, ◌/◌, ◌%◌, ◌^◌, ◌<◌, ◌≤◌, not, T, eqb, ◌⊎◌, sym, ap, ◌∙◌, subst, inl, inr, le_trans, mul-le-mul_right, mod-lt, mul_assoc, suc-mul, mul_comm, add-mul, eq-zero-or-pos, lt_of_mul-lt-mul_right, eq-or-lt_of_le, mul-pos, div-add-mod', le-div_iff_mul-le, div-mul-le_self, arith, eqb→eq, leb→le, pow_pos, pow_mono, pow-add, shl_lt}
use Prim.Native.Nat.{compare, Ordering}
use lib.Dec.{is_le, compare_is_eq, nleb→lt, eqb_refl}
use lib.Arith.{lt_of_le-ne}
use lib.Ieee.{binary64, nearest, size}
use lib.Ieee.Scale.{grid}
use lib.Ieee.Digits.{size_reaches}
use lib.Ieee.Nearest.{closest, nearest-ge}
use lib.Ieee.Order.{kept, drop}
use Rattle.roots.proofs.Doubles.{split_pow}

-- ---- the whole number closest to a fraction a / b is at most a half off it

abbrev Cmp : Ordering → ℕ → ℕ → Type 0
Cmp Ordering.lt a b = a < b
Cmp Ordering.eq a b = a ≡ b
Cmp Ordering.gt a b = b < a

cmp : (a b : ℕ) → Cmp (compare a b) a b
cmp a b =
    go (compare a b) (leb→le a b) (nleb→lt a b) (eqb→eq a b)
    (λ (e : a ≡ b). subst (λ (x : ℕ). T (eqb a x)) e (eqb_refl a))
  where
    go : (o : Ordering) → (T (is_le o) → a ≤ b) → (T (not (is_le o)) → b < a) → (T (compare_is_eq o) → a ≡ b)
        → (a ≡ b → T (compare_is_eq o)) → Cmp o a b
    go Ordering.lt h k e n = lt_of_le-ne (h tt) n
    go Ordering.eq h k e n = e tt
    go Ordering.gt h k e n = k tt

near_low : (w r b : ℕ) (o : Ordering) → Cmp o (r * 2) b → 2 * (nearest w o * b) ≤ 2 * (w * b + r) + b
near_low w r b Ordering.lt h = omega arith
near_low w r b Ordering.eq h =
    let p : w % 2 * b ≤ 1 * b = mul-le-mul_right b (omega arith) in
    let q : (w + w % 2) * b ≡ w * b + w % 2 * b = add-mul w (w % 2) b in
    omega arith
near_low w r b Ordering.gt h = let q : suc w * b ≡ w * b + b = suc-mul w b in omega arith

near_high : (w r b : ℕ) (o : Ordering) → r < b → Cmp o (r * 2) b → 2 * (w * b + r) ≤ 2 * (nearest w o * b) + b
near_high w r b Ordering.lt l h = omega arith
near_high w r b Ordering.eq l h =
    let q : (w + w % 2) * b ≡ w * b + w % 2 * b = add-mul w (w % 2) b in
    omega arith
near_high w r b Ordering.gt l h = let q : suc w * b ≡ w * b + b = suc-mul w b in omega arith

closest_low : (a b : ℕ) → 2 * (closest a b * b) ≤ 2 * a + b
closest_low a b =
    subst (λ (n : ℕ). 2 * (closest a b * b) ≤ 2 * n + b) (div-add-mod' a b)
    (near_low (a / b) (a % b) b (compare (a % b * 2) b) (cmp (a % b * 2) b))

closest_high : (a b : ℕ) → 0 < b → 2 * a ≤ 2 * (closest a b * b) + b
closest_high a b B =
    subst (λ (n : ℕ). 2 * n ≤ 2 * (closest a b * b) + b) (div-add-mod' a b)
    (near_high (a / b) (a % b) b (compare (a % b * 2) b) (mod-lt a B) (cmp (a % b * 2) b))

-- and so it is the q that is less than a half off
pub settled : (a b q : ℕ) → 0 < b → 2 * (q * b) < 2 * a + b → 2 * a < 2 * (q * b) + b → closest a b ≡ q
settled a b q B l h =
    let c = closest a b in
    let i : 2 * (c * b) ≤ 2 * a + b = closest_low a b in
    let j : 2 * a ≤ 2 * (c * b) + b = closest_high a b B in
    let u : c * b < suc q * b = let e : suc q * b ≡ q * b + b = suc-mul q b in omega arith in
    let v : q * b < suc c * b = let e : suc c * b ≡ c * b + b = suc-mul c b in omega arith in
    let m : c < suc q = lt_of_mul-lt-mul_right b u in
    let n : q < suc c = lt_of_mul-lt-mul_right b v in
    omega arith

-- ---- q units u against j units

upper : (q j u n : ℕ) → q < j → 2 * n ≤ 2 * (q * u) + u → 2 * n ≤ (q + j) * u
upper q j u n h c =
    let a : (q + j) * u ≡ q * u + j * u = add-mul q j u in
    let b : suc q * u ≤ j * u = mul-le-mul_right u h in
    let d : suc q * u ≡ q * u + u = suc-mul q u in
    omega arith

lower : (q j u n : ℕ) → j < q → 2 * (q * u) ≤ 2 * n + u → (q + j) * u ≤ 2 * n
lower q j u n h c =
    let a : (q + j) * u ≡ q * u + j * u = add-mul q j u in
    let b : suc j * u ≤ q * u = mul-le-mul_right u h in
    let d : suc j * u ≡ j * u + u = suc-mul j u in
    omega arith

group : (q j p b : ℕ) → (q * p + j * p) * b ≡ (q + j) * (b * p)
group q j p b =
    ap (λ (z : ℕ). z * b) (sym (add-mul q j p))
    ∙ mul_assoc (q + j) p b
    ∙ ap (λ (z : ℕ). (q + j) * z) (mul_comm p b)

-- Y units are a multiple of p, or at most z multiples where q is no less than z
abbrev Kind : ℕ → ℕ → ℕ → ℕ → ℕ → Type 0
Kind n q u p Y = ((j : ℕ) × (Y ≡ j * p)) ⊎ ((z : ℕ) × (Y ≤ z * p) × (z ≤ q) × (z * u ≤ n))

above : (n b q p Y : ℕ) → 2 * n ≤ 2 * (q * (b * p)) + b * p → Kind n q (b * p) p Y → q * p < Y
    → 2 * n ≤ (q * p + Y) * b
above n b q p Y c (inl (j, e)) h =
    let i : q < j = lt_of_mul-lt-mul_right p (subst (λ (y : ℕ). q * p < y) e h) in
    subst (λ (y : ℕ). 2 * n ≤ (q * p + y) * b) (sym e)
    (subst (λ (y : ℕ). 2 * n ≤ y) (sym (group q j p b)) (upper q j (b * p) n i c))
above n b q p Y c (inr (z, l, g, k)) h = let x : z * p ≤ q * p = mul-le-mul_right p g in absurd (omega arith)

under : (n b q p Y : ℕ) → 2 * (q * (b * p)) ≤ 2 * n + b * p → Kind n q (b * p) p Y → Y < q * p
    → (q * p + Y) * b ≤ 2 * n
under n b q p Y c (inl (j, e)) h =
    let i : j < q = lt_of_mul-lt-mul_right p (subst (λ (y : ℕ). y < q * p) e h) in
    subst (λ (y : ℕ). (q * p + y) * b ≤ 2 * n) (sym e)
    (subst (λ (y : ℕ). y ≤ 2 * n) (sym (group q j p b)) (lower q j (b * p) n i c))
under n b q p Y c (inr (z, l, g, k)) h =
    let m : q * p + Y ≤ q * p + z * p = omega arith in
    le_trans (mul-le-mul_right b m) (subst (λ (y : ℕ). y ≤ 2 * n) (sym (group q z p b)) (at (eq-or-lt_of_le g)))
  where
    at : (z ≡ q) ⊎ (z < q) → (q + z) * (b * p) ≤ 2 * n
    at (inl e) =
        subst (λ (y : ℕ). (y + z) * (b * p) ≤ 2 * n) e
        (let a : (z + z) * (b * p) ≡ z * (b * p) + z * (b * p) = add-mul z z (b * p) in omega arith)
    at (inr l) = lower q z (b * p) n l c

-- ---- a value of at most 53 digits is of such a kind

small : (n b m t k : ℕ) → 0 < b → m < 2 ^ 53 → t < k → size (n / b) ≡ 53 + k
    → Kind n (closest n (b * 2 ^ k)) (b * 2 ^ k) (2 ^ k) (m * 2 ^ t)
small n b m t k B M l e =
    let w : 2 ^ (52 + k) ≡ 2 ^ 52 * 2 ^ k = pow-add 2 52 k in
    let x : m * 2 ^ t < 2 ^ (53 + t) = shl_lt 53 t M in
    let i : 53 + t ≤ 52 + k = omega arith in
    let y : 2 ^ (53 + t) ≤ 2 ^ (52 + k) = pow_mono i in
    let f : m * 2 ^ t ≤ 2 ^ 52 * 2 ^ k = omega arith in
    let r : 2 ^ (52 + k) ≤ n / b = size_reaches (n / b) (52 + k) (omega arith) in
    let v : 2 ^ (52 + k) * b ≤ n = le_trans (mul-le-mul_right b r) (div-mul-le_self n b) in
    let g : 2 ^ (52 + k) * b ≡ 2 ^ 52 * 2 ^ k * b = ap (λ (z : ℕ). z * b) w in
    let h : 2 ^ 52 * (b * 2 ^ k) ≤ n = omega arith in
    let u : 0 < b * 2 ^ k = mul-pos B (pow_pos k) in
    let o = compare (n % (b * 2 ^ k) * 2) (b * 2 ^ k) in
    inr (2 ^ 52, f, le_trans ((le-div_iff_mul-le u).1 h) (nearest-ge (n / (b * 2 ^ k)) o), h)

large : (m t k : ℕ) → k ≤ t → (j : ℕ) × (m * 2 ^ t ≡ j * 2 ^ k)
large m t k l = (m * 2 ^ (t - k), split_pow m t k l)

kind : (n b m t : ℕ) → 0 < b → m < 2 ^ 53
    → Kind n (kept 53 n b) (b * 2 ^ drop 53 n b) (2 ^ drop 53 n b) (m * 2 ^ t)
kind n b m t B M =
    let k = drop 53 n b in
    elim (eq-zero-or-pos (k - t)) [
      | inl z ↦ inl (large m t k (omega arith))
      | inr p ↦ small n b m t k B M (omega arith) (omega arith)
    ]

-- ---- the rounded fraction a / b, in steps of 2 ^ -1074, against any value of at most 53 digits

pub nearer_above : (a b m t : ℕ) → 0 < b → m < 2 ^ 53 → grid binary64 a b < m * 2 ^ t
    → 2 * (a * 2 ^ 1074) ≤ (grid binary64 a b + m * 2 ^ t) * b
nearer_above a b m t B M h =
    let n = a * 2 ^ 1074 in
    let k = drop 53 n b in
    above n b (closest n (b * 2 ^ k)) (2 ^ k) (m * 2 ^ t) (closest_high n (b * 2 ^ k) (mul-pos B (pow_pos k)))
    (kind n b m t B M) h

pub nearer_below : (a b m t : ℕ) → 0 < b → m < 2 ^ 53 → m * 2 ^ t < grid binary64 a b
    → (grid binary64 a b + m * 2 ^ t) * b ≤ 2 * (a * 2 ^ 1074)
nearer_below a b m t B M h =
    let n = a * 2 ^ 1074 in
    let k = drop 53 n b in
    under n b (closest n (b * 2 ^ k)) (2 ^ k) (m * 2 ^ t) (closest_low n (b * 2 ^ k)) (kind n b m t B M) h

-- ---- it is not far above the fraction

grid_near : (n b : ℕ) → 2 * (kept 53 n b * 2 ^ drop 53 n b * b) ≤ 3 * n + b
grid_near n b =
    let k = drop 53 n b in
    let q = closest n (b * 2 ^ k) in
    let c : 2 * (q * (b * 2 ^ k)) ≤ 2 * n + b * 2 ^ k = closest_low n (b * 2 ^ k) in
    let m : 2 ^ k * b ≡ b * 2 ^ k = mul_comm (2 ^ k) b in
    let g : q * 2 ^ k * b ≡ q * (b * 2 ^ k) = mul_assoc q (2 ^ k) b ∙ ap (λ (z : ℕ). q * z) m in
    let f : b * 2 ^ k ≤ n + b = elim (eq-zero-or-pos k) [
      | inl z ↦ let o : b * 2 ^ k ≡ b * 1 = ap (λ (i : ℕ). b * 2 ^ i) z in omega arith
      | inr p ↦
          let r : 2 ^ (52 + k) ≤ n / b = size_reaches (n / b) (52 + k) (omega arith) in
          let i : k ≤ 52 + k = omega arith in
          let s : 2 ^ k ≤ n / b = le_trans (pow_mono i) r in
          let v : 2 ^ k * b ≤ n = le_trans (mul-le-mul_right b s) (div-mul-le_self n b) in
          let w : 2 ^ k * b ≡ b * 2 ^ k = mul_comm (2 ^ k) b in
          omega arith
    ] in
    omega arith

pub grid_le : (a b : ℕ) → 2 * (grid binary64 a b * b) ≤ 3 * (a * 2 ^ 1074) + b
grid_le a b = grid_near (a * 2 ^ 1074) b
