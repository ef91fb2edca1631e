-- No other double is as near to an exact root as the nearest one.
use Rattle.std.proofs.Common.{◌≡◌, ℕ, zero, suc, ◌+◌, ◌*◌, ◌/◌, ◌%◌, ◌^◌, ◌<◌, ◌≤◌, sym, ap, ◌∙◌, inl, inr, eq-zero-or-pos, mul-le-mul, eq-or-lt_of_le, lt_of_not-le, mul-one, arith}
use Rattle.roots.proofs.Doubles.{Digits}

-- ---- roots in whole numbers

-- where a square is even, so is its root
even : (s q : ℕ) → s * s ≡ 2 * q → s ≡ 2 * (s / 2)
even s q e =
    elim (eq-zero-or-pos (s % 2)) [
      | inl z ↦ omega arith
      | inr p ↦
          let k = s / 2 in
          let o : s ≡ 2 * k + 1 = omega arith in
          let f : s * s ≡ (2 * k + 1) * (2 * k + 1) = λ i. o i * o i in
          absurd (omega arith)
    ]

-- the half of it squares to a quarter
halved : (s q : ℕ) → s * s ≡ 4 * q → s / 2 * (s / 2) ≡ q
halved s q e =
    let k = s / 2 in
    let o : s ≡ 2 * k = even s (2 * q) (omega arith) in
    let f : s * s ≡ 2 * k * (2 * k) = λ i. o i * o i in
    omega arith

below_2^53 : (z n : ℕ) → n < 2 ^ 54 → z * z ≡ n → z < 2 ^ 53
below_2^53 z n N e =
    lt_of_not-le (λ (g : 2 ^ 53 ≤ z). let s : 2 ^ 53 * 2 ^ 53 ≤ z * z = mul-le-mul g g in omega arith)

doubled : (z k : ℕ) → z ≡ 2 * k → Digits k → Digits z
doubled z k o (m, t, M, e) = (
  m,
  suc t,
  M,
  let u : m * 2 ^ suc t ≡ m * (2 * 2 ^ t) = ap (λ (x : ℕ). m * x) (omega arith) in omega arith,
)

-- a whole root of a number of at most 53 digits has no more
few_digits : (w z m : ℕ) → m < 2 ^ 53 → z * z ≡ m * 2 ^ w → Digits z
few_digits zero z m M e = (z, 0, below_2^53 z m (omega arith) (e ∙ mul-one m), sym (mul-one z))
few_digits (suc zero) z m M e = (z, 0, below_2^53 z (m * 2) (omega arith) e, sym (mul-one z))
few_digits (suc (suc w)) z m M e =
    let p : 2 ^ suc (suc w) ≡ 4 * 2 ^ w = omega arith in
    let f : z * z ≡ m * (4 * 2 ^ w) = e ∙ ap (λ (x : ℕ). m * x) p in
    let g : z * z ≡ 4 * (m * 2 ^ w) = omega arith in
    doubled z (z / 2) (even z (2 * (m * 2 ^ w)) (omega arith))
    (few_digits w (z / 2) m M (halved z (m * 2 ^ w) g))

-- ---- g and y in steps, against Q, the square of the root

abbrev pub AsNear : ℕ → ℕ → ℕ → Type 0
AsNear Q g y = (g < y → 4 * Q ≤ (g + y) * (g + y)) × (y < g → (g + y) * (g + y) ≤ 4 * Q)

abbrev pub Nearer : ℕ → ℕ → ℕ → Type 0
Nearer Q g y = (g < y → 4 * Q < (g + y) * (g + y)) × (y < g → (g + y) * (g + y) < 4 * Q)

-- what is as near as the root z is the root

not_below : (g z : ℕ) → 4 * (z * z) ≤ (g + z) * (g + z) → g + 1 ≤ z → ⊥
not_below g z h l =
    let i : g + z + 1 ≤ 2 * z = omega arith in
    let s : (g + z + 1) * (g + z + 1) ≤ 2 * z * (2 * z) = mul-le-mul i i in
    omega arith

not_above : (g z : ℕ) → (g + z) * (g + z) ≤ 4 * (z * z) → z + 1 ≤ g → ⊥
not_above g z h l =
    let i : 2 * z + 1 ≤ g + z = omega arith in
    let s : (2 * z + 1) * (2 * z + 1) ≤ (g + z) * (g + z) = mul-le-mul i i in
    omega arith

exact_root : (Q g z : ℕ) → z * z ≡ Q → AsNear Q g z → g ≡ z
exact_root Q g z e h =
    let a : z < g + 1 = lt_of_not-le (λ (l : g + 1 ≤ z). not_below g z (rw e (h.0 (omega arith))) l) in
    let b : g < z + 1 = lt_of_not-le (λ (l : z + 1 ≤ g). not_above g z (rw e (h.1 (omega arith))) l) in
    omega arith

-- Q has at most 53 digits, and g is as near as every y of that kind
module _ (Q g m w : ℕ) (M : m < 2 ^ 53) (q : Q ≡ m * 2 ^ w) (near : (y : ℕ) → Digits y → AsNear Q g y) where
  no_tie : (y : ℕ) → (g + y) * (g + y) ≡ 4 * Q → g ≡ y
  no_tie y e =
      let s = g + y in
      let z = s / 2 in
      let h : z * z ≡ Q = halved s Q e in
      let o : s ≡ 2 * z = even s (2 * Q) (omega arith) in
      let r : g ≡ z = exact_root Q g z h (near z (few_digits w z m M (h ∙ q))) in
      omega arith

  pub strict : (y : ℕ) → Digits y → Nearer Q g y
  strict y d = (
    λ l. elim (eq-or-lt_of_le ((near y d).0 l)) [
      | inl e ↦ let r : g ≡ y = no_tie y (sym e) in absurd (omega arith)
      | inr h ↦ h
    ],
    λ l. elim (eq-or-lt_of_le ((near y d).1 l)) [
      | inl e ↦ let r : g ≡ y = no_tie y e in absurd (omega arith)
      | inr h ↦ h
    ],
  )
