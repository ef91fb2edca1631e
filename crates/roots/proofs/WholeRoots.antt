-- The whole part of a root, as the library computes it.
use Rattle.std.proofs.Common.{◌≡◌, ℕ, ◌+◌, ◌*◌, ◌<◌, ◌≤◌, Bool, true, false, cond, eqb, sym, refl, le_trans, le_of_eq, mul-le-mul, lt_of_not-le, arith, eqb-true}
use lib.Ieee.{size}
use lib.Ieee.Root.{whole_part}
use Rattle.std.specs.Float.Ieee.{root_below, root_twice}

-- ---- 2 t against twice the root of n, by t * t against n

pub at_most : (n t : ℕ) → root_twice n ≤ 2 * t → n ≤ t * t
unfolding root_twice
at_most n t h = go (eqb (s * s) n) (eqb-true (s * s) n) h
  where
    s : ℕ
    s = root_below (size n) n

    go : (b : Bool) → (b ≡ true → root_below (size n) n * root_below (size n) n ≡ n)
        → 2 * root_below (size n) n + cond b 0 1 ≤ 2 * t → n ≤ t * t
    go true e l =
        let r = root_below (size n) n in
        let a : r ≤ t = omega arith in
        let b : r * r ≤ t * t = mul-le-mul a a in
        le_trans (le_of_eq (sym (e refl))) b
    go false e l =
        let r = root_below (size n) n in
        let a : r + 1 ≤ t = omega arith in
        let b : (r + 1) * (r + 1) ≤ t * t = mul-le-mul a a in
        omega (arith, (whole_part n).1)

pub at_least : (n t : ℕ) → 2 * t ≤ root_twice n → t * t ≤ n
unfolding root_twice
at_least n t h = go (eqb (root_below (size n) n * root_below (size n) n) n) h
  where
    go : (b : Bool) → 2 * t ≤ 2 * root_below (size n) n + cond b 0 1 → t * t ≤ n
    go b l =
        let r = root_below (size n) n in
        let c : cond b 0 1 ≤ 1 = elim b as (λ v. cond v 0 1 ≤ 1) [ true ↦ omega arith | false ↦ omega arith ] in
        let a : t ≤ r = omega arith in
        le_trans (mul-le-mul a a) (whole_part n).0

pub reaches : (n t : ℕ) → t * t ≤ n → 2 * t ≤ root_twice n
unfolding root_twice
reaches n t h =
    let r = root_below (size n) n in
    let a : t < r + 1 = lt_of_not-le (λ (g : r + 1 ≤ t).
    let b : (r + 1) * (r + 1) ≤ t * t = mul-le-mul g g in
    omega (arith, (whole_part n).1)) in
    omega arith
