-- A coupling as a way, step by step, to its last pair; couplings of lines flip and compose.
use mathlib.Core.Path.{◌≡◌, refl, sym, ◌∙◌, subst, subst₂}
use mathlib.Core.List.{List, [], ◌∷◌}
use mathlib.Core.Logic.{inl, inr}
use Prim.Native.Nat.{ℕ, zero, suc, ◌<◌}
use native.Mathlib.Nat.{not-suc-le-zero}
use native.Mathlib.Numerals.{add-one}
use native.Mathlib.Omega.{arith}
use Rattle.couplings.specs.Coupling.{Pair, Step, Walk, IsCoupling, Each}
use Rattle.couplings.specs.Coupling.Step.{first as by_first, second as by-second, both as by_both}
use Rattle.couplings.proofs.Pairs.{each_none, each_cons, Inside, each_in}

-- a step from the places `i` and `j` to the places `k` and `l`
pub data Next : (i j k l : ℕ) → Type 0 where
  first : {i j : ℕ} → Next i j (suc i) j
  second : {i j : ℕ} → Next i j i (suc j)
  both : {i j : ℕ} → Next i j (suc i) (suc j)

-- a way from the first pair to the pair of `k` and `l`, on which each pair is such
pub data Way (R : Pair → Type 0) : (k l : ℕ) → Type 0 where
  begun : R (0, 0) → Way R 0 0
  then : {i j k l : ℕ} → Next i j k l → R (k, l) → Way R i j → Way R k l

end : {R : Pair → Type 0} {i j : ℕ} → Way R i j → R (i, j)
end (begun r) = r
end (then n r w) = r

-- the lines change places
flip_next : {i j k l : ℕ} → Next i j k l → Next j i l k
flip_next first = second
flip_next second = first
flip_next both = both

module _ {R S : Pair → Type 0} (t : (i j : ℕ) → R (i, j) → S (j, i)) where
  flip : {i j : ℕ} → Way R i j → Way S j i
  flip (begun r) = begun (t _ _ r)
  flip (then n r w) = then (flip_next n) (t _ _ r) (flip w)

-- a way through one line and a second, and a way through the second and a third
module _ {R S U : Pair → Type 0} (t : (i j k : ℕ) → R (i, j) → S (j, k) → U (i, k)) where
  compose : {i j k : ℕ} → Way R i j → Way S j k → Way U i k
  compose (begun r) (begun s) = begun (t _ _ _ r s)
  compose (begun r) (then second s v) = then second (t _ _ _ r s) (compose (begun r) v)
  compose (then first r w) v = then first (t _ _ _ r (end v)) (compose w v)
  compose (then second r w) (then first s v) = compose w v
  compose (then second r w) (then second s v) = then second (t _ _ _ r s) (compose (then second r w) v)
  compose (then second r w) (then both s v) = then second (t _ _ _ r s) (compose w v)
  compose (then both r w) (then first s v) = then first (t _ _ _ r s) (compose w v)
  compose (then both r w) (then second s v) = then second (t _ _ _ r s) (compose (then both r w) v)
  compose (then both r w) (then both s v) = then both (t _ _ _ r s) (compose w v)

step_of : {i j k l : ℕ} → Next i j k l → Step (i, j) (k, l)
step_of (first {i} {j}) = by_first (sym (add-one i)) refl
step_of (second {i} {j}) = by-second refl (sym (add-one j))
step_of (both {i} {j}) = by_both (sym (add-one i)) (sym (add-one j))

next_of : (p q : Pair) → Step p q → Next p.0 p.1 q.0 q.1
next_of p q s = go s
  where
    To : ℕ → ℕ → Type 0
    To k l = Next p.0 p.1 k l

    go : Step p q → To q.0 q.1
    go (by_first e f) = subst₂ To (sym (e ∙ add-one p.0)) (sym f) first
    go (by-second e f) = subst₂ To (sym e) (sym (f ∙ add-one p.1)) second
    go (by_both e f) = subst₂ To (sym (e ∙ add-one p.0)) (sym (f ∙ add-one p.1)) both

module _ {R : Pair → Type 0} where
  -- the pairs of a way, before the pairs that follow it
  abbrev pub pairs : {i j : ℕ} → Way R i j → List Pair → List Pair
  pairs (begun r) ps = (0, 0) ∷ ps
  pairs (then {k = k} {l = l} n r w) ps = pairs w ((k, l) ∷ ps)

  pairs_coupling : (m n : ℕ) {i j : ℕ} (w : Way R i j) (ps : List Pair) → Walk m n (i, j) ps
      → IsCoupling m n (pairs w ps)
  pairs_coupling m n (begun r) ps h = (refl, h)
  pairs_coupling m n (then {k = k} {l = l} s r w) ps h = pairs_coupling m n w ((k, l) ∷ ps) (step_of s, h)

  -- the pairs of a way are a coupling
  pub coupling_of : (m n : ℕ) (w : Way R m n) → IsCoupling (suc m) (suc n) (pairs w [])
  coupling_of m n w = pairs_coupling (suc m) (suc n) w [] (add-one m, add-one n)

  pairs_each : {i j : ℕ} (w : Way R i j) (ps : List Pair) → Each R ps → Each R (pairs w ps)
  pairs_each (begun r) ps h = each_cons R (0, 0) ps r h
  pairs_each (then {k = k} {l = l} n r w) ps h = pairs_each w ((k, l) ∷ ps) (each_cons R (k, l) ps r h)

  -- a way to the pair `p` goes on through the pairs that follow
  walked : (m n : ℕ) (p : Pair) (ps : List Pair) → Walk (suc m) (suc n) p ps → Each R ps
      → (w : Way R p.0 p.1) → (v : Way R m n) × (pairs v [] ≡ pairs w ps)
  walked m n p [] (e, f) h w =
      let a : p.0 ≡ m = omega arith in
      let b : p.1 ≡ n = omega arith in
      subst₂ (λ i j. (v : Way R i j) × (pairs v [] ≡ pairs w [])) a b (w, refl)
  walked m n p (q ∷ qs) (s, c) h w =
      walked m n q qs c (λ x i. h x (inr i)) (then (next_of p q s) (h q (inl refl)) w)

-- a coupling is the pairs of a way
pub way_of : (R : Pair → Type 0) (m n : ℕ) (ps : List Pair) → IsCoupling (suc m) (suc n) ps → Each R ps
    → (w : Way R m n) × (pairs w [] ≡ ps)
way_of R m n [] c h = absurd c
way_of R m n (p ∷ ps) (e, c) h = subst Goal (sym e) at_start c h
  where
    Goal : Pair → Type 0
    Goal p = Walk (suc m) (suc n) p ps → Each R (p ∷ ps) → (w : Way R m n) × (pairs w [] ≡ p ∷ ps)

    at_start : Goal (0, 0)
    at_start c h = walked m n (0, 0) ps c (λ x i. h x (inr i)) (begun (h (0, 0) (inl refl)))

-- some coupling of lines of `m` and `n` points, each of whose pairs is such
abbrev pub Coupled : (m n : ℕ) → (Pair → Type 0) → Type 0
Coupled m n R = (ps : List Pair) × IsCoupling m n ps × Each R ps

from_way : {R : Pair → Type 0} (m n : ℕ) → Way R m n → Coupled (suc m) (suc n) R
from_way m n w = (pairs w [], coupling_of m n w, pairs_each w [] (each_none _))

to_way : {R : Pair → Type 0} (m n : ℕ) → Coupled (suc m) (suc n) R → Way R m n
to_way {R} m n (ps, c, h) = (way_of R m n ps c h).0

-- lines that are coupled have a point
some_point : {R : Pair → Type 0} (m n : ℕ) → Coupled m n R → (0 < m) × (0 < n)
some_point m n ([], c, h) = absurd c
some_point m n (p ∷ ps, c, h) =
    let (i, j) = each_in m n (p ∷ ps) c p (inl refl) in
    (omega (arith, i), omega (arith, j))

-- each pair is in the lines besides
pub inside : {R : Pair → Type 0} (m n : ℕ) → Coupled m n R → Coupled m n (λ p. R p × Inside m n p)
inside m n (ps, c, h) = (ps, c, λ p i. (h p i, each_in m n ps c p i))

pub couplings_flip : {R S : Pair → Type 0} (m n : ℕ) → ((i j : ℕ) → R (i, j) → S (j, i))
    → Coupled m n R → Coupled n m S
couplings_flip zero n t c = absurd (not-suc-le-zero (some_point 0 n c).0)
couplings_flip (suc m) zero t c = absurd (not-suc-le-zero (some_point (suc m) 0 c).1)
couplings_flip (suc m) (suc n) t c = from_way n m (flip t (to_way m n c))

pub couplings_compose : {R S U : Pair → Type 0} (l m n : ℕ)
    → ((i j k : ℕ) → R (i, j) → S (j, k) → U (i, k)) → Coupled l m R → Coupled m n S → Coupled l n U
couplings_compose zero m n t c e = absurd (not-suc-le-zero (some_point 0 m c).0)
couplings_compose (suc l) zero n t c e = absurd (not-suc-le-zero (some_point 0 n e).0)
couplings_compose (suc l) (suc m) zero t c e = absurd (not-suc-le-zero (some_point (suc m) 0 e).1)
couplings_compose (suc l) (suc m) (suc n) t c e = from_way l n (compose t (to_way l m c) (to_way m n e))
