-- The elements of a list, and the pairs of a coupling.
use mathlib.Core.Path.{refl, sym, subst}
use mathlib.Core.List.{List, [], ◌∷◌}
use mathlib.Core.Logic.{inl, inr}
use Prim.Native.Nat.{ℕ, zero, suc, ◌<◌}
use native.Mathlib.Nat.{le_of_suc-le-suc, not-suc-le-zero}
use native.Mathlib.Omega.{arith}
use lib.ListN.{length, get_or}
use Rattle.couplings.specs.Coupling.{Pair, Step, Walk, IsCoupling, Among, Each}
use Rattle.couplings.specs.Coupling.Step.{first, second, both}

pub among_get_d : {P : Type 0} (A : List P) (i : ℕ) (o : P) → i < length A → Among (get_or A i o) A
among_get_d [] i o h = absurd (not-suc-le-zero h)
among_get_d (a ∷ am) zero o h = inl refl
among_get_d (a ∷ am) (suc i) o h = inr (among_get_d am i o (le_of_suc-le-suc h))

pub each_none : {A : Type 0} (Q : A → Type 0) → Each Q []
each_none Q x i = absurd i

pub each_cons : {A : Type 0} (Q : A → Type 0) (p : A) (ps : List A) → Q p → Each Q ps → Each Q (p ∷ ps)
each_cons Q p ps q h x (inl e) = subst Q (sym e) q
each_cons Q p ps q h x (inr i) = h x i

-- the pair is in lines of `m` and `n` points
abbrev pub Inside : (m n : ℕ) → Pair → Type 0
Inside m n p = (p.0 < m) × (p.1 < n)

each_walked : (m n : ℕ) (p : Pair) (ps : List Pair) → Walk m n p ps → Each (Inside m n) (p ∷ ps)
each_walked m n p [] w =
    each_cons (Inside m n) p [] (omega (arith, w.0), omega (arith, w.1)) (each_none (Inside m n))
each_walked m n p (q ∷ qs) w =
    let h = each_walked m n q qs w.1 in
    each_cons (Inside m n) p (q ∷ qs) (go w.0 (h q (inl refl))) h
  where
    go : Step p q → Inside m n q → Inside m n p
    go (first e f) h = (omega (arith, h.0, e), omega (arith, h.1, f))
    go (second e f) h = (omega (arith, h.0, e), omega (arith, h.1, f))
    go (both e f) h = (omega (arith, h.0, e), omega (arith, h.1, f))

-- a coupling stays in the lines
pub each_in : (m n : ℕ) (pairs : List Pair) → IsCoupling m n pairs → Each (Inside m n) pairs
each_in m n [] c = absurd c
each_in m n (p ∷ ps) c = each_walked m n p ps c.1
