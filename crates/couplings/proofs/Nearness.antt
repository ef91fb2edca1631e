-- Nearness passes on, and is the same from the other side.
use mathlib.Core.Path.{subst}
use mathlib.Core.List.{List}
use Prim.Native.Nat.{ℕ}
use lib.ListN.{length, get_or}
use Rattle.couplings.specs.Coupling.{Pair, IsCoupling, Among, Each}
use Rattle.couplings.specs.Nearness.{Measure, AtMost, apart_in, Near, Mutual, NearnessPasses}
use Rattle.couplings.proofs.Pairs.{among_get_d, Inside}
use Rattle.couplings.proofs.Ways.{inside, couplings_flip, couplings_compose}

module _ {P V : Type 0} (S : Measure P V) (A B C : List P) (r s : V) (Q : P → P → Type 0) where
  -- points with a point of `B` between them, within `r` of the one and `s` of the other, are such
  abbrev pub Between : Type 0
  Between =
      (a b c : P) → Among a A → Among b B → Among c C
      → AtMost S (S.distance a b) r → AtMost S (S.distance b c) s → Q a c

  -- a coupling within `r` and one within `s` make one each of whose pairs has a point of `B` between
  pub passes_any : Between → Near S A B r → Near S B C s
      → (pairs : List Pair) × IsCoupling (length A) (length C) pairs
      × Each (λ p. Q (get_or A p.0 S.point) (get_or C p.1 S.point)) pairs
  passes_any t near-b near-c =
      couplings_compose (length A) (length B) (length C) met
      (inside (length A) (length B) near-b) (inside (length B) (length C) near-c)
    where
      o : P
      o = S.point

      met : (i j k : ℕ) → AtMost S (apart_in S A B (i, j)) r × Inside (length A) (length B) (i, j)
          → AtMost S (apart_in S B C (j, k)) s × Inside (length B) (length C) (j, k)
          → Q (get_or A i o) (get_or C k o)
      met i j k (f, (x, y)) (g, (_, z)) =
          t _ _ _ (among_get_d A i o x) (among_get_d B j o y) (among_get_d C k o z) f g

pub nearness_passes : {P V : Type 0} → NearnessPasses P V
nearness_passes S A B C r s t h p q = passes_any S A B C r s (λ a c. AtMost S (S.distance a c) t) h p q

pub near_flips : {P V : Type 0} (S : Measure P V) (A B : List P) (r : V) → Mutual S A B
    → Near S A B r → Near S B A r
near_flips {V = V} S A B r m near =
    couplings_flip (length A) (length B) back (inside (length A) (length B) near)
  where
    back : (i j : ℕ) → AtMost S (apart_in S A B (i, j)) r × Inside (length A) (length B) (i, j)
        → AtMost S (apart_in S B A (j, i)) r
    back i j (f, (x, y)) =
        let e = m _ _ (among_get_d A i S.point x) (among_get_d B j S.point y) in
        subst (λ (d : V). AtMost S d r) e f
