-- The discrete Fréchet distance bounds the pairs of couplings: it is what the least coupling costs, where
-- distances join by the larger.
use mathlib.Core.Path.{◌≡◌, refl, sym, ◌∙◌, subst}
use mathlib.Core.List.{List, [], ◌∷◌}
use mathlib.Core.Bool.{Bool}
use mathlib.Core.Logic.{◌⊎◌, inl, inr}
use Prim.Native.Nat.{◌<◌}
use lib.Dec.{T}
use lib.ListN.{length}
use Rattle.std.proofs.lemmas.Bool.{cases_cond}
use Rattle.couplings.specs.Coupling.{Pair, IsCoupling, Among, Each, Some}
use Rattle.couplings.specs.Rows.{Ordered, larger}
use Rattle.couplings.specs.Costs.{Costing, onward, worth, SomeCosts, NoneLess}
use Rattle.couplings.specs.Nearness.{Measure, answers, AtMost, apart_in, Near, Far, Measured, CouplingBound}
use Rattle.couplings.proofs.Order.{ok_larger, larger_left, larger_right, larger_keeps}
use Rattle.couplings.proofs.Pairs.{among_get_d, each_none, each_cons, each_in}
use Rattle.couplings.proofs.Table.{least_coupling}

module _ {V : Type 0} {ok : V → Bool} {le lt : V → V → Bool} (O : Ordered V ok le lt) (c : Pair → V) where
  -- `w` is the largest of `v` and of the pairs: at least each of them, and one of them
  record Largest (w v : V) (ps : List Pair) : Type 0 where
    good : T (ok w)
    over : T (le v w)
    each : Each (λ p. T (le (c p) w)) ps
    one : (w ≡ v) ⊎ Some (λ p. w ≡ c p) ps

  largest : (v : V) (ps : List Pair) → T (ok v) → Each (λ p. T (ok (c p))) ps
      → Largest (onward (larger lt) c v ps) v ps
  largest v [] hv h =
      record { good = hv; over = O.same v hv; each = each_none (λ p. T (le (c p) v)); one = inl refl }
  largest v (p ∷ ps) hv h = go (largest l ps (ok_larger O (c p) v hp hv) (λ x i. h x (inr i)))
    where
      l : V
      l = larger lt (c p) v

      w : V
      w = onward (larger lt) c l ps

      hp : T (ok (c p))
      hp = h p (inl refl)

      found : (w ≡ l) ⊎ Some (λ q. w ≡ c q) ps → (l ≡ v) ⊎ (l ≡ c p)
          → (w ≡ v) ⊎ Some (λ q. w ≡ c q) (p ∷ ps)
      found (inl e) (inl f) = inl (e ∙ f)
      found (inl e) (inr f) = inr (p, inl refl, e ∙ f)
      found (inr (q, i, e)) f = inr (q, inr i, e)

      go : Largest w l ps → Largest w v (p ∷ ps)
      go t =
          let here = larger_left O (c p) v hp hv w t.good t.over in
          record {
            good = t.good;
            over = larger_right O (c p) v hp hv w t.good t.over;
            each = each_cons (λ q. T (le (c q) w)) p ps here t.each;
            one = found t.one (cases_cond (lt (c p) v) v (c p) l refl);
          }

-- distances join by the larger
abbrev by_larger : {P V : Type 0} → Measure P V → Costing P V V
by_larger S = record {
  good = S.ok;
  ok = S.ok;
  le = S.le;
  lt = S.lt;
  ordered = S.ordered;
  begin = λ v. v;
  join = larger S.lt;
  begins = λ k h. h;
  joins = λ k v g h. ok_larger S.ordered k v g h;
  keeps = λ k u v g p q h. larger_keeps S.ordered k u v g p q h;
  zero = S.zero;
  point = S.point;
  cost = S.distance;
}

module _ {P V : Type 0} (S : Measure P V) (A B : List P) (m : Measured S A B) where
  -- what a coupling costs, the largest distance of its pairs
  abbrev cost : List Pair → V
  cost ps = worth (by_larger S) A B ps

  -- it is at least each of their distances, and one of them
  farthest : (ps : List Pair) → IsCoupling (length A) (length B) ps
      → Each (λ p. AtMost S (apart_in S A B p) (cost ps)) ps × Some (λ p. cost ps ≡ apart_in S A B p) ps
  farthest [] c = absurd c
  farthest (p ∷ ps) c =
      (each_cons (λ q. AtMost S (apart_in S A B q) (cost (p ∷ ps))) p ps t.over t.each, found t.one)
    where
      ok : Each (λ q. T (S.ok (apart_in S A B q))) (p ∷ ps)
      ok q i =
          let (h, k) = each_in (length A) (length B) (p ∷ ps) c q i in
          m _ _ (among_get_d A q.0 S.point h) (among_get_d B q.1 S.point k)

      t : Largest S.ordered (apart_in S A B) (cost (p ∷ ps)) (apart_in S A B p) ps
      t = largest S.ordered (apart_in S A B) (apart_in S A B p) ps (ok p (inl refl)) (λ q i. ok q (inr i))

      found : (cost (p ∷ ps) ≡ apart_in S A B p) ⊎ Some (λ q. cost (p ∷ ps) ≡ apart_in S A B q) ps
          → Some (λ q. cost (p ∷ ps) ≡ apart_in S A B q) (p ∷ ps)
      found (inl e) = (p, inl refl, e)
      found (inr (q, i, e)) = (q, inr i, e)

  some_near : (v : V) → SomeCosts (by_larger S) A B v → Near S A B v
  some_near v (ps, c, e) =
      (ps, c, subst (λ (w : V). Each (λ p. AtMost S (apart_in S A B p) w) ps) e (farthest ps c).0)

  all_far : (v : V) → NoneLess (by_larger S) A B v → Far S A B v
  all_far v h ps c =
      let (p, i, e) = (farthest ps c).1 in
      (p, i, subst (λ (w : V). AtMost S v w) e (h ps c))

  some_found : (v : V) → SomeCosts (by_larger S) A B v
      → (a b : P) × Among a A × Among b B × (v ≡ S.distance a b)
  some_found v (ps, c, e) =
      let (p, i, f) = (farthest ps c).1 in
      let (h, k) = each_in (length A) (length B) ps c p i in
      (_, _, among_get_d A p.0 S.point h, among_get_d B p.1 S.point k, sym e ∙ f)

pub coupling_bound : {P V : Type 0} → CouplingBound P V
coupling_bound S A B h k m =
    let (some, none) = least_coupling (by_larger S) A B h k m in
    (some_near S A B m (answers S A B) some, all_far S A B m (answers S A B) none)

-- the answer is the distance of a point of the one line and a point of the other
pub answer_found : {P V : Type 0} (S : Measure P V) (A B : List P)
    → 0 < length A → 0 < length B → Measured S A B
    → (a b : P) × Among a A × Among b B × (answers S A B ≡ S.distance a b)
answer_found S A B h k m = some_found S A B m (answers S A B) (least_coupling (by_larger S) A B h k m).0
