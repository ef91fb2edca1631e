-- Links that are followed one after the other.
use Rattle.std.proofs.Common.{Bool, true, false, cond, leb-true, le-leb, Some, None, Option, [], ◌∷◌, ◌≡◌, ℕ, zero, suc, ◌+◌, ◌-◌, ◌<◌, ◌≤◌, List, length, fold, sym, refl, ap, ◌∙◌, subst, arith}
use Rattle.std.proofs.lemmas.Bool.{and_parts, and_from, both_ways}
use Rattle.std.specs.ControlFlow.{continue_value}
use denote.Param.Members.{Mut}
use Rattle.std.specs.Fn.{Called}
use Rattle.std.specs.Iterator.{TryFoldTurn}
use Rattle.std.specs.List.{range_with_len, FoldsTo}
use Rattle.std.specs.Option.{MatchOption}
use Rattle.table.specs.declared.Record.{Record}
use Rattle.table.specs.Append.{last_index}
use Rattle.table.specs.Chains.{Chained, at, index_at, next_in_chain, nodes}

module _ (t : List Record) where
  -- n links, followed one after the other
  followed : (n a i : ℕ) → fold (λ here _. (at t here).next) i (range_with_len a n) ≡ index_at t i n
  followed zero a i = refl
  followed (suc n) a i = followed n (a + 1) (at t i).next

  last_at : (n d i : ℕ) → last_index d (nodes t (suc n) i) ≡ index_at t i n
  last_at zero d i = refl
  last_at (suc n) d i = last_at n i (at t i).next

  -- one link fewer than the chain has records leads to its last
  pub end_is : (lo hi n i : ℕ) → Chained t lo hi n i
      → fold (λ here _. (at t here).next) i (range_with_len 1 (n - 1)) ≡ last_index 0 (nodes t n i)
  end_is lo hi zero i w = w
  end_is lo hi (suc n) i w =
      let e : suc n - 1 ≡ n = omega arith in
      rw e (followed n 1 i ∙ sym (last_at n 0 i))

taken : (b : Bool) (x j : ℕ) → cond b (Some x) None ≡ Some j → (b ≡ true) × (x ≡ j)
taken true x j e = let same : x ≡ j = cc in (refl, same)
taken false x j e = let z : ◌≡◌ {A = ℕ} 0 1 = cc in absurd (omega arith)

refused : (b : Bool) (x : ℕ) → cond b (Some x) None ≡ None → b ≡ false
refused true x e = let z : ◌≡◌ {A = ℕ} 0 1 = cc in absurd (omega arith)
refused false x e = refl

module _ (t : List Record) (lo hi : ℕ) where
  -- what a link of such a chain is
  linked_to : (i j : ℕ) → next_in_chain t lo hi i ≡ Some j
      → (1 ≤ i) × (i < length t) × (lo ≤ (at t i).edit) × ((at t i).edit ≤ hi) × ((at t i).next ≡ j)
  linked_to i j e =
      let r = taken _ (at t i).next j e in
      let p = and_parts _ _ r.0 in
      let q = and_parts _ _ p.0 in
      let s = and_parts _ _ q.0 in
      (leb-true _ _ s.0, leb-true _ _ s.1, leb-true _ _ q.1, leb-true _ _ p.1, r.1)

  -- and where there is none
  unlinked : (i m : ℕ) → next_in_chain t lo hi i ≡ None → Chained t lo hi (suc m) i → ⊥
  unlinked i m e w =
      let r = refused _ (at t i).next e in
      both_ways _ r
      (and_from _ _ (and_from _ _ (and_from _ _ (le-leb _ _ w.0) (le-leb _ _ w.1)) (le-leb _ _ w.2)) (le-leb _ _ w.3))

  module _ {F : Type 0} (E : Type 0) (g : Mut F (ℕ × (ℕ × Unit {0})) (Option ℕ)) (f : F)
      (calls : (i x : ℕ) (v : Option ℕ) (q : F) → Called g f (i, (x, tt)) v q
      → (q ≡ f) × (v ≡ next_in_chain t lo hi i)) where
    -- calls that went on follow the chain
    abbrev WentOn : F × ℕ → List ℕ → F × ℕ → Type 0
    WentOn p xs q = FoldsTo {P = F × ℕ} (TryFoldTurn {E = E} g (λ v k. v ≡ continue_value k)) p xs q

    followed_by : (xs : List ℕ) (p q : F × ℕ) (m n : ℕ) → p.0 ≡ f → n ≡ length xs + m → WentOn p xs q
        → (q.0 ≡ f) × (Chained t lo hi n p.1 → Chained t lo hi m q.1)
        × (Chained t lo hi m q.1 → Chained t lo hi n p.1)
    followed_by [] p q m n is z w =
        let e : n ≡ m = omega arith in
        rw (← w, e) (is, (λ c. c), (λ c. c))
    followed_by (x ∷ xs) p q m n is z w =
        let k = calls p.1 x w.1.0 w.0.0 (subst (λ v. Called g v (p.1, (x, tt)) w.1.0 w.0.0) is w.1.1) in
        let l = linked_to p.1 w.0.1 (sym k.1 ∙ w.1.2) in
        let rest = followed_by xs w.0 q m (length xs + m) k.0 refl w.2 in
        let e : n ≡ suc (length xs + m) = omega arith in
        rw e (
          rest.0,
          (λ c. rest.1 (subst (Chained t lo hi (length xs + m)) l.4 c.4)),
          (λ c. (l.0, l.1, l.2, l.3, subst (Chained t lo hi (length xs + m)) (sym l.4) (rest.2 c))),
        )

    -- they end at 0 just where the chain has so many records
    pub tried : (n i : ℕ) (r : Option ℕ) (xs : List ℕ) (o : Option ℕ) (q : F × ℕ)
        → (o ≡ None → length xs ≡ n) → ((x : ℕ) → o ≡ Some x → length xs < n) → WentOn (f, i) xs q
        → MatchOption o (r ≡ Some q.1)
        (λ x. (v : Option ℕ) × (h : F) × (e : E) × Called g q.0 (q.1, (x, tt)) v h × (v ≡ None) × (r ≡ None))
        → (r ≡ Some 0 → Chained t lo hi n i) × (Chained t lo hi n i → r ≡ Some 0)
    tried n i r xs None q all part w m =
        let long = all refl in
        let u = followed_by xs (f, i) q 0 n refl (omega arith) w in
        ((λ e. let z : q.1 ≡ 0 = cc in u.2 z), (λ c. m ∙ ap (λ v. Some v) (u.1 c)))
    tried n i r xs (Some x) q all part w m =
        let short = part x refl in
        let u = followed_by xs (f, i) q (suc (n - length xs - 1)) n refl (omega arith) w in
        let k = calls q.1 x m.0 m.1 (subst (λ v. Called g v (q.1, (x, tt)) m.0 m.1) u.0 m.3) in (
          (λ e. let z : ◌≡◌ {A = ℕ} 0 1 = cc (m.5) in absurd (omega arith)),
          (λ c. absurd (unlinked q.1 (n - length xs - 1) (sym k.1 ∙ m.4) (u.1 c))),
        )
