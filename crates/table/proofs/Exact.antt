-- The nodes of both chains, record 0 and the length fix a whole table and its head: an outcome that tells
-- these leaves nothing open.
use Rattle.std.proofs.Common.{◌≡◌, ℕ, zero, suc, ◌-◌, ◌<◌, ◌≤◌, true, false, cond, eqb, ◌⊎◌, List, [], ◌∷◌, ◌++◌, length, sym, refl, ap, ◌∙◌, subst, inl, inr, ⊎_elim, arith, length-append, eq-eqb, ne_eqb}
use Rattle.std.proofs.lemmas.List.{ext_get_or}
use Rattle.std.proofs.lemmas.Bool.{cases_eq, cases_lt}
use Rattle.table.specs.declared.Record.{Record}
use Rattle.table.specs.declared.Head.{Head}
use Rattle.table.specs.Chains.{at, blank, Node, Held, held_in}
use Rattle.table.specs.Outcomes.{Frame}
use Rattle.table.specs.Whole.{Whole, line_of, free_of}
use Rattle.table.proofs.Segments.{Seg, Off, node}
use Rattle.table.proofs.Ends.{place_start, start_total}
use Rattle.table.proofs.Apart as apart
use Rattle.table.proofs.Apart.{Once, Apart, first_index, first_index_lem}

-- every node lies at an index from 1 to n
abbrev Within : ℕ → List Node → Type 0
Within n [] = Unit {0}
Within n (c ∷ cs) = (1 ≤ c.index) × (c.index ≤ n) × Within n cs

-- the nodes that lie elsewhere than at k
abbrev without : ℕ → List Node → List Node
without k [] = []
without k (c ∷ cs) = cond (eqb c.index k) (without k cs) (c ∷ without k cs)

off_without : (j k : ℕ) (cs : List Node) → Off j cs → Off j (without k cs)
off_without j k [] o = tt
off_without j k (c ∷ cs) o =
    elim (eqb c.index k) as (λ v. Off j (cond v (without k cs) (c ∷ without k cs)))
    [ true ↦ off_without j k cs o.1 | false ↦ (o.0, off_without j k cs o.1) ]

once_without : (k : ℕ) (cs : List Node) → Once cs → Once (without k cs)
once_without k [] o = tt
once_without k (c ∷ cs) o =
    elim (eqb c.index k) as (λ v. Once (cond v (without k cs) (c ∷ without k cs))) [
      | true ↦ once_without k cs o.1
      | false ↦ (off_without c.index k cs o.0, once_without k cs o.1)
    ]

without_off : (k : ℕ) (cs : List Node) → Off k cs → without k cs ≡ cs
without_off k [] o = refl
without_off k (c ∷ cs) o = rw (ne_eqb c.index k o.0) (ap (λ v. c ∷ v) (without_off k cs o.1))

length_without : (k : ℕ) (cs : List Node) → Once cs → length cs ≤ suc (length (without k cs))
length_without k [] o = omega arith
length_without k (c ∷ cs) o =
    let more : length cs ≤ suc (length (without k cs)) = length_without k cs o.1 in
    elim (cases_eq c.index k) as (λ _. length (c ∷ cs) ≤ suc (length (without k (c ∷ cs)))) [
      | inl e ↦
          let off : Off k cs = subst (λ v. Off v cs) e o.0 in
          let same : length (without k cs) ≡ length cs = ap length (without_off k cs off) in
          rw (eq-eqb c.index k e) (omega arith)
      | inr n ↦ rw (ne_eqb c.index k n) (omega arith)
    ]

within_without : (n : ℕ) (cs : List Node) → Within (suc n) cs → Within n (without (suc n) cs)
within_without n [] w = tt
within_without n (c ∷ cs) w =
    let rest = within_without n cs w.2 in
    elim (cases_eq c.index (suc n)) as (λ _. Within n (without (suc n) (c ∷ cs))) [
      | inl e ↦ rw (eq-eqb c.index (suc n) e) rest
      | inr ne ↦
          let lt : c.index ≤ n = omega (arith, w.1) in
          rw (ne_eqb c.index (suc n) ne) (w.0, lt, rest)
    ]

-- indices from 1 to n, none twice, are at most n
few : (n : ℕ) (cs : List Node) → Once cs → Within n cs → length cs ≤ n
few zero [] o w = omega arith
few zero (c ∷ cs) o w = absurd (omega (arith, w.0, w.1))
few (suc n) cs o w =
    let out = length_without (suc n) cs o in
    let rest = few n (without (suc n) cs) (once_without (suc n) cs o) (within_without n cs w) in
    omega arith

-- and where they are n, each index is met
met : (n : ℕ) (cs : List Node) (k : ℕ) → Once cs → Within n cs → length cs ≡ n → 1 ≤ k → k ≤ n → Off k cs → ⊥
met n cs k o w l p q off =
    let more : suc (length cs) ≤ n = few n (node k (held_in blank) ∷ cs) (off, o) (p, q, w) in
    omega arith

off_join : (k : ℕ) (a b : List Node) → Off k a → Off k b → Off k (a ++ b)
off_join k [] b p q = q
off_join k (c ∷ cs) b p q = (p.0, off_join k cs b p.1 q)

once_join : (a b : List Node) → Once a → Once b → Apart a b → Once (a ++ b)
once_join [] b p q r = q
once_join (c ∷ cs) b p q r = (off_join c.index cs b p.0 r.0, once_join cs b p.1 q r.1)

within_join : (n : ℕ) (a b : List Node) → Within n a → Within n b → Within n (a ++ b)
within_join n [] b p q = q
within_join n (c ∷ cs) b p q = (p.0, p.1, within_join n cs b p.2 q)

within_seg : (t : List Record) (i : ℕ) (cs : List Node) → Seg t i cs 0 → Within (length t - 1) cs
within_seg t i [] p = tt
within_seg t i (c ∷ cs) p =
    let e : i ≡ c.index = p.0 in
    (omega (arith, p.1), omega (arith, p.2), within_seg t (at t i).next cs p.4)

record_one : (r s : Record) → held_in r ≡ held_in s → r.next ≡ s.next → r ≡ s
record_one r s p q =
    let whole : Held → ℕ → Record =
    λ g n. record { x = g.point.x; y = g.point.y; next = n; edit = g.edit } in
    ap (λ g. whole g r.next) p ∙ ap (whole (held_in s)) q

-- two tables with one chain have the same records on it
same_at : (t t' : List Record) (i : ℕ) (cs : List Node) → Seg t i cs 0 → Seg t' i cs 0
    → (k : ℕ) → Off k cs ⊎ (at t' k ≡ at t k)
same_at t t' i [] p q k = inl tt
same_at t t' i (c ∷ cs) p q k =
    let next : (at t' i).next ≡ (at t i).next =
    first_index_lem t' (at t' i).next cs q.4 ∙ sym (first_index_lem t (at t i).next cs p.4) in
    let one : at t' i ≡ at t i = record_one (at t' i) (at t i) (q.3 ∙ sym p.3) next in
    let on : Seg t' (at t i).next cs 0 = subst (λ v. Seg t' v cs 0) next q.4 in
    let more = same_at t t' (at t i).next cs p.4 on k in
    elim (cases_eq c.index k) as (λ _. Off k (c ∷ cs) ⊎ (at t' k ≡ at t k)) [
      | inl e ↦ inr (subst (λ v. at t' v ≡ at t v) (p.0 ∙ e) one)
      | inr n ↦ ⊎_elim (λ off. inl (n, off)) (λ same. inr same) more
    ]

module _ (t : List Record) (h : Head) (w : Whole t h) where
  -- each index but 0 is on a chain
  pub met_all : (k : ℕ) → 1 ≤ k → k < length t → Off k (line_of t h) → Off k (free_of t h) → ⊥
  met_all k p q off-line off-free =
      let m = place_start t h w in
      let line = line_of t h in
      let free = free_of t h in
      let total = start_total t h w in
      let len : length (line ++ free) ≡ length t - 1 = simp length-append (omega arith) in
      met (length t - 1) (line ++ free) k
      (once_join line free (apart.line_once t h w) (apart.free_once t h w) (apart.line_free_apart t h w))
      (within_join (length t - 1) line free (within_seg t h.first line m.back)
      (within_seg t h.free free m.spare))
      len p (omega arith) (off_join k line free off-line off-free)

module _ (t : List Record) (h : Head) (w : Whole t h) (t' : List Record) (h' : Head) (w' : Whole t' h')
    (line : line_of t' h' ≡ line_of t h) (free : free_of t' h' ≡ free_of t h) where
  pub one_first : h'.first ≡ h.first
  one_first = apart.head_first t' h' w' ∙ (ap first_index line ∙ sym (apart.head_first t h w))

  pub one_free : h'.free ≡ h.free
  one_free = apart.head_free t' h' w' ∙ (ap first_index free ∙ sym (apart.head_free t h w))

  pub one_count : h'.count ≡ h.count
  one_count = apart.head_count t' h' w' ∙ (ap length line ∙ sym (apart.head_count t h w))

  line_at : (k : ℕ) → Off k (line_of t h) ⊎ (at t' k ≡ at t k)
  line_at =
      let there : Seg t' h.first (line_of t h) 0 =
      subst (λ v. Seg t' h.first v 0) line
      (subst (λ i. Seg t' i (line_of t' h') 0) one_first (place_start t' h' w').back) in
      same_at t t' h.first (line_of t h) (place_start t h w).back there

  free_at : (k : ℕ) → Off k (free_of t h) ⊎ (at t' k ≡ at t k)
  free_at =
      let there : Seg t' h.free (free_of t h) 0 =
      subst (λ v. Seg t' h.free v 0) free
      (subst (λ i. Seg t' i (free_of t' h') 0) one_free (place_start t' h' w').spare) in
      same_at t t' h.free (free_of t h) (place_start t h w).spare there

  one_at : (k : ℕ) → 1 ≤ k → k < length t → at t' k ≡ at t k
  one_at k p q =
      ⊎_elim
      (λ off-line. ⊎_elim (λ off-free. absurd (met_all t h w k p q off-line off-free)) (λ e. e) (free_at k))
      (λ e. e)
      (line_at k)

  pub one_table : Frame t t' → t' ≡ t
  one_table kept =
      ext_get_or blank t' t kept.size (λ k l.
      ⊎_elim
      (λ p. one_at k p (omega (arith, kept.size)))
      (λ z. let zero : k ≡ 0 = omega arith in subst (λ v. at t' v ≡ at t v) (sym zero) kept.zeroth)
      (cases_lt 0 k))
