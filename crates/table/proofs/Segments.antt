-- Parts of a chain, as lists of nodes. That a chain meets no index twice follows from its having an end.
use Rattle.std.proofs.Common.{◌≡◌, ℕ, zero, suc, ◌<◌, ◌≤◌, ◌≢◌, List, [], ◌∷◌, ◌++◌, length, set, sym, refl, ap, ◌∙◌, subst, arith, length-append, length-set, get_or-set_other, get_or-set_same}
use Rattle.table.specs.declared.Record.{Record}
use Rattle.table.specs.Chains.{Chained, at, Node, Held, held_in, nodes, blank}

-- the chain from i goes through just these nodes, and then on to j
abbrev pub Seg : List Record → ℕ → List Node → ℕ → Type 0
Seg t i [] j = i ≡ j
Seg t i (c ∷ cs) j =
    (i ≡ c.index) × (1 ≤ i) × (i < length t) × (held_in (at t i) ≡ c.held) × Seg t (at t i).next cs j

-- no node lies at k
abbrev pub Off : ℕ → List Node → Type 0
Off k [] = Unit {0}
Off k (c ∷ cs) = (c.index ≢ k) × Off k cs

abbrev pub AllHeld : (Held → Type 0) → List Node → Type 0
AllHeld P [] = Unit {0}
AllHeld P (c ∷ cs) = P c.held × AllHeld P cs

abbrev pub node : ℕ → Held → Node
node k g = record { index = k; held = g }

pub node_same : {i k : ℕ} {g h : Held} → i ≡ k → g ≡ h → node i g ≡ node k h
node_same {i} {k} {g} {h} p q = ap (λ v. node v g) p ∙ ap (λ v. node k v) q

pub all_map : (P Q : Held → Type 0) → ((g : Held) → P g → Q g)
    → (cs : List Node) → AllHeld P cs → AllHeld Q cs
all_map P Q k [] w = tt
all_map P Q k (c ∷ cs) w = (k c.held w.0, all_map P Q k cs w.1)

pub all_join : (P : Held → Type 0) (a b : List Node) → AllHeld P a → AllHeld P b → AllHeld P (a ++ b)
all_join P [] b p q = q
all_join P (c ∷ cs) b p q = (p.0, all_join P cs b p.1 q)

pub all_right : (P : Held → Type 0) (a b : List Node) → AllHeld P (a ++ b) → AllHeld P b
all_right P [] b p = p
all_right P (c ∷ cs) b p = all_right P cs b p.1

module _ (t : List Record) where
  pub seg_join : (i : ℕ) (a : List Node) (m : ℕ) (b : List Node) (j : ℕ)
      → Seg t i a m → Seg t m b j → Seg t i (a ++ b) j
  seg_join i [] m b j p q = rw p q
  seg_join i (c ∷ cs) m b j p q = (p.0, p.1, p.2, p.3, seg_join (at t i).next cs m b j p.4 q)

  pub seg_split : (i : ℕ) (a b : List Node) (j : ℕ) → Seg t i (a ++ b) j
      → (m : ℕ) × Seg t i a m × Seg t m b j
  seg_split i [] b j p = (i, refl, p)
  seg_split i (c ∷ cs) b j p =
      let r = seg_split (at t i).next cs b j p.4 in
      (r.0, (p.0, p.1, p.2, p.3, r.1), r.2)

  -- a chain that ends is one list
  pub seg_one : (i : ℕ) (a b : List Node) → Seg t i a 0 → Seg t i b 0 → length a ≡ length b
  seg_one i [] [] p q = refl
  seg_one i [] (d ∷ ds) p q = omega arith
  seg_one i (c ∷ cs) [] p q = omega arith
  seg_one i (c ∷ cs) (d ∷ ds) p q = ap suc (seg_one (at t i).next cs ds p.4 q.4)

  -- the start of a longer chain that ends lies on no shorter one
  pub seg_off : (k : ℕ) (ls : List Node) → Seg t k ls 0
      → (i : ℕ) (cs : List Node) → Seg t i cs 0 → length cs < length ls → Off k cs
  seg_off k ls w i [] p h = tt
  seg_off k ls w i (c ∷ cs) p h = (
    (λ e.
        let again : Seg t k (c ∷ cs) 0 = subst (λ v. Seg t v (c ∷ cs) 0) (p.0 ∙ e) p in
        let n : length ls ≡ suc (length cs) = seg_one k ls (c ∷ cs) w again in
        omega arith),
    seg_off k ls w (at t i).next cs p.4 (omega arith),
  )

  -- writing a record off the chain leaves the chain as it is
  pub seg_frame : (k : ℕ) (r : Record) (i : ℕ) (cs : List Node) (j : ℕ)
      → Off k cs → Seg t i cs j → Seg (set t k r) i cs j
  seg_frame k r i [] j o p = p
  seg_frame k r i (c ∷ cs) j o p =
      let ne : i ≢ k = λ e. o.0 (sym p.0 ∙ e) in
      let same : at (set t k r) i ≡ at t i = get_or-set_other t k i r blank ne in (
        p.0,
        p.1,
        rw length-set p.2,
        rw same p.3,
        rw same (seg_frame k r (at t i).next cs j o.1 p.4),
      )

  -- the last record's link is set anew
  pub seg_turn : (k : ℕ) (r : Record) (i : ℕ) (a : List Node) (c : Node) (j : ℕ)
      → c.index ≡ k → held_in r ≡ c.held → Off k a → Seg t i (a ++ c ∷ []) j
      → Seg (set t k r) i (a ++ c ∷ []) r.next
  seg_turn k r i [] c j e g o p =
      let ik : i ≡ k = p.0 ∙ e in
      let lt : k < length t = subst (λ v. v < length t) ik p.2 in
      let same : at (set t k r) i ≡ r = rw ik (get_or-set_same t k r blank lt) in
      (p.0, p.1, rw length-set p.2, rw same g, rw same refl)
  seg_turn k r i (d ∷ ds) c j e g o p =
      let ne : i ≢ k = λ q. o.0 (sym p.0 ∙ q) in
      let same : at (set t k r) i ≡ at t i = get_or-set_other t k i r blank ne in (
        p.0,
        p.1,
        rw length-set p.2,
        rw same p.3,
        rw same (seg_turn k r (at t i).next ds c j e g o.1 p.4),
      )

  -- a record that breaks what all nodes of a chain hold lies off it
  pub seg_apart : (P : Held → Type 0) (k i : ℕ) (cs : List Node) (j : ℕ)
      → Seg t i cs j → AllHeld P cs → (P (held_in (at t k)) → ⊥) → Off k cs
  seg_apart P k i [] j p w n = tt
  seg_apart P k i (c ∷ cs) j p w n = (
    (λ e. n (subst P (sym (subst (λ v. held_in (at t v) ≡ c.held) (p.0 ∙ e) p.3)) w.0)),
    seg_apart P k (at t i).next cs j p.4 w.1 n,
  )

  -- the start of a chain's end lies off what is before it
  pub seg_before : (k i : ℕ) (a : List Node) (d : Node) (b : List Node)
      → d.index ≡ k → Seg t i (a ++ d ∷ b) 0 → Off k a
  seg_before k i [] d b e p = tt
  seg_before k i (c ∷ cs) d b e p =
      let s = seg_split (at t i).next cs (d ∷ b) 0 p.4 in (
        (λ q.
            let w : Seg t i (d ∷ b) 0 =
            subst (λ v. Seg t v (d ∷ b) 0) (s.2.0 ∙ (e ∙ (sym q ∙ sym p.0))) s.2 in
            let n : suc (length (cs ++ d ∷ b)) ≡ suc (length b) =
            seg_one i (c ∷ (cs ++ d ∷ b)) (d ∷ b) p w in
            omega (arith, length-append cs (d ∷ b), n)),
        seg_before k (at t i).next cs d b e p.4,
      )

  pub seg_nonzero : (i : ℕ) (cs : List Node) (j : ℕ) → Seg t i cs j → Off 0 cs
  seg_nonzero i [] j p = tt
  seg_nonzero i (c ∷ cs) j p =
      ((λ e. let z : i ≡ 0 = p.0 ∙ e in omega arith), seg_nonzero (at t i).next cs j p.4)

  -- the nodes of a chain are those that a walk of their number meets
  pub seg_nodes : (i : ℕ) (cs : List Node) (j : ℕ) → Seg t i cs j → nodes t (length cs) i ≡ cs
  seg_nodes i [] j p = refl
  seg_nodes i (c ∷ cs) j p =
      let one : ◌≡◌ {A = Node} (record { index = i; held = held_in (at t i) }) c = node_same p.0 p.3 in
      let rest : nodes t (length cs) (at t i).next ≡ cs = seg_nodes (at t i).next cs j p.4 in
      cc

  pub seg_of : (lo hi n i : ℕ) → Chained t lo hi n i → Seg t i (nodes t n i) 0
  seg_of lo hi zero i w = w
  seg_of lo hi (suc n) i w = (refl, w.0, w.1, refl, seg_of lo hi n (at t i).next w.4)

  pub held_of : (lo hi n i : ℕ) → Chained t lo hi n i
      → AllHeld (λ g. (lo ≤ g.edit) × (g.edit ≤ hi)) (nodes t n i)
  held_of lo hi zero i w = tt
  held_of lo hi (suc n) i w = ((w.2, w.3), held_of lo hi n (at t i).next w.4)

  pub length_nodes : (n i : ℕ) → length (nodes t n i) ≡ n
  length_nodes zero i = refl
  length_nodes (suc n) i = ap suc (length_nodes n (at t i).next)

  pub chained_of : (lo hi i : ℕ) (cs : List Node) → Seg t i cs 0
      → AllHeld (λ g. (lo ≤ g.edit) × (g.edit ≤ hi)) cs → Chained t lo hi (length cs) i
  chained_of lo hi i [] p w = p
  chained_of lo hi i (c ∷ cs) p w =
      let e : (at t i).edit ≡ c.held.edit = ap (λ g. g.edit) p.3 in
      (p.1, p.2, omega arith, omega arith, chained_of lo hi (at t i).next cs p.4 w.1)
