-- A walk along the line: its place lies between the nodes that it has passed and those to come.
use Rattle.std.proofs.Common.{◌≡◌, ℕ, ◌<◌, ◌≤◌, true, false, cond, eqb, ◌≢◌, ◌⊎◌, List, [], ◌∷◌, ◌++◌, length, set, refl, ap, ◌∙◌, subst, inl, inr, append_assoc, arith, length-set, ne_eqb}
use Rattle.table.specs.declared.Record.{Record}
use Rattle.table.specs.Chains.{at, Node, Held}
use Rattle.table.specs.Links.{linked, link_table, link_first}
use Rattle.points.specs.Limits.{last_edit}
use Rattle.table.specs.Numbers.{free_number}
use Rattle.table.proofs.Segments as seg
use Rattle.table.proofs.Segments.{Seg, Off, AllHeld, all_right}

-- the last of the nodes lies at k, and k is 0 where there is none
abbrev pub Ended : List Node → ℕ → Type 0
Ended a k = ((a ≡ []) × (k ≡ 0)) ⊎ ((u : List Node) × (d : Node) × (a ≡ u ++ d ∷ []) × (d.index ≡ k))

-- what a record of the line holds, and what a free record holds
abbrev pub InLine : Held → Type 0
InLine g = g.edit ≤ last_edit

abbrev pub IsFree : Held → Type 0
IsFree g = g.edit ≡ free_number

-- `before` is the last of a, or 0, and `here` the first of b, or 0; f is free
pub record Place (t : List Record) (first free before here : ℕ) (a b f : List Node) : Type 0 where
  pub front : Seg t first a here
  pub back : Seg t here b 0
  pub spare : Seg t free f 0
  pub ends : Ended a before
  pub line_a : AllHeld InLine a
  pub line_b : AllHeld InLine b
  pub frees : AllHeld IsFree f

pub length_link : (t : List Record) (before k : ℕ) → length (link_table t before k) ≡ length t
length_link t before k =
    elim (eqb before 0) as (λ v. length (cond v t (set t before (linked (at t before) k))) ≡ length t)
    [ true ↦ refl | false ↦ length-set t before (linked (at t before) k) ]

-- the new link leaves a chain that `before` lies off
pub link_frame : (t : List Record) (before k i : ℕ) (cs : List Node) (j : ℕ)
    → Off before cs → Seg t i cs j → Seg (link_table t before k) i cs j
link_frame t before k i cs j o p =
    elim (eqb before 0) as (λ v. Seg (cond v t (set t before (linked (at t before) k))) i cs j)
    [ true ↦ p | false ↦ seg.seg_frame t before (linked (at t before) k) i cs j o p ]

module _ (t : List Record) (first free before here : ℕ) (a b f : List Node)
    (m : Place t first free before here a b f) where
  -- the last record before the place
  module _ (u : List Node) (d : Node) (is : a ≡ u ++ d ∷ []) (lies : d.index ≡ before) where
    front_split : Seg t first (u ++ d ∷ []) here
    front_split = subst (λ v. Seg t first v here) is m.front

    last_seg : Seg t before (d ∷ []) here
    last_seg =
        let s = seg.seg_split t first u (d ∷ []) here front_split in
        subst (λ v. Seg t v (d ∷ []) here) (s.2.0 ∙ lies) s.2

    last_long : Seg t before (d ∷ b) 0
    last_long =
        (last_seg.0, last_seg.1, last_seg.2, last_seg.3, rw last_seg.4 m.back)

    last_low : (at t before).edit ≤ last_edit
    last_low =
        let low = (all_right InLine u (d ∷ []) (subst (AllHeld InLine) is m.line_a)).0 in
        let e : (at t before).edit ≡ d.held.edit = ap (λ g. g.edit) last_seg.3 in
        omega arith

    last_off : Off before b × Off before f
    last_off = (
      seg.seg_off t before (d ∷ b) last_long here b m.back (omega arith),
      seg.seg_apart t IsFree before free f 0 m.spare m.frees (λ h. omega (arith, last_low)),
    )

    last_turned : (k : ℕ) → Seg (link_table t before k) (link_first first before k) a k
    last_turned k =
        let some : before ≢ 0 = λ z. omega (arith, last_seg.1) in
        let whole : Seg t first (u ++ d ∷ b) 0 =
        subst (λ v. Seg t first v 0) (append_assoc u (d ∷ []) b)
        (seg.seg_join t first (u ++ d ∷ []) here b 0 front_split m.back) in
        let off : Off before u = seg.seg_before t before first u d b lies whole in
        let new : Seg (set t before (linked (at t before) k)) first (u ++ d ∷ []) k =
        seg.seg_turn t before (linked (at t before) k) first u d here lies last_seg.3 off front_split in
        rw (ne_eqb before 0 some, is) new

  -- the last record before the place lies off what follows it, and off the free records
  pub before_off : Off before b × Off before f
  before_off =
      elim m.ends as (λ _. Off before b × Off before f) [
        | inl e ↦ rw e.1 (seg.seg_nonzero t here b 0 m.back, seg.seg_nonzero t free f 0 m.spare)
        | inr e ↦ last_off e.0 e.1 e.2 e.3
      ]

  -- the line up to the place, led on to k
  pub turned : (k : ℕ) → Seg (link_table t before k) (link_first first before k) a k
  turned k =
      elim m.ends as (λ _. Seg (link_table t before k) (link_first first before k) a k) [
        | inl e ↦ rw (e.1, e.0) refl
        | inr e ↦ last_turned e.0 e.1 e.2 e.3 k
      ]

  -- the record before the place lies in the table
  pub before_inside : 0 < length t → before < length t
  before_inside s =
      elim m.ends as (λ _. before < length t) [
        | inl e ↦ omega (arith, e.1)
        | inr e ↦ (last_seg e.0 e.1 e.2 e.3).2
      ]
