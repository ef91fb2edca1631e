-- What the rules imply: the head tells where its chains begin, no chain meets an index twice, the two chains
-- share none, and coordinates do not matter.
use Rattle.std.proofs.Common.{◌≡◌, ℕ, zero, suc, ◌≤◌, List, [], ◌∷◌, length, sym, ap, subst, arith}
use Rattle.table.specs.declared.Record.{Record}
use Rattle.table.specs.declared.Head.{Head}
use Rattle.table.specs.Chains.{Chained, at, Node}
use Rattle.points.specs.Limits.{last_edit}
use Rattle.table.specs.Whole.{Whole, line_of, free_of}
use Rattle.table.proofs.Segments.{Seg, Off, AllHeld, seg_off, seg_apart, length_nodes}
use Rattle.table.proofs.Places.{InLine, IsFree}
use Rattle.table.proofs.Ends.{place_start}

-- no two nodes lie at one index
abbrev pub Once : List Node → Type 0
Once [] = Unit {0}
Once (c ∷ cs) = Off c.index cs × Once cs

-- no node of the one list lies at an index of the other
abbrev pub Apart : List Node → List Node → Type 0
Apart [] ds = Unit {0}
Apart (c ∷ cs) ds = Off c.index ds × Apart cs ds

-- the index at which a chain begins, or 0
abbrev pub first_index : List Node → ℕ
first_index [] = 0
first_index (c ∷ cs) = c.index

module _ (t : List Record) where
  once : (i : ℕ) (cs : List Node) → Seg t i cs 0 → Once cs
  once i [] p = tt
  once i (c ∷ cs) p =
      let off = seg_off t i (c ∷ cs) p (at t i).next cs p.4 (omega arith) in
      (subst (λ v. Off v cs) p.0 off, once (at t i).next cs p.4)

  apart : (i : ℕ) (cs : List Node) → Seg t i cs 0 → AllHeld InLine cs
      → (j : ℕ) (ds : List Node) → Seg t j ds 0 → AllHeld IsFree ds → Apart cs ds
  apart i [] p w j ds q v = tt
  apart i (c ∷ cs) p w j ds q v =
      let e : (at t i).edit ≡ c.held.edit = ap (λ g. g.edit) p.3 in
      let low : (at t i).edit ≤ last_edit = omega (arith, w.0) in
      let off = seg_apart t IsFree i j ds 0 q v (λ h. omega (arith, low)) in
      (subst (λ k. Off k ds) p.0 off, apart (at t i).next cs p.4 w.1 j ds q v)

  pub first_index_lem : (i : ℕ) (cs : List Node) → Seg t i cs 0 → i ≡ first_index cs
  first_index_lem i [] p = p
  first_index_lem i (c ∷ cs) p = p.0

module _ (t : List Record) (h : Head) (w : Whole t h) where
  pub line_once : Once (line_of t h)
  line_once = once t h.first (line_of t h) (place_start t h w).back

  pub free_once : Once (free_of t h)
  free_once = once t h.free (free_of t h) (place_start t h w).spare

  pub line_free_apart : Apart (line_of t h) (free_of t h)
  line_free_apart =
      let m = place_start t h w in
      apart t h.first (line_of t h) m.back m.line_b h.free (free_of t h) m.spare m.frees

  pub head_first : h.first ≡ first_index (line_of t h)
  head_first = first_index_lem t h.first (line_of t h) (place_start t h w).back

  pub head_free : h.free ≡ first_index (free_of t h)
  head_free = first_index_lem t h.free (free_of t h) (place_start t h w).spare

  pub head_count : h.count ≡ length (line_of t h)
  head_count = sym (length_nodes t h.count h.first)

-- the same links and edit numbers, with any coordinates
pub record SameLinks (t t' : List Record) : Type 0 where
  pub size : length t' ≡ length t
  pub next : (i : ℕ) → (at t' i).next ≡ (at t i).next
  pub edit : (i : ℕ) → (at t' i).edit ≡ (at t i).edit

module _ (t t' : List Record) (s : SameLinks t t') where
  chained_same : (lo hi n i : ℕ) → Chained t lo hi n i → Chained t' lo hi n i
  chained_same lo hi zero i w = w
  chained_same lo hi (suc n) i w =
      let e = s.edit i in
      let rest = chained_same lo hi n (at t i).next w.4 in (
        w.0,
        omega (arith, s.size, w.1),
        omega (arith, w.2),
        omega (arith, w.3),
        subst (Chained t' lo hi n) (sym (s.next i)) rest,
      )

  pub whole_same : (h : Head) → Whole t h → Whole t' h
  whole_same h w = record {
    fits = omega (arith, s.size, w.fits);
    line = chained_same _ _ _ _ w.line;
    free = rw s.size (chained_same _ _ _ _ w.free);
    latest = w.latest;
  }
