-- An undo on its way.
use Rattle.std.proofs.Common.{◌≡◌, ℕ, ◌-◌, ◌<◌, true, false, cond, ltb, ◌≢◌, List, [], ◌∷◌, ◌++◌, length, sym, refl, ap, ◌∙◌, append_assoc, append-nil, arith, le-ltb, lt-ltb}
use Rattle.table.specs.declared.Record.{Record}
use Rattle.table.specs.declared.Head.{Head}
use Rattle.table.specs.Chains.{at, Node, Held, held_in}
use Rattle.table.specs.Links.{freed, released_table, released_head, newest_head}
use Rattle.table.specs.Undo.{nodes_before, freed_since, Undone, UndoOk}
use Rattle.table.specs.Whole.{Checked, Whole, line_of, free_of}
use Rattle.table.proofs.Segments.{AllHeld, node, node_same, all_join, all_map, length_nodes}
use Rattle.table.proofs.Places.{before_inside}
use Rattle.table.proofs.Ends.{UpTo, start_held}
use Rattle.table.proofs.Walks.{Walk, walk_start, walk_skip, walk_drop, walk_end}

abbrev Below : ℕ → Held → Type 0
Below e g = g.edit < e

module _ (t0 : List Record) (h0 : Head) where
  -- a is kept, b is still to come, f is free
  pub record Undo (t : List Record) (h : Head) (before here left : ℕ) (a b f : List Node) : Type 0 where
    pub walk : Walk t0 t h before here a b f
    pub left_is : length b ≡ left
    pub line : a ++ nodes_before h0.newest b ≡ nodes_before h0.newest (line_of t0 h0)
    pub gone : freed_since h0.newest b f ≡ freed_since h0.newest (line_of t0 h0) (free_of t0 h0)
    pub top : AllHeld (UpTo h0.newest) b
    pub under : AllHeld (Below h0.newest) a

  abbrev pub Undoing : List Record → Head → ℕ → ℕ → ℕ → Type 0
  Undoing t h before here left =
      (a : List Node) × (b : List Node) × (f : List Node) × Undo t h before here left a b f

  pub undo_start : (left : ℕ) → left ≡ h0.count → Whole t0 h0 → Undoing t0 h0 0 h0.first left
  undo_start left z w =
      let n = length_nodes t0 h0.count h0.first in (
        [],
        line_of t0 h0,
        free_of t0 h0,
        record {
          walk = walk_start t0 h0 w;
          left_is = n ∙ sym z;
          line = refl;
          gone = refl;
          top = start_held t0 h0 w;
          under = tt;
        },
      )

  module _ (t : List Record) (h : Head) (before here left : ℕ) where
    step_keep : (a b f : List Node) → Undo t h before here left a b f → 0 < left
        → (at t here).edit ≢ h0.newest → Undoing t h here (at t here).next (left - 1)
    step_keep a [] f u l n = absurd (omega (arith, u.left_is))
    step_keep a (c ∷ b) f u l n =
        let e = h0.newest in
        let ed : (at t here).edit ≡ c.held.edit = ap (λ g. g.edit) u.walk.place.back.3 in
        let lt : c.held.edit < e = omega (arith, u.top.0) in
        let yes : ltb c.held.edit e ≡ true = lt-ltb c.held.edit e lt in
        let k : a ++ cond (ltb c.held.edit e) (c ∷ nodes_before e b) (nodes_before e b)
        ≡ nodes_before e (line_of t0 h0) = u.line in
        let g : cond (ltb c.held.edit e) (freed_since e b f)
        (freed_since e b (node c.index (held_in (freed 0)) ∷ f))
        ≡ freed_since e (line_of t0 h0) (free_of t0 h0) = u.gone in (
          a ++ c ∷ [],
          b,
          f,
          record {
            walk = walk_skip t0 t h before here a b f c u.walk;
            left_is = omega (arith, u.left_is);
            line = append_assoc a (c ∷ []) (nodes_before e b) ∙ (rw yes at k);
            gone = rw yes at g;
            top = u.top.1;
            under = all_join (Below e) a (c ∷ []) u.under (lt, tt);
          },
        )

    step_drop : (a b f : List Node) → Undo t h before here left a b f → 0 < left
        → (at t here).edit ≡ h0.newest
        → Undoing (released_table t h before here) (released_head t h before here) before (at t here).next
        (left - 1)
    step_drop a [] f u l q = absurd (omega (arith, u.left_is))
    step_drop a (c ∷ b) f u l q =
        let e = h0.newest in
        let ed : (at t here).edit ≡ c.held.edit = ap (λ g. g.edit) u.walk.place.back.3 in
        let no : ltb c.held.edit e ≡ false = le-ltb c.held.edit e (omega arith) in
        let k : a ++ cond (ltb c.held.edit e) (c ∷ nodes_before e b) (nodes_before e b)
        ≡ nodes_before e (line_of t0 h0) = u.line in
        let g : cond (ltb c.held.edit e) (freed_since e b f)
        (freed_since e b (node c.index (held_in (freed 0)) ∷ f))
        ≡ freed_since e (line_of t0 h0) (free_of t0 h0) = u.gone in
        let g' : freed_since e b (node c.index (held_in (freed 0)) ∷ f)
        ≡ freed_since e (line_of t0 h0) (free_of t0 h0) = rw no at g in
        let same : node here (held_in (freed h.free)) ≡ node c.index (held_in (freed 0)) =
        node_same u.walk.place.back.0 refl in (
          a,
          b,
          node here (held_in (freed h.free)) ∷ f,
          record {
            walk = walk_drop t0 t h before here a b f c u.walk;
            left_is = omega (arith, u.left_is);
            line = rw no at k;
            gone = ap (λ v. freed_since e b (v ∷ f)) same ∙ g';
            top = u.top.1;
            under = u.under;
          },
        )

    step_inside : (a b f : List Node) → Undo t h before here left a b f → 0 < left
        → (here < length t) × (0 < h.count)
    step_inside a [] f u l = absurd (omega (arith, u.left_is))
    step_inside a (c ∷ b) f u l = (u.walk.place.back.2, omega (arith, u.walk.count_is))

    last : (a b f : List Node) → Undo t h before here left a b f → left ≡ 0 → 0 < h0.newest → Whole t0 h0
        → Undone t0 h0 t (newest_head h (h0.newest - 1))
    last a (c ∷ b) f u z s w = absurd (omega (arith, u.left_is))
    last a [] f u z s w =
        let laid = walk_end t0 t h before here a f u.walk (h0.newest - 1) (omega (arith, w.latest))
        (all_map (Below h0.newest) (UpTo (h0.newest - 1)) (λ g p. omega arith) a u.under) in
        record {
          whole = laid.whole;
          frame = u.walk.kept;
          line = laid.line_is ∙ (sym (append-nil a) ∙ u.line);
          free = laid.free_is ∙ u.gone;
          newest = refl;
        }

    module _ (u : Undoing t h before here left) where
      pub undo_keep : 0 < left → (at t here).edit ≢ h0.newest → Undoing t h here (at t here).next (left - 1)
      undo_keep = step_keep u.0 u.1 u.2 u.3

      pub undo_drop : 0 < left → (at t here).edit ≡ h0.newest
          → Undoing (released_table t h before here) (released_head t h before here) before (at t here).next
          (left - 1)
      undo_drop = step_drop u.0 u.1 u.2 u.3

      pub undo_inside : 0 < left → (before < length t) × (here < length t) × (0 < h.count)
      undo_inside l =
          let r = step_inside u.0 u.1 u.2 u.3 l in
          (before_inside t h.first h.free before here u.0 u.1 u.2 u.3.walk.place (omega (arith, r.0)), r.0, r.1)

      pub undo_ok : left ≡ 0 → 0 < h0.newest → Checked t0 h0
          → (t' : List Record) (first free count : ℕ) → t' ≡ t → first ≡ h.first → free ≡ h.free → count ≡ h.count
          → UndoOk t0 h0 t'
          (record { first = first; free = free; count = count; newest = h0.newest - 1 })
      undo_ok z s w t' first free count e1 e2 e3 e4 =
          rw (e1, e2, e3, e4) (record { checked = w; some = s; done = last u.0 u.1 u.2 u.3 z s w.whole })

      pub undo_at : (t' : List Record) (h' : Head) (before' here' left' : ℕ)
          → t' ≡ t → h' ≡ h → before' ≡ before → here' ≡ here → left' ≡ left
          → Undoing t' h' before' here' left'
      undo_at t' h' before' here' left' p1 p2 p3 p4 p5 = rw (p1, p2, p3, p4, p5) u
