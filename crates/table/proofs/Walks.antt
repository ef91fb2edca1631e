-- A walk along the line by which an edit goes: its place, what the edit has kept, and how many records there are.
use Rattle.std.proofs.Common.{◌≡◌, ℕ, ◌+◌, ◌≤◌, List, [], ◌∷◌, ◌++◌, length, set, subst, arith, length-append}
use Rattle.table.specs.declared.Record.{Record}
use Rattle.table.specs.declared.Head.{Head}
use Rattle.table.specs.Chains.{at, Node, held_in}
use Rattle.table.specs.Links.{freed, link_table, released_table, released_head, inserted_head, newest_head}
use Rattle.points.specs.Limits.{last_edit}
use Rattle.table.specs.Outcomes.{Frame}
use Rattle.table.specs.Whole.{Whole, line_of, free_of}
use Rattle.table.proofs.Segments.{AllHeld, node, length_nodes}
use Rattle.table.proofs.Places.{Place}
use Rattle.table.proofs.Moves.{place_skip, place_mark, place_drop, place_insert}
use Rattle.table.proofs.Ends.{UpTo, Laid, place_start, start_total, place_end}
use Rattle.table.proofs.Zeroth.{kept_refl, kept_then, kept_set, kept_drop, kept_insert}

-- a is behind the place, b is to come, f is free
pub record Walk (t0 t : List Record) (h : Head) (before here : ℕ) (a b f : List Node) : Type 0 where
  pub place : Place t h.first h.free before here a b f
  pub kept : Frame t0 t
  pub count_is : h.count ≡ length a + length b
  pub total : length a + length b + length f + 1 ≡ length t

pub walk_start : (t : List Record) (h : Head) → Whole t h → Walk t t h 0 h.first [] (line_of t h) (free_of t h)
walk_start t h w =
    let n = length_nodes t h.count h.first in
    record {
      place = place_start t h w;
      kept = kept_refl t;
      count_is = omega arith;
      total = omega (arith, start_total t h w);
    }

module _ (t0 t : List Record) (h : Head) (before here : ℕ) (a b f : List Node) (c : Node) where
  module _ (w : Walk t0 t h before here a (c ∷ b) f) where
    pub walk_skip : Walk t0 t h here (at t here).next (a ++ c ∷ []) b f
    walk_skip = record {
      place = place_skip t h.first h.free before here a b f c w.place;
      kept = w.kept;
      count_is = simp length-append (omega (arith, w.count_is));
      total = simp length-append (omega (arith, w.total));
    }

    pub walk_mark : (r : Record) → r.next ≡ (at t here).next → r.edit ≤ last_edit
        → Walk t0 (set t here r) h here (at t here).next (a ++ node here (held_in r) ∷ []) b f
    walk_mark r n l =
        let kept = kept_set t here r w.place.back.1 in
        record {
          place = place_mark t h.first h.free before here a b f c w.place r n l;
          kept = kept_then t0 t (set t here r) w.kept kept;
          count_is = simp length-append (omega (arith, w.count_is));
          total = rw kept.size (simp length-append (omega (arith, w.total)));
        }

    pub walk_drop : Walk t0 (released_table t h before here) (released_head t h before here) before
        (at t here).next a b (node here (held_in (freed h.free)) ∷ f)
    walk_drop =
        let kept = kept_drop t before (at t here).next here h.free w.place.back.1 in
        record {
          place = place_drop t h.first h.free before here a b f c w.place;
          kept = kept_then t0 t (released_table t h before here) w.kept kept;
          count_is = omega (arith, w.count_is);
          total = rw kept.size (omega (arith, w.total));
        }

  module _ (w : Walk t0 t h before here a b (c ∷ f)) (r : Record) (to : r.next ≡ here) (low : r.edit ≤ last_edit) where
    pub walk_insert : Walk t0 (link_table (set t h.free r) before h.free) (inserted_head t h before) h.free here
        (a ++ node h.free (held_in r) ∷ []) b f
    walk_insert =
        let kept = kept_insert t before h.free r w.place.spare.1 in
        record {
          place = place_insert t h.first h.free before here a b f c w.place r to low;
          kept = kept_then t0 t (link_table (set t h.free r) before h.free) w.kept kept;
          count_is = simp length-append (omega (arith, w.count_is));
          total = rw kept.size (simp length-append (omega (arith, w.total)));
        }

pub walk_end : (t0 t : List Record) (h : Head) (before here : ℕ) (a f : List Node)
    → Walk t0 t h before here a [] f → (e : ℕ) → e ≤ last_edit → AllHeld (UpTo e) a → Laid t (newest_head h e) a f
walk_end t0 t h before here a f w e latest top =
    let m : Place t h.first h.free before 0 a [] f =
    subst (λ v. Place t h.first h.free before v a [] f) w.place.back w.place in
    place_end t (newest_head h e) before a f m latest top (omega (arith, w.count_is)) (omega (arith, w.total))
