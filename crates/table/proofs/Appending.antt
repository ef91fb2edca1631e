-- An append on its way.
use Rattle.std.proofs.Common.{◌≡◌, ℕ, ◌+◌, ◌<◌, List, [], ◌∷◌, ◌++◌, length, sym, refl, ◌∙◌, subst, inl, inr, append_assoc, append-nil, arith}
use Rattle.points.specs.declared.point.Point.{Point}
use Rattle.table.specs.declared.Record.{Record}
use Rattle.table.specs.declared.Head.{Head}
use Rattle.points.specs.Finite.{first_unfit}
use Rattle.table.specs.Append.{last_index, AppendOk, HasRoom}
use Rattle.table.specs.Chains.{Node}
use Rattle.table.specs.Links.{inserted_table, inserted_head}
use Rattle.points.specs.Limits.{last_edit}
use Rattle.table.specs.Whole.{Checked, Whole, line_of, free_of}
use Rattle.table.proofs.Segments.{all_map, length_nodes}
use Rattle.table.proofs.Places.{Ended, before_inside}
use Rattle.table.proofs.Ends.{UpTo, place_start, start_held, start_total}
use Rattle.table.proofs.Splicing.{Splice, Splicing, splice_step, splice_room}
use Rattle.table.proofs.Walks.{walk_end}
use Rattle.table.proofs.Zeroth.{kept_refl}

ended_more : (u : List Node) (d : Node) (cs : List Node) → Ended (u ++ d ∷ cs) (last_index d.index cs)
ended_more u d [] = inr (u, d, refl, refl)
ended_more u d (c ∷ cs) =
    subst (λ v. Ended v (last_index c.index cs)) (append_assoc u (d ∷ []) (c ∷ cs))
    (ended_more (u ++ d ∷ []) c cs)

pub ended_last : (a : List Node) → Ended a (last_index 0 a)
ended_last [] = inl (refl, refl)
ended_last (c ∷ cs) = ended_more [] c cs

module _ (t0 : List Record) (h0 : Head) (ps0 : List Point) where
  -- the points ps are still to come, at the line's end
  abbrev pub Appending : List Record → Head → ℕ → List Point → Type 0
  Appending t h before ps =
      Splicing t0 (line_of t0 h0) (free_of t0 h0) ps0 (h0.newest + 1) 0 [] t h before ps

  pub append_start : (before : ℕ) → Whole t0 h0 → HasRoom t0 h0 ps0 → before ≡ last_index 0 (line_of t0 h0)
      → Appending t0 h0 before ps0
  append_start before w r b =
      let m = place_start t0 h0 w in
      let n = length_nodes t0 h0.count h0.first in
      let all = start_total t0 h0 w in
      rw b (
        line_of t0 h0,
        free_of t0 h0,
        record {
          walk = record {
            place = record {
              front = m.back;
              back = refl;
              spare = m.spare;
              ends = ended_last (line_of t0 h0);
              line_a = m.line_b;
              line_b = tt;
              frees = m.frees;
            };
            kept = kept_refl t0;
            count_is = omega arith;
            total = omega arith;
          };
          room = omega (arith, w.fits);
          line = refl;
          rest = refl;
          top = all_map (UpTo h0.newest) (UpTo (h0.newest + 1)) (λ g p. omega arith) (line_of t0 h0)
              (start_held t0 h0 w);
        },
      )

  module _ (t : List Record) (h : Head) (before : ℕ) (ps : List Point) (u : Appending t h before ps) where
    at_front : (qs : List Point) → ps ≡ qs
        → Splice t0 (line_of t0 h0) (free_of t0 h0) ps0 (h0.newest + 1) 0 [] t h before qs u.0 u.1
    at_front qs z =
        subst (λ v. Splice t0 (line_of t0 h0) (free_of t0 h0) ps0 (h0.newest + 1) 0 [] t h before v u.0 u.1) z u.2

    module _ (p : Point) (qs : List Point) (z : ps ≡ p ∷ qs) where
      pub append_more : h0.newest < last_edit
          → Appending (inserted_table t h before 0 p (h0.newest + 1)) (inserted_head t h before) h.free qs
      append_more l =
          splice_step t0 (line_of t0 h0) (free_of t0 h0) ps0 (h0.newest + 1) 0 [] t h before p qs u.0 u.1
          (at_front (p ∷ qs) z) (omega arith)

      pub append_inside : (before < length t) × (h.free < length t) × (h.count + 1 < length t0)
      append_inside =
          let r = splice_room t0 (line_of t0 h0) (free_of t0 h0) ps0 (h0.newest + 1) 0 [] t h before p qs u.0 u.1
          (at_front (p ∷ qs) z) in
          (before_inside t h.first h.free before 0 u.0 [] u.1 u.2.walk.place (omega (arith, r.0)), r.0, omega (arith, r.1, u.2.walk.kept.size))

    pub append_at : (t' : List Record) (h' : Head) (before' : ℕ) (ps' : List Point)
        → t' ≡ t → h' ≡ h → before' ≡ before → ps' ≡ ps → Appending t' h' before' ps'
    append_at t' h' before' ps' p1 p2 p3 p4 = rw (p1, p2, p3, p4) u

    pub append_ok : ps ≡ [] → Checked t0 h0 → first_unfit 0 ps0 ≡ 0 → h0.newest < last_edit → HasRoom t0 h0 ps0
        → (t' : List Record) (first free count edit : ℕ) → t' ≡ t → first ≡ h.first → free ≡ h.free
        → count ≡ h.count → edit ≡ h0.newest + 1
        → AppendOk t0 h0 ps0 t' (record { first = first; free = free; count = count; newest = edit })
    append_ok z checked fit l room t' first free count edit e1 e2 e3 e4 e5 =
        let a = u.0 in
        let f = u.1 in
        let v = at_front [] z in
        let laid = walk_end t0 t h before 0 a f v.walk (h0.newest + 1) (omega arith) v.top in
        rw (e1, e2, e3, e4, e5) (record {
          checked = checked;
          fit = fit;
          left = l;
          room = room;
          done = record {
            whole = laid.whole;
            frame = v.walk.kept;
            line = laid.line_is ∙ (sym (append-nil a) ∙ v.line);
            free = laid.free_is ∙ v.rest;
            newest = refl;
          };
        })
