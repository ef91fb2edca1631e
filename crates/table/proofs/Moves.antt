-- The moves of which every edit is made: one record on, renumber, take out, take in.
use Rattle.std.proofs.Common.{◌≡◌, ℕ, ◌<◌, ◌≤◌, ◌≢◌, List, [], ◌∷◌, ◌++◌, length, set, sym, refl, ap, ◌∙◌, inr, arith, length-set, get_or-set_same}
use Rattle.table.specs.declared.Record.{Record}
use Rattle.table.specs.Chains.{at, Node, held_in, blank}
use Rattle.table.specs.Links.{freed, link_table, link_first}
use Rattle.points.specs.Limits.{last_edit}
use Rattle.table.specs.Numbers.{free_number}
use Rattle.table.proofs.Segments as seg
use Rattle.table.proofs.Segments.{Seg, Off, node, all_join}
use Rattle.table.proofs.Places.{Place, InLine, IsFree, length_link, link_frame, before_off, turned}

module _ (t : List Record) (first free before here : ℕ) (a b f : List Node) (c : Node) where
  module _ (m : Place t first free before here a (c ∷ b) f) where
    here_off_a : Off here a
    here_off_a =
        seg.seg_before t here first a c b (sym m.back.0)
        (seg.seg_join t first a here (c ∷ b) 0 m.front m.back)

    here_off_b : Off here b
    here_off_b = seg.seg_off t here (c ∷ b) m.back (at t here).next b m.back.4 (omega arith)

    here_low : (at t here).edit ≤ last_edit
    here_low =
        let e : (at t here).edit ≡ c.held.edit = ap (λ g. g.edit) m.back.3 in
        omega (arith, m.line_b.0)

    here_off_f : Off here f
    here_off_f = seg.seg_apart t IsFree here free f 0 m.spare m.frees (λ h. omega (arith, here_low))

    -- one record on
    pub place_skip : Place t first free here (at t here).next (a ++ c ∷ []) b f
    place_skip = record {
      front = seg.seg_join t first a here (c ∷ []) (at t here).next m.front
          (m.back.0, m.back.1, m.back.2, m.back.3, refl);
      back = m.back.4;
      spare = m.spare;
      ends = inr (a, c, refl, sym m.back.0);
      line_a = all_join InLine a (c ∷ []) m.line_a (m.line_b.0, tt);
      line_b = m.line_b.1;
      frees = m.frees;
    }

    -- the record here holds something else, and the walk goes on
    pub place_mark : (r : Record) → r.next ≡ (at t here).next → r.edit ≤ last_edit
        → Place (set t here r) first free here (at t here).next (a ++ node here (held_in r) ∷ []) b f
    place_mark r n l =
        let same : at (set t here r) here ≡ r = get_or-set_same t here r blank m.back.2 in
        record {
          front = seg.seg_join (set t here r) first a here (node here (held_in r) ∷ []) (at t here).next
              (seg.seg_frame t here r first a here here_off_a m.front)
              (refl, m.back.1, rw length-set m.back.2, ap held_in same, ap (λ v. v.next) same ∙ n);
          back = seg.seg_frame t here r (at t here).next b 0 here_off_b m.back.4;
          spare = seg.seg_frame t here r free f 0 here_off_f m.spare;
          ends = inr (a, node here (held_in r), refl, refl);
          line_a = all_join InLine a (node here (held_in r) ∷ []) m.line_a (l, tt);
          line_b = m.line_b.1;
          frees = m.frees;
        }

    -- the record here leaves the line for the front of the free chain
    pub place_drop : Place (set (link_table t before (at t here).next) here (freed free))
        (link_first first before (at t here).next) here before (at t here).next
        a b (node here (held_in (freed free)) ∷ f)
    place_drop =
        let n = (at t here).next in
        let t1 = link_table t before n in
        let r = freed free in
        let offs = before_off t first free before here a (c ∷ b) f m in
        let lt : here < length t1 = rw (length_link t before n) m.back.2 in
        let same : at (set t1 here r) here ≡ r = get_or-set_same t1 here r blank lt in
        record {
          front = seg.seg_frame t1 here r (link_first first before n) a n here_off_a
              (turned t first free before here a (c ∷ b) f m n);
          back = seg.seg_frame t1 here r n b 0 here_off_b
              (link_frame t before n n b 0 offs.0.1 m.back.4);
          spare = (
            refl,
            m.back.1,
            rw length-set lt,
            ap held_in same,
            rw same (seg.seg_frame t1 here r free f 0 here_off_f
                (link_frame t before n free f 0 offs.1 m.spare)),
          );
          ends = m.ends;
          line_a = m.line_a;
          line_b = m.line_b.1;
          frees = (refl, m.frees);
        }

  -- the first free record is taken into the line, before the record here
  module _ (m : Place t first free before here a b (c ∷ f)) (r : Record)
      (to : r.next ≡ here) (low : r.edit ≤ last_edit) where
    free_number_lem : (at t free).edit ≡ free_number
    free_number_lem = ap (λ g. g.edit) m.spare.3 ∙ m.frees.0

    written : Place (set t free r) first (at t free).next before here a b f
    written = record {
      front = seg.seg_frame t free r first a here
          (seg.seg_apart t InLine free first a here m.front m.line_a (λ h. omega (arith, free_number_lem)))
          m.front;
      back = seg.seg_frame t free r here b 0
          (seg.seg_apart t InLine free here b 0 m.back m.line_b (λ h. omega (arith, free_number_lem)))
          m.back;
      spare = seg.seg_frame t free r (at t free).next f 0
          (seg.seg_off t free (c ∷ f) m.spare (at t free).next f m.spare.4 (omega arith))
          m.spare.4;
      ends = m.ends;
      line_a = m.line_a;
      line_b = m.line_b;
      frees = m.frees.1;
    }

    pub place_insert : Place (link_table (set t free r) before free) (link_first first before free)
        (at t free).next free here (a ++ node free (held_in r) ∷ []) b f
    place_insert =
        let t1 = set t free r in
        let next = (at t free).next in
        let new : List Node = node free (held_in r) ∷ [] in
        let offs = before_off t1 first next before here a b f written in
        let apart : free ≢ before =
        λ e. (before_off t first free before here a b (c ∷ f) m).1.0 (sym m.spare.0 ∙ e) in
        let same : at t1 free ≡ r = get_or-set_same t free r blank m.spare.2 in
        let one : Seg t1 free new here =
        (refl, m.spare.1, rw length-set m.spare.2, ap held_in same, ap (λ v. v.next) same ∙ to) in
        record {
          front = seg.seg_join (link_table t1 before free) (link_first first before free) a free new here
              (turned t1 first next before here a b f written free)
              (link_frame t1 before free free new here (apart, tt) one);
          back = link_frame t1 before free here b 0 offs.0 written.back;
          spare = link_frame t1 before free next f 0 offs.1 written.spare;
          ends = inr (a, node free (held_in r), refl, refl);
          line_a = all_join InLine a new m.line_a (low, tt);
          line_b = m.line_b;
          frees = m.frees.1;
        }
