-- A densify on its way: the points of one pair, and pair after pair.
use Rattle.std.proofs.Common.{◌≡◌, ℕ, ◌+◌, ◌-◌, ◌<◌, ◌≤◌, List, [], ◌∷◌, ◌++◌, length, drop, sym, refl, ap, ◌∙◌, subst, append_assoc, append-nil, arith, length-drop}
use Rattle.std.proofs.lemmas.List.{drop-drop}
use Rattle.points.specs.declared.point.Point.{Point}
use Rattle.table.specs.declared.Record.{Record}
use Rattle.table.specs.declared.Head.{Head}
use Rattle.table.specs.Append.{new_nodes}
use Rattle.table.specs.Chains.{at, Node, point_in}
use Rattle.table.specs.Links.{inserted_table, inserted_head, newest_head}
use Rattle.points.specs.Limits.{last_edit}
use Rattle.table.specs.Weave.{woven_after, woven, spent_after, spent, Enough, Woven}
use Rattle.table.specs.Whole.{Whole, line_of, free_of}
use Rattle.table.proofs.Segments.{AllHeld, all_join, all_map, length_nodes}
use Rattle.table.proofs.Places.{before_inside}
use Rattle.table.proofs.Ends.{UpTo, start_held, start_total}
use Rattle.table.proofs.Splicing.{Splice, Splicing, splice_step, splice_room}
use Rattle.table.proofs.Walks.{Walk, walk_start, walk_skip, walk_end}

module _ (between : Point → Point → List Point) where
  -- p is the last point before the place, and `left` pairs are left
  pub record Weave (t0 : List Record) (h0 : Head) (e : ℕ) (t : List Record) (h : Head) (before here left : ℕ)
      (p : Point) (a b f : List Node) : Type 0 where
    pub walk : Walk t0 t h before here a b f
    pub left_is : length b ≡ left
    pub room : spent_after between p b ≤ length f
    pub line : a ++ woven_after between e p b f ≡ woven between e (line_of t0 h0) (free_of t0 h0)
    pub rest : drop (spent_after between p b) f ≡ drop (spent between (line_of t0 h0)) (free_of t0 h0)
    pub top_a : AllHeld (UpTo e) a
    pub top_b : AllHeld (UpTo e) b

  module _ (t0 : List Record) (h0 : Head) (e left : ℕ) (p : Point) (d : Node) (a b f : List Node) where
    -- the points of a pair start on their way
    weave_splice : (t : List Record) (h : Head) (before here : ℕ)
        → Weave t0 h0 e t h before here left p a (d ∷ b) f
        → Splice t0 a f (between p d.held.point) e here (d ∷ b) t h before (between p d.held.point) a f
    weave_splice t h before here u = record {
      walk = u.walk;
      room = omega (arith, u.room);
      line = refl;
      rest = refl;
      top = u.top_a;
    }

    -- once they stand, the walk goes on behind them
    weave_more : (t1 : List Record) (h1 : Head) (before1 here : ℕ)
        → Weave t0 h0 e t1 h1 before1 here left p a (d ∷ b) f
        → (t : List Record) (h : Head) (before : ℕ) (a' f' : List Node)
        → Splice t0 a f (between p d.held.point) e here (d ∷ b) t h before [] a' f'
        → Weave t0 h0 e t h here (at t here).next (left - 1) d.held.point (a' ++ d ∷ []) b f'
    weave_more t1 h1 before1 here u t h before a' f' s =
        let q = d.held.point in
        let ps = between p q in
        let fr : f' ≡ drop (length ps) f = s.rest in
        let new : a' ≡ a ++ new_nodes e f ps = sym (append-nil a') ∙ s.line in
        record {
          walk = walk_skip t0 t h before here a' b f' d s.walk;
          left_is = omega (arith, u.left_is);
          room = rw (fr, length-drop (length ps) f) (omega (arith, u.room));
          line =
              append_assoc a' (d ∷ []) (woven_after between e q b f')
              ∙ (ap (λ v. v ++ d ∷ woven_after between e q b f') new
              ∙ (append_assoc a (new_nodes e f ps) (d ∷ woven_after between e q b f')
              ∙ (ap (λ v. a ++ (new_nodes e f ps ++ d ∷ woven_after between e q b v)) fr ∙ u.line)));
          rest = ap (drop (spent_after between q b)) fr
              ∙ (drop-drop (spent_after between q b) (length ps) f ∙ u.rest);
          top_a = all_join (UpTo e) a' (d ∷ []) s.top (u.top_b.0, tt);
          top_b = u.top_b.1;
        }

  abbrev pub Weaving : List Record → Head → ℕ → List Record → Head → ℕ → ℕ → ℕ → Point → Type 0
  Weaving t0 h0 e t h before here left p =
      (a : List Node) × (b : List Node) × (f : List Node) × Weave t0 h0 e t h before here left p a b f

  -- what a walk behind the first record starts with
  abbrev pub Started : List Record → Head → ℕ → ℕ → Type 0
  Started t h e left =
      (h.first < length t)
      × Weaving t h e t h h.first (at t h.first).next left (point_in (at t h.first))

  module _ (t : List Record) (h : Head) (e left : ℕ) where
    first_step : (ls fs : List Node) → line_of t h ≡ ls → free_of t h ≡ fs
        → Walk t t h 0 h.first [] ls fs → AllHeld (UpTo h.newest) ls → spent between ls ≤ length fs
        → 0 < h.count → h.newest ≤ e → left ≡ h.count - 1 → Started t h e left
    first_step [] fs il if m w room z le q = absurd (omega (arith, m.count_is))
    first_step (c ∷ cs) fs il if m w room z le q =
        let pt : point_in (at t h.first) ≡ c.held.point = ap (λ g. g.point) m.place.back.3 in
        let low = all_map (UpTo h.newest) (UpTo e) (λ g x. omega arith) (c ∷ cs) w in (
          m.place.back.2,
          rw pt (
            c ∷ [],
            cs,
            fs,
            record {
              walk = walk_skip t t h 0 h.first [] cs fs c m;
              left_is = omega (arith, m.count_is);
              room = room;
              line = ap (λ v. woven between e (c ∷ cs) v) (sym if)
                  ∙ ap (λ v. woven between e v (free_of t h)) (sym il);
              rest = ap (drop (spent between (c ∷ cs))) (sym if)
                  ∙ ap (λ v. drop (spent between v) (free_of t h)) (sym il);
              top_a = (low.0, tt);
              top_b = low.1;
            },
          ),
        )

    pub weave_start : Whole t h → 0 < h.count → Enough between t h → h.newest ≤ e → left ≡ h.count - 1
        → Started t h e left
    weave_start w z r le q =
        let all = start_total t h w in
        let n = length_nodes t h.count h.first in
        first_step (line_of t h) (free_of t h) refl refl (walk_start t h w) (start_held t h w)
        (omega (arith, w.fits)) z le q

  -- the points ps of the pair p and q are still to come
  abbrev pub Pair : List Record → Head → ℕ → ℕ → Point → Point → ℕ → List Record → Head → ℕ → List Point
      → Type 0
  Pair t0 h0 e left p q here t h before ps =
      (a : List Node) × (d : Node) × (b : List Node) × (f : List Node) × (d.held.point ≡ q)
      × ((t1 : List Record) × (h1 : Head) × (before1 : ℕ) × Weave t0 h0 e t1 h1 before1 here left p a (d ∷ b) f)
      × Splicing t0 a f (between p d.held.point) e here (d ∷ b) t h before ps

  module _ (t0 : List Record) (h0 : Head) (e left : ℕ) (p : Point) (here : ℕ) (t : List Record) (h : Head)
      (before : ℕ) where
    open_pair : (a b f : List Node) → Weave t0 h0 e t h before here left p a b f → 0 < left
        → (here < length t)
        × Pair t0 h0 e left p (point_in (at t here)) here t h before (between p (point_in (at t here)))
    open_pair a [] f u z = absurd (omega (arith, u.left_is))
    open_pair a (d ∷ b) f u z =
        let pt : point_in (at t here) ≡ d.held.point = ap (λ g. g.point) u.walk.place.back.3 in (
          u.walk.place.back.2,
          rw pt (
            a,
            d,
            b,
            f,
            refl,
            (t, h, before, u),
            (a, f, weave_splice t0 h0 e left p d a b f t h before here u),
          ),
        )

    pub pair_open : Weaving t0 h0 e t h before here left p → 0 < left
        → (here < length t)
        × Pair t0 h0 e left p (point_in (at t here)) here t h before (between p (point_in (at t here)))
    pair_open u z = open_pair u.0 u.1 u.2 u.3 z

    module _ (q : Point) (qs : List Point) (u : Pair t0 h0 e left p q here t h before qs) where
      spliced : (ps : List Point) → qs ≡ ps
          → Splice t0 u.0 u.3 (between p u.1.held.point) e here (u.1 ∷ u.2) t h before ps
          u.6.0 u.6.1
      spliced ps z =
          subst (λ v. Splice t0 u.0 u.3 (between p u.1.held.point) e here (u.1 ∷ u.2) t h before v
          u.6.0 u.6.1) z u.6.2

      pub pair_shut : qs ≡ []
          → (here < length t) × Weaving t0 h0 e t h here (at t here).next (left - 1) q
      pair_shut z =
          let s = spliced [] z in
          let w = weave_more t0 h0 e left p u.1 u.0 u.2 u.3 u.5.0 u.5.1 u.5.2 here
          u.5.3 t h before u.6.0 u.6.1 s in (
            s.walk.place.back.2,
            subst (Weaving t0 h0 e t h here (at t here).next (left - 1)) u.4
                (u.6.0 ++ u.1 ∷ [], u.2, u.6.1, w),
          )

      module _ (m : Point) (ps : List Point) (z : qs ≡ m ∷ ps) where
        pub pair_more : e ≤ last_edit
            → Pair t0 h0 e left p q here (inserted_table t h before here m e) (inserted_head t h before)
            h.free ps
        pair_more l = (
          u.0,
          u.1,
          u.2,
          u.3,
          u.4,
          u.5,
          splice_step t0 u.0 u.3 (between p u.1.held.point) e here (u.1 ∷ u.2) t h before m ps
              u.6.0 u.6.1 (spliced (m ∷ ps) z) l,
        )

        pub pair_room : (h.free < length t) × (h.count + 1 < length t0) × (before < length t)
        pair_room =
            let s = spliced (m ∷ ps) z in
            let r = splice_room t0 u.0 u.3 (between p u.1.held.point) e here (u.1 ∷ u.2) t h
            before m ps u.6.0 u.6.1 s in (
              r.0,
              omega (arith, r.1, s.walk.kept.size),
              before_inside t h.first h.free before here u.6.0 (u.1 ∷ u.2) u.6.1 s.walk.place
                  (omega (arith, r.0)),
            )

    pub pair_at : (q q' : Point) (ps ps' : List Point) (t' : List Record) (h' : Head) (before' : ℕ)
        → Pair t0 h0 e left p q here t h before ps
        → q' ≡ q → ps' ≡ ps → t' ≡ t → h' ≡ h → before' ≡ before
        → Pair t0 h0 e left p q' here t' h' before' ps'
    pair_at q q' ps ps' t' h' before' u e1 e2 e3 e4 e5 = rw (e1, e2, e3, e4, e5) u

    pub weave_at : (t' : List Record) (h' : Head) (before' here' left' : ℕ) (p' : Point)
        → Weaving t0 h0 e t h before here left p
        → t' ≡ t → h' ≡ h → before' ≡ before → here' ≡ here → left' ≡ left → p' ≡ p
        → Weaving t0 h0 e t' h' before' here' left' p'
    weave_at t' h' before' here' left' p' u e1 e2 e3 e4 e5 e6 = rw (e1, e2, e3, e4, e5, e6) u

  module _ (t0 : List Record) (h0 : Head) (t : List Record) (h : Head) (before here : ℕ) (p : Point) where
    last_step : (a b f : List Node) → Weave t0 h0 (h0.newest + 1) t h before here 0 p a b f
        → h0.newest < last_edit → Woven between t0 h0 t (newest_head h (h0.newest + 1))
    last_step a (d ∷ b) f u l = absurd (omega (arith, u.left_is))
    last_step a [] f u l =
        let laid = walk_end t0 t h before here a f u.walk (h0.newest + 1) (omega arith) u.top_a in
        record {
          whole = laid.whole;
          frame = u.walk.kept;
          line = laid.line_is ∙ (sym (append-nil a) ∙ u.line);
          free = laid.free_is ∙ u.rest;
          newest = refl;
        }

    pub weave_end : (left : ℕ) → Weaving t0 h0 (h0.newest + 1) t h before here left p → left ≡ 0
        → h0.newest < last_edit
        → (t' : List Record) (first free count : ℕ) → t' ≡ t → first ≡ h.first → free ≡ h.free → count ≡ h.count
        → Woven between t0 h0 t'
        (record { first = first; free = free; count = count; newest = h0.newest + 1 })
    weave_end left u z l t' first free count e1 e2 e3 e4 =
        let w : Weaving t0 h0 (h0.newest + 1) t h before here 0 p =
        subst (λ v. Weaving t0 h0 (h0.newest + 1) t h before here v p) z u in
        rw (e1, e2, e3, e4) (last_step w.0 w.1 w.2 w.3 l)
