-- What was measured and asked for is what is written.
use Rattle.std.proofs.Common.{◌≡◌, ℕ, zero, suc, ◌+◌, ◌-◌, ◌<◌, ◌≤◌, Bool, true, false, cond, ltb, leb, List, [], ◌∷◌, ◌++◌, length, drop, Ok, Err, Result, sym, refl, ap, ◌∙◌, arith, length-drop, ltb-true, le-leb, leb-true}
use mathlib.Core.List.{map-append}
use Rattle.std.specs.Result.{result_unwrap_or}
use lib.Ieee.{Float}
use Rattle.points.specs.Faults.{raised, after, at_place, in_layer}
use Rattle.points.specs.declared.fault.Cause.TheVariants.{NoEditNumber, NoRoom}
use Rattle.points.specs.declared.fault.Fault.{Fault}
use Rattle.points.specs.declared.fault.Layer.TheVariants.{Table}
use Rattle.points.specs.declared.point.Point.{Point}
use Rattle.points.proofs.Placing.{placed_ok}
use Rattle.measures.specs.Pieces.{ratio_of, checked_maximum, pieces_between, taken_from, taken, room_for}
use Rattle.measures.specs.Pieces.{cut_from, points_between, refined_from, refined, densified, densified_by, told}
use Rattle.measures.proofs.Cutting.{told_ok}
use Rattle.table.specs.declared.Record.{Record}
use Rattle.table.specs.declared.Head.{Head}
use Rattle.table.specs.Append.{new_nodes}
use Rattle.table.specs.Chains.{Node}
use Rattle.table.specs.Densify.{edit_after, outcome, inserted, DensifyOk}
use Rattle.table.specs.Lines.{points_of, held_by, kept_line, set_aside}
use Rattle.points.specs.Limits.{last_edit}
use Rattle.table.specs.Weave.{origin, parts_from, pieces_in, parts_in}
use Rattle.table.specs.Weave.{woven_after, woven, spent_after, spent, Enough, Woven}
use Rattle.table.specs.Whole.{Checked, Whole, line_of, free_of, free_count}
use Rattle.table.proofs.Asides.{woven_aside}
use Rattle.table.proofs.Ends.{start_total}
use Rattle.table.proofs.Lines.{points_new, held_new}
use Rattle.table.proofs.Parts.{length_parts}
use Rattle.table.proofs.Segments.{length_nodes}

after_ok : {X Y : Type 0} (r : Result X Fault) (k : X → Result Y Fault) (y : Y) → after r k ≡ Ok y
    → (x : X) × (r ≡ Ok x) × (k x ≡ Ok y)
after_ok (Ok x) k y e = (x, refl, e)
after_ok (Err f) k y e = let z : ◌≡◌ {A = ℕ} 0 1 = cc in absurd (omega arith)

room_ok : (n room : ℕ) → room_for n room Table ≡ Ok tt → n ≤ room
room_ok n room e = leb-true n room (go (leb n room) e)
  where
    go : (b : Bool) → ◌≡◌ {A = Result (Unit {0}) Fault} (cond b (Ok tt) (Err (raised NoRoom Table))) (Ok tt)
        → b ≡ true
    go true q = refl
    go false q = let z : ◌≡◌ {A = ℕ} 0 1 = cc in absurd (omega arith)

edit_ok : (newest e : ℕ) → edit_after newest ≡ Ok e → newest < last_edit
edit_ok newest e q = ltb-true newest last_edit (go (ltb newest last_edit) q)
  where
    go : (b : Bool)
        → ◌≡◌ {A = Result ℕ Fault} (cond b (Ok (newest + 1)) (Err (raised NoEditNumber Table))) (Ok e)
        → b ≡ true
    go true q = refl
    go false q = let z : ◌≡◌ {A = ℕ} 0 1 = cc in absurd (omega arith)

-- a kept line is never too long
pub fitting : (far : Point → Point → Result Float Fault) (ratio : Point → Point → Float → Result Point Fault)
    (most : Float) (room : ℕ) (ps : List Point) → length ps ≤ 65535
    → densified_by far ratio Table most room ps ≡ densified far ratio Table most room ps
fitting far ratio most room ps h =
    ap (λ b. after (in_layer (cond b (Ok (length ps)) (Err NoRoom)) Table)
    (λ _. densified far ratio Table most room ps)) (le-leb (length ps) 65535 h)

cut_parts : (at : Float → Result Point Fault) (n c i : ℕ) (xs : List Point) → cut_from at n c i ≡ Ok xs
    → parts_from at n c i ≡ xs
cut_parts at n zero i xs e = let s : [] ≡ xs = cc in s
cut_parts at n (suc c) i xs e =
    let u = after_ok (at (ratio_of i n)) (λ x. after (cut_from at n c (i + 1)) (λ ys. Ok (x ∷ ys))) xs e in
    let v = after_ok (cut_from at n c (i + 1)) (λ ys. Ok (u.0 ∷ ys)) xs u.2 in
    let w : u.0 ∷ v.0 ≡ xs = let q = v.2 in cc in
    ap (λ r. result_unwrap_or r origin ∷ parts_from at n c (i + 1)) u.1
    ∙ (ap (λ ys. u.0 ∷ ys) (cut_parts at n c (i + 1) v.0 v.1) ∙ w)

module _ (far : Point → Point → Result Float Fault) (ratio : Point → Point → Float → Result Point Fault)
    (most : Float) where
  pair_parts : (p q : Point) (xs : List Point) → points_between far ratio Table most p q ≡ Ok xs
      → parts_in far most ratio p q ≡ xs
  pair_parts p q xs e =
      let u = after_ok (pieces_between far Table most p q) (λ n. cut_from (ratio p q) n (n - 1) 1) xs e in
      ap (λ r. parts_from (ratio p q) (result_unwrap_or r 0) (result_unwrap_or r 0 - 1) 1) u.1
      ∙ cut_parts (ratio p q) u.0 (u.0 - 1) 1 xs u.2

  -- the points of the first pair, and the line behind it
  pub record Opened (k : ℕ) (p q : Point) (qs ls : List Point) : Type 0 where
    pub xs : List Point
    pub rest : List Point
    pub parts : parts_in far most ratio p q ≡ xs
    pub points : inserted far ratio most p q ≡ xs
    pub behind : refined_from far ratio Table most (k + 1) q qs ≡ Ok rest
    pub whole : xs ++ q ∷ rest ≡ ls

  opened : (k : ℕ) (p q : Point) (qs ls : List Point)
      → refined_from far ratio Table most k p (q ∷ qs) ≡ Ok ls → Opened k p q qs ls
  opened k p q qs ls e =
      let tail = refined_from far ratio Table most (k + 1) q qs in
      let u = after_ok (at_place (points_between far ratio Table most p q) k)
      (λ xs. after tail (λ rest. Ok (xs ++ q ∷ rest))) ls e in
      let v = after_ok tail (λ rest. Ok (u.0 ++ q ∷ rest)) ls u.2 in
      let here = placed_ok (points_between far ratio Table most p q) k u.0 u.1 in
      let end : u.0 ++ q ∷ v.0 ≡ ls = let z = v.2 in cc in
      record {
        xs = u.0;
        rest = v.0;
        parts = pair_parts p q u.0 here;
        points = ap (λ r. result_unwrap_or r []) here;
        behind = v.1;
        whole = end;
      }

  -- the points that are written are those that were asked for
  same_after : (e k : ℕ) (p : Point) (ns f : List Node) (ls : List Point)
      → refined_from far ratio Table most k p (points_of (held_by ns)) ≡ Ok ls
      → woven_after (parts_in far most ratio) e p ns f ≡ woven_after (inserted far ratio most) e p ns f
  same_after e k p [] f ls q = refl
  same_after e k p (n ∷ ns) f ls q =
      let u = opened k p n.held.point (points_of (held_by ns)) ls q in
      let s : parts_in far most ratio p n.held.point ≡ inserted far ratio most p n.held.point =
      u.parts ∙ sym u.points in
      ap (λ xs. new_nodes e f xs
      ++ n ∷ woven_after (parts_in far most ratio) e n.held.point ns (drop (length xs) f)) s
      ∙ ap (λ v. new_nodes e f (inserted far ratio most p n.held.point) ++ n ∷ v)
      (same_after e (k + 1) n.held.point ns
      (drop (length (inserted far ratio most p n.held.point)) f) u.rest u.behind)

  spent_after_lem : (k : ℕ) (p : Point) (ns : List Node) (ls : List Point)
      → refined_from far ratio Table most k p (points_of (held_by ns)) ≡ Ok ls
      → spent_after (parts_in far most ratio) p ns ≡ spent_after (inserted far ratio most) p ns
  spent_after_lem k p [] ls q = refl
  spent_after_lem k p (n ∷ ns) ls q =
      let u = opened k p n.held.point (points_of (held_by ns)) ls q in
      let s = ap length (u.parts ∙ sym u.points) in
      let more = spent_after_lem (k + 1) n.held.point ns u.rest u.behind in
      omega arith

  -- and they make the refined line
  points_after : (e k : ℕ) (p : Point) (ns f : List Node) (ls : List Point)
      → refined_from far ratio Table most k p (points_of (held_by ns)) ≡ Ok ls
      → spent_after (inserted far ratio most) p ns ≤ length f
      → points_of (held_by (woven_after (inserted far ratio most) e p ns f)) ≡ ls
  points_after e k p [] f ls q h = let s : [] ≡ ls = cc in s
  points_after e k p (n ∷ ns) f ls q h =
      let u = opened k p n.held.point (points_of (held_by ns)) ls q in
      let new = inserted far ratio most p n.held.point in
      let tail = woven_after (inserted far ratio most) e n.held.point ns (drop (length new) f) in
      let room : spent_after (inserted far ratio most) n.held.point ns ≤ length (drop (length new) f) =
      rw (length-drop (length new) f) (omega arith) in
      ap points_of (map-append (λ c. c.held) (new_nodes e f new) (n ∷ tail))
      ∙ (map-append (λ g. g.point) (held_by (new_nodes e f new)) (held_by (n ∷ tail))
      ∙ (ap (λ v. points_of v ++ n.held.point ∷ points_of (held_by tail)) (held_new e f new (omega arith))
      ∙ (ap (λ v. v ++ n.held.point ∷ points_of (held_by tail)) (points_new e new ∙ u.points)
      ∙ (ap (λ v. u.xs ++ n.held.point ∷ v)
      (points_after e (k + 1) n.held.point ns (drop (length new) f) u.rest u.behind room)
      ∙ u.whole))))

  -- as many records are taken as were measured
  taken_after : (k count n : ℕ) (p : Point) (ns : List Node)
      → taken_from far Table most k count p (points_of (held_by ns)) ≡ Ok n
      → n ≡ count + spent_after (parts_in far most ratio) p ns
  taken_after k count n p [] q = let s : count ≡ n = cc in omega arith
  taken_after k count n p (c ∷ ns) q =
      let end = c.held.point in
      let u = after_ok (at_place (pieces_between far Table most p end) k)
      (λ m. taken_from far Table most (k + 1) (count + (m - 1)) end (points_of (held_by ns))) n q in
      let is = ap (λ r. result_unwrap_or r 0) (placed_ok (pieces_between far Table most p end) k u.0 u.1) in
      let long = length_parts (ratio p end) (pieces_in far most p end) (pieces_in far most p end - 1) 1 in
      let more = taken_after (k + 1) (count + (u.0 - 1)) n end ns u.2 in
      omega arith

  -- over a whole line
  taken_line : (n : ℕ) (ns : List Node) → taken far Table most (points_of (held_by ns)) ≡ Ok n
      → n ≡ spent (parts_in far most ratio) ns
  taken_line n [] q = let s : 0 ≡ n = cc in omega arith
  taken_line n (c ∷ cs) q = let s = taken_after 1 0 n c.held.point cs q in omega arith

  behind_first : (c : Node) (cs : List Node) (ls : List Point)
      → refined far ratio Table most (points_of (held_by (c ∷ cs))) ≡ Ok ls
      → (rest : List Point)
      × (refined_from far ratio Table most 1 c.held.point (points_of (held_by cs)) ≡ Ok rest)
      × (c.held.point ∷ rest ≡ ls)
  behind_first c cs ls q =
      let u = after_ok (refined_from far ratio Table most 1 c.held.point (points_of (held_by cs)))
      (λ rest. Ok (c.held.point ∷ rest)) ls q in
      let end : c.held.point ∷ u.0 ≡ ls = let z = u.2 in cc in
      (u.0, u.1, end)

  same_line : (e : ℕ) (ns f : List Node) (ls : List Point)
      → refined far ratio Table most (points_of (held_by ns)) ≡ Ok ls
      → woven (parts_in far most ratio) e ns f ≡ woven (inserted far ratio most) e ns f
  same_line e [] f ls q = refl
  same_line e (c ∷ cs) f ls q =
      let u = behind_first c cs ls q in
      ap (λ v. c ∷ v) (same_after e 1 c.held.point cs f u.0 u.1)

  spent_line : (ns : List Node) (ls : List Point) → refined far ratio Table most (points_of (held_by ns)) ≡ Ok ls
      → spent (parts_in far most ratio) ns ≡ spent (inserted far ratio most) ns
  spent_line [] ls q = refl
  spent_line (c ∷ cs) ls q =
      let u = behind_first c cs ls q in spent_after_lem 1 c.held.point cs u.0 u.1

  points_line : (e : ℕ) (ns f : List Node) (ls : List Point)
      → refined far ratio Table most (points_of (held_by ns)) ≡ Ok ls
      → spent (inserted far ratio most) ns ≤ length f
      → points_of (held_by (woven (inserted far ratio most) e ns f)) ≡ ls
  points_line e [] f ls q h = let s : [] ≡ ls = cc in s
  points_line e (c ∷ cs) f ls q h =
      let u = behind_first c cs ls q in
      ap (λ v. c.held.point ∷ v) (points_after e 1 c.held.point cs f u.0 u.1 h) ∙ u.2

  -- a densify that is not refused has an edit number and room left
  pub record Accepted (t : List Record) (h : Head) (ls : List Point) : Type 0 where
    pub left : h.newest < last_edit
    pub room : Enough (parts_in far most ratio) t h
    pub asked : refined far ratio Table most (kept_line t h) ≡ Ok ls

  accepted : (t : List Record) (h : Head) (ls : List Point) → outcome far ratio most t h ≡ Ok ls
      → Accepted t h ls
  accepted t h ls q =
      let ps = kept_line t h in
      let u = after_ok (in_layer (checked_maximum most) Table)
      (λ _. after (edit_after h.newest) (λ _. densified far ratio Table most (free_count t h) ps)) ls q in
      let v = after_ok (edit_after h.newest) (λ _. densified far ratio Table most (free_count t h) ps) ls
      u.2 in
      let w = after_ok (taken far Table most ps)
      (λ n. after (room_for n (free_count t h) Table) (λ _. refined far ratio Table most ps)) ls v.2 in
      let x = after_ok (room_for w.0 (free_count t h) Table) (λ _. refined far ratio Table most ps) ls
      w.2 in
      let fit = room_ok w.0 (free_count t h) x.1 in
      let is = taken_line w.0 (line_of t h) w.1 in
      record { left = edit_ok h.newest v.0 v.1; room = omega arith; asked = x.2 }

  module _ (t : List Record) (h : Head) (ls : List Point) (a : Accepted t h ls) (t' : List Record) (h' : Head)
      (u : Woven (parts_in far most ratio) t h t' h') where
    as_asked : Woven (inserted far ratio most) t h t' h'
    as_asked = record {
      whole = u.whole;
      frame = u.frame;
      line = u.line ∙ same_line (h.newest + 1) (line_of t h) (free_of t h) ls a.asked;
      free = u.free ∙ ap (λ n. drop n (free_of t h)) (spent_line (line_of t h) ls a.asked);
      newest = u.newest;
    }

    line_is : Whole t h → kept_line t' h' ≡ ls
    line_is w =
        let all = start_total t h w in
        let n = length_nodes t h.count h.first in
        let same = spent_line (line_of t h) ls a.asked in
        let enough = a.room in
        let fits = w.fits in
        let room : spent (inserted far ratio most) (line_of t h) ≤ length (free_of t h) = omega arith in
        ap (λ v. points_of (held_by v)) as_asked.line
        ∙ points_line (h.newest + 1) (line_of t h) (free_of t h) ls a.asked room

  -- a densify that asked for all points, of what stands for the table and its head
  pub asked_ok : (t t1 : List Record) (h h1 : Head) (r : Result (Unit {0}) Fault) → t1 ≡ t → h1 ≡ h
      → r ≡ told (outcome far ratio most t1 h1) → r ≡ Ok tt
      → (ls : List Point) × (outcome far ratio most t h ≡ Ok ls) × Accepted t h ls
  asked_ok t t1 h h1 r e1 e2 e3 e4 =
      let asked : told (outcome far ratio most t h) ≡ Ok tt = rw (← e1, ← e2) (sym e3 ∙ e4) in
      let u = told_ok (outcome far ratio most t h) asked in
      (u.0, u.1, accepted t h u.0 u.1)

  -- and wrote them
  pub densify_ok : (t : List Record) (h : Head) → Checked t h
      → (ls : List Point) × (outcome far ratio most t h ≡ Ok ls) × Accepted t h ls
      → (t' : List Record) (h' : Head) → Woven (parts_in far most ratio) t h t' h'
      → DensifyOk far ratio most t h t' h'
  densify_ok t h w u t' h' v = record {
    checked = w;
    points = u.1 ∙ ap (λ ls. Ok ls) (sym (line_is t h u.0 u.2 t' h' v w.whole));
    done = as_asked t h u.0 u.2 t' h' v;
  }

  -- there is a free record for each point
  pub room_is : (t : List Record) (h : Head) (ls : List Point) → Accepted t h ls
      → Enough (inserted far ratio most) t h
  room_is t h ls a =
      let same = spent_line (line_of t h) ls a.asked in let enough = a.room in omega arith

-- an accepted densify sets the line aside
pub densify_aside : (far : Point → Point → Result Float Fault)
    (ratio : Point → Point → Float → Result Point Fault) (most : Float) (t : List Record) (h : Head)
    (t' : List Record) (h' : Head) → DensifyOk far ratio most t h t' h'
    → set_aside t' h' ≡ kept_line t h ∷ set_aside t h
densify_aside far ratio most t h t' h' u =
    let a = accepted far ratio most t h (kept_line t' h') u.points in
    woven_aside (inserted far ratio most) t h t' h' u.checked.whole
    (room_is far ratio most t h (kept_line t' h') a) u.done
