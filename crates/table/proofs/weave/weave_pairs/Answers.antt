use Rattle.std.proofs.Common.{◌+◌, ◌-◌, ◌<◌, List, ◌∷◌, drop, sym, refl, ap, ◌∙◌, arith, rules}
use lib.Ieee.{Float}
use Rattle.points.specs.declared.point.Point.{Point}
use Rattle.table.specs.Chains.{at, point_in}
use Rattle.table.specs.Links.{inserted_table}
use Rattle.table.specs.Weave.{parts_in}
use Rattle.table.proofs.Parts.{parts_more, parts_done}
use Rattle.table.proofs.Weaving.{weave_start, pair_open, pair_shut, pair_more, pair_room}
use Rattle.table.proofs.Weaving.{pair_at, weave_at, weave_end}
use Rattle.table.proofs.weave.weave_pairs.Given as given
use Rattle.table.proofs.weave.weave_pairs.Goals as goal

-- the points of a pair, of a space
abbrev parts : (g : given.Over) → g.row.S.Denot → Float → Point → Point → List Point
parts g s most = parts_in (g.S.Space.far s) most (g.S.Space.ratio s)

pub loop-init : goal.loop-init
loop-init g c =
    let parts = parts g c.args.cut.now.space.now c.args.cut.now.maximum in
    let t = c.args.table.now in
    let s = c.start-cursor.ensures in
    let e = c.step.ensures in
    let first = ap (λ v. at v c.start-cursor.result.here) s.table ∙ ap (at t) s.here in
    let started = (weave_start parts t c.args.head.now (c.args.head.now.newest + 1) _ c.requires.checked.whole
    c.requires.some c.requires.room (omega arith) (omega arith)).1 in
    record {
      same = (refl, refl);
      weaving = weave_at parts _ _ _ _ _ _ _ _ _ _ _ _ _ _ _ started (e.table ∙ s.table) (e.head ∙ s.head)
          (e.before ∙ s.here) (e.here ∙ ap (λ r. r.next) first) refl
          (c.from-start.ensures ∙ ap point_in (c.record.ensures ∙ first));
    }

pub record-requires-in-loop : goal.record-requires-in-loop
record-requires-in-loop g c =
    (pair_open (parts g c.args.cut.now.space.now c.args.cut.now.maximum) _ _ _ _ _ _ _ _ _ c.loop.invariant.weaving
    (omega arith)).0

pub loop-k-init : goal.loop-k-init
loop-k-init g c =
    let parts = parts g c.args.cut.now.space.now c.args.cut.now.maximum in
    let end = c.from-end.ensures ∙ ap point_in c.record-in-loop.ensures in
    record {
      same = (refl, refl);
      here = refl;
      pair = λ t0 h0 p n pair u.
          pair_at parts _ _ _ _ _ _ _ _ _ _ _ _ _ _ _ _
          (pair_open parts _ _ _ _ _ _ _ _ _ u (omega arith)).1 end (ap (parts p) end) refl refl refl;
    }

pub insert-requires : goal.insert-requires
insert-requires g c =
    let parts = parts g c.args.cut.now.space.now c.args.cut.now.maximum in
    let is = c.count_pieces-pieces.ensures in
    let pq = c.prepare-pair.ensures in
    let fits : c.count_pieces-pieces.result < 4294967296 = search rules in
    let more = parts_more (g.S.Space.far c.args.cut.now.space.now) c.args.cut.now.maximum
    (g.S.Space.ratio c.args.cut.now.space.now) (g.S.Space.paired c.args.cut.now.space.now)
    (g.S.Space.between c.args.cut.now.space.now) (g.met.S.Space.pairs c.args.cut.now.space.now) c.loop.start
    c.from-end.result c.loop-k.k (omega arith) c.count_pieces-pieces.result is
    c.prepare-pair.result pq fits (omega arith) in
    let inside = pair_room parts _ _ _ _ _ _ _ _ _ _ _
    (c.loop-k.invariant.pair _ _ c.loop.start is pq c.loop.invariant.weaving) _ _ more in
    record {
      before = inside.2;
      free = inside.0;
      room = omega (arith, inside.1, c.requires.checked.sized.most);
    }

pub loop-k-preserved : goal.loop-k-preserved
loop-k-preserved g c =
    let parts = parts g c.args.cut.now.space.now c.args.cut.now.maximum in
    let fits : c.count_pieces-pieces.result < 4294967296 = search rules in
    let at = c.loop-k.cursor in
    let i = c.loop-k.invariant in
    let e = c.insert.ensures in
    record {
      same = (e.same.0 ∙ i.same.0, e.same.1 ∙ i.same.1);
      here = e.here ∙ i.here;
      pair = λ t0 h0 p n pair u.
          let more = parts_more (g.S.Space.far c.args.cut.now.space.now) c.args.cut.now.maximum
          (g.S.Space.ratio c.args.cut.now.space.now) (g.S.Space.paired c.args.cut.now.space.now)
          (g.S.Space.between c.args.cut.now.space.now) (g.met.S.Space.pairs c.args.cut.now.space.now) p
          c.from-end.result c.loop-k.k (omega arith) c.count_pieces-pieces.result n
          c.prepare-pair.result pair fits (omega arith)
          ∙ ap (λ v. v ∷ drop (c.loop-k.k + 1 - 1) (parts p c.from-end.result))
          (sym c.part.ensures) in
          pair_at parts _ _ _ _ _ _ _ _ _ _ _ _ _ _ _ _
          (pair_more parts _ _ _ _ _ _ _ _ _ _ _ (i.pair t0 h0 p n pair u) c.part.result
          (drop (c.loop-k.k + 1 - 1) (parts p c.from-end.result)) more (omega (arith, c.requires.left)))
          refl refl
          (e.table
          ∙ ap (λ k. inserted_table at.table.now at.head.now at.before k c.part.result
          (c.args.head.now.newest + 1)) i.here)
          e.head e.before;
    }

pub step-requires-in-loop : goal.step-requires-in-loop
step-requires-in-loop g c =
    let parts = parts g c.args.cut.now.space.now c.args.cut.now.maximum in
    let is = c.count_pieces-pieces.ensures in
    let done = parts_done (g.S.Space.far c.args.cut.now.space.now) c.args.cut.now.maximum
    (g.S.Space.ratio c.args.cut.now.space.now) (g.S.Space.paired c.args.cut.now.space.now)
    (g.S.Space.between c.args.cut.now.space.now) (g.met.S.Space.pairs c.args.cut.now.space.now) c.loop.start
    c.from-end.result c.loop-k.k (omega arith) c.count_pieces-pieces.result is (omega arith) in
    rw c.loop-k.invariant.here (pair_shut parts _ _ _ _ _ _ _ _ _ _ _
    (c.loop-k.invariant.pair _ _ c.loop.start is c.prepare-pair.ensures c.loop.invariant.weaving) done).0

pub loop-preserved : goal.loop-preserved
loop-preserved g c =
    let parts = parts g c.args.cut.now.space.now c.args.cut.now.maximum in
    let is = c.count_pieces-pieces.ensures in
    let done = parts_done (g.S.Space.far c.args.cut.now.space.now) c.args.cut.now.maximum
    (g.S.Space.ratio c.args.cut.now.space.now) (g.S.Space.paired c.args.cut.now.space.now)
    (g.S.Space.between c.args.cut.now.space.now) (g.met.S.Space.pairs c.args.cut.now.space.now) c.loop.start
    c.from-end.result c.loop-k.k (omega arith) c.count_pieces-pieces.result is (omega arith) in
    let i = c.loop-k.invariant in
    let e = c.step-in-loop.ensures in
    let shut = (pair_shut parts _ _ _ _ _ _ _ _ _ _ _
    (i.pair _ _ c.loop.start is c.prepare-pair.ensures c.loop.invariant.weaving) done).1 in
    record {
      same = (e.same.0 ∙ (i.same.0 ∙ c.loop.invariant.same.0), e.same.1 ∙ (i.same.1 ∙ c.loop.invariant.same.1));
      weaving = weave_at parts _ _ _ _ _ _ _ _ _ _ _ _ _ _ _ shut e.table e.head (e.before ∙ i.here)
          (e.here ∙ ap (λ k. (at c.loop-k.cursor.table.now k).next) i.here) (omega arith) refl;
    }

pub returns : goal.returns
returns g c =
    let at = c.loop.cursor in
    weave_end (parts g c.args.cut.now.space.now c.args.cut.now.maximum) c.args.table.now c.args.head.now
    at.table.now at.head.now at.before at.here c.loop.start _ c.loop.invariant.weaving (omega arith)
    c.requires.left _ _ _ _ (search rules) (search rules) (search rules) (search rules)
