use Rattle.std.proofs.Common.{◌+◌, get_or, drop, length, sym, refl, ap, ◌∙◌, arith, rules, leb-true}
use Rattle.points.proofs.Placing.{ensured_holds}
use lib.Ieee.{nan}
use Rattle.std.proofs.lemmas.List.{drop_more, drop_all}
use Rattle.points.specs.declared.point.Point.{Point}
use Rattle.table.specs.Links.{inserted_table}
use Rattle.table.proofs.Appending as appending
use Rattle.table.proofs.append.append.Goals as goal

abbrev none : Point
none = record { x = nan; y = nan }

pub loop-point-init : goal.loop-point-init
loop-point-init c =
    let t0 = c.args.table.now in
    let h0 = c.args.head.now in
    let ps = c.args.points.now in
    let e = c.end-cursor.ensures in
    let checked = c.in_ok-line.ensures.checked in
    let same = c.in_ok-line.ensures.same in
    let room = leb-true _ _ (ensured_holds _ _ _ (sym c.ensure.ensures ∙ c.in_ok-ensure.was)) in
    record {
      same = (refl, refl);
      here = e.here;
      appending = appending.append_at t0 h0 ps _ _ _ _
          (appending.append_start t0 h0 ps _ checked.whole (omega (arith, room, c.free_count.ensures, ap length same.0, ap (λ h. h.count) same.1)) (e.before checked)) _ _ _ _ e.table e.head refl refl;
    }

pub insert-requires : goal.insert-requires
insert-requires c =
    let ps = c.args.points.now in
    let i = c.loop-point.point-index in
    let sized = c.in_ok-line.ensures.checked.sized in
    let inside =
    appending.append_inside c.args.table.now c.args.head.now ps _ _ _ _ c.loop-point.invariant.appending
    (get_or ps i none) (drop (i + 1) ps) (drop_more ps i none (omega arith)) in
    record { before = inside.0; free = inside.1; room = omega (arith, inside.2, sized.most) }

pub loop-point-preserved : goal.loop-point-preserved
loop-point-preserved c =
    let t0 = c.args.table.now in
    let h0 = c.args.head.now in
    let ps = c.args.points.now in
    let i = c.loop-point.point-index in
    let p = get_or ps i none in
    let at = c.loop-point.cursor in
    let u = c.loop-point.invariant in
    let e = c.insert.ensures in
    let edit = c.in_ok-edit.ensures.number in
    let more =
    appending.append_more t0 h0 ps _ _ _ _ u.appending p (drop (i + 1) ps) (drop_more ps i none (omega arith))
    edit.left in
    let written =
    ap (λ k. inserted_table at.table.now at.head.now at.before k p c.in_ok-edit.edit) u.here
    ∙ ap (inserted_table at.table.now at.head.now at.before 0 p) edit.next in
    record {
      same = (e.same.0 ∙ u.same.0, e.same.1 ∙ u.same.1);
      here = e.here ∙ u.here;
      appending = appending.append_at t0 h0 ps _ _ _ _ more _ _ _ _ (e.table ∙ written) e.head e.before refl;
    }

pub returns : goal.returns
returns c =
    let t0 = c.args.table.now in
    let h0 = c.args.head.now in
    let ps = c.args.points.now in
    let edit = c.in_ok-edit.ensures.number in
    let same = c.in_ok-line.ensures.same in
    let room = leb-true _ _ (ensured_holds _ _ _ (sym c.ensure.ensures ∙ c.in_ok-ensure.was)) in
    appending.append_ok t0 h0 ps _ _ _ _ c.loop-point.invariant.appending
    (drop_all c.loop-point.point-index ps (omega arith)) c.in_ok-line.ensures.checked c.in_ok-check_finite.ensures
    edit.left (omega (arith, room, c.free_count.ensures, ap length same.0, ap (λ h. h.count) same.1)) _ _ _ _ _ (search rules) (search rules) (search rules)
    (search rules) edit.next
