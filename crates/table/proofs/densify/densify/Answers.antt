use Rattle.table.proofs.Refining.{asked_ok, densify_ok}
use Rattle.table.proofs.densify.densify.Goals as goal

pub weave-requires : goal.weave-requires
weave-requires g c =
    let same = c.in_ok-new.ensures.same in
    let asked = asked_ok (g.S.Space.far c.args.space.now) (g.S.Space.ratio c.args.space.now) c.args.maximum
    c.args.table.now _ c.args.head.now _ _ same.0 same.1 c.ask.ensures c.in_ok-ask.was in
    record { checked = c.in_ok-new.ensures.checked; left = asked.2.left; room = asked.2.room }

pub returns : goal.returns
returns g c =
    let same = c.in_ok-new.ensures.same in
    densify_ok (g.S.Space.far c.args.space.now) (g.S.Space.ratio c.args.space.now) c.args.maximum
    c.args.table.now c.args.head.now c.in_ok-new.ensures.checked
    (asked_ok (g.S.Space.far c.args.space.now) (g.S.Space.ratio c.args.space.now) c.args.maximum
    c.args.table.now _ c.args.head.now _ _ same.0 same.1 c.ask.ensures c.in_ok-ask.was)
    c.weave.new.table c.weave.new.head c.weave.ensures
