use Rattle.std.proofs.Common.{◌≡◌, cond, ltb, not, Some, None, length, rules, tests}
use Rattle.std.specs.List.{position_or_len}
use Rattle.std.proofs.lemmas.Iterator.{YieldsList-from_slice}
use Rattle.std.proofs.lemmas.Iterator.Search.{position_from_yields_List}
use Rattle.points.specs.declared.point.Point.{Point}
use Rattle.points.specs.Finite.{finite_point}
use Rattle.table.proofs.Finite.{unfit_at}
use Rattle.table.proofs.append.check_finite.Goals as goal

pub returns : goal.returns
returns c =
    let ps = c.args.points.now in
    let n = position_or_len (λ (p : Point). not (finite_point p)) ps in
    let found : c.position.result ≡ cond (ltb n (length ps)) (Some n) None =
    position_from_yields_List (λ p. not (finite_point p)) _ _ _ c.position.ensures.ran
    (YieldsList-from_slice ps cc) (λ x b q k. search (rules, tests)) in
    let is = unfit_at 0 ps in
    search (rules, tests)
