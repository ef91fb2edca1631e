use Rattle.std.proofs.Common.{sym, ◌∙◌, arith}
use Rattle.std.proofs.lemmas.Grind.{common_steps}
use Rattle.points.proofs.Placing.{placed_ok}
use Rattle.frechet.proofs.Filling.{copied_get, row_more, over_front}
use Rattle.frechet.proofs.row.fill.Goals as goal

pub loop-j-preserved : goal.loop-j-preserved
loop-j-preserved g c =
    let ok = placed_ok c.distance.result _ _ (sym c.at_place.ensures ∙ c.in_ok-distance.was) in
    grind (arith, common_steps, row_more, copied_get _ _ c.in-Some.j c.get.ensures.lookup.0 c.get.ensures.lookup.1)

pub returns-clause-cells : goal.returns-clause-cells
returns-clause-cells g c = grind (arith, common_steps, over_front)
