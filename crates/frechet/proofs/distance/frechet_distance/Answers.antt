use Rattle.std.proofs.Common.{◌&&◌, sym, ◌∙◌}
use Rattle.points.specs.declared.point.Point.{Point}
use Rattle.frechet.proofs.Couplings.{least_over_couplings, nearness as nearness-passes-on}
use Rattle.frechet.proofs.Fresh.{fresh}
use Rattle.frechet.proofs.distance.frechet_distance.Goals as goal

pub returns : goal.returns
returns g c =
    let space = c.args.space.now in
    let far = g.S.Space.far space in
    let ok = λ (p q : Point). g.S.Space.admits space p && g.S.Space.admits space q in
    let law = λ (p q : Point). g.met.S.Space.distances space p q in
    record {
      first = c.compare.ensures.first;
      second = c.compare.ensures.second;
      cells = c.compare.ensures.cells;
      result = c.compare.ensures.result;
      fresh = λ held e. fresh far (g.A.CoordsIter.coords c.args.ls_1.now)
          (g.B.CoordsIter.coords c.args.ls_2.now) c.args.cells.now held e
          ∙ sym c.compare.ensures.result;
      couplings = least_over_couplings far ok law _ _ _ c.compare.result c.compare.ensures.result;
      nearness = nearness-passes-on far ok law;
    }
