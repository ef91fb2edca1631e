use Rattle.std.proofs.Common.{◌&&◌}
use Rattle.points.specs.declared.point.Point.{Point}
use Rattle.book.proofs.Lawful.{coupling_law, nearness_law}
use Rattle.plan.proofs.run.run.Goals as goal

pub returns-clause-couplings : goal.returns-clause-couplings
returns-clause-couplings g c =
    coupling_law _ _ _ (λ s (p q : Point). g.S.Space.admits s p && g.S.Space.admits s q) g.met.S.Space.distances _ _ _

pub returns-clause-nearness : goal.returns-clause-nearness
returns-clause-nearness g c =
    nearness_law _ _ _ (λ s (p q : Point). g.S.Space.admits s p && g.S.Space.admits s q) g.met.S.Space.distances
