use Rattle.std.proofs.Common.{arith}
use Rattle.points.proofs.Walking.{length_neighbours}
use Rattle.measures.proofs.pairs.Densify.ask.Goals as goal

pub loop-k-init-derived : goal.loop-k-init-derived
loop-k-init-derived g c = grind (arith, length_neighbours)
