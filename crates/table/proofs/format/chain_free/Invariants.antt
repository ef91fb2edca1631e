use Rattle.std.proofs.Common.{◌≡◌, ℕ, ◌<◌}
use Rattle.table.specs.Chains.{at}
use Rattle.table.specs.Format.{follower}
use Rattle.table.specs.Links.{freed}
use Rattle.table.proofs.format.chain_free.Given as goal

abbrev pub invariant-loop-index : goal.invariant-loop-index
invariant-loop-index l = (k : ℕ) → k < l.index → at l.table k ≡ freed (follower l.n k)
