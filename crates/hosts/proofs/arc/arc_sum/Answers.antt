-- The table is the list of the quotients: antt computes both.
use Rattle.std.proofs.Common.{refl}
use lib.Ieee.{of_bits, of_int, div}
use Rattle.hosts.proofs.arc.arc_sum.Goals as goal

pub returns : goal.returns
unfolding of_bits of_int div
returns c = record { sum = c.alternating.ensures; table = refl }
