-- The table is the list of the divisors: antt computes both.
use lib.Ieee.{of_bits, of_int, mul}
use Rattle.hosts.proofs.circle.cosine_part.Goals as goal

pub returns : goal.returns
unfolding of_bits of_int mul
returns c = c.series.ensures
