-- The table is the list of the divisors: antt computes both.
use Rattle.std.proofs.Common.{ap}
use lib.Ieee.{Float, of_bits, of_int, mul}
use Rattle.points.specs.Rounded.{◌⊗◌}
use Rattle.hosts.proofs.circle.sine_part.Goals as goal

pub returns : goal.returns
unfolding of_bits of_int mul
returns c = ap (λ (s : Float). c.args.r ⊗ s) c.series.ensures
