-- What a host means, and what its caller is told.
use Rattle.std.specs.Prelude.{Some, None, Ok, Err, Option, Result, Float}
use Rattle.points.specs.Faults.{raised}
use Rattle.points.specs.declared.fault.Cause.TheVariants.{NoAnswer}
use Rattle.points.specs.declared.fault.Fault.{Fault}
use Rattle.points.specs.declared.fault.Layer.TheVariants.{Host}
use Rattle.hosts.specs.declared.host.Function.{Function}

-- a function and its two arguments, the second +0 where it has one, to a float or to no answer
abbrev pub Meaning : Type 0
Meaning = Function → Float → Float → Option Float

-- no answer is a refusal of the host
abbrev pub answered : Option Float → Result Float Fault
answered None = Err (raised NoAnswer Host)
answered (Some x) = Ok x
