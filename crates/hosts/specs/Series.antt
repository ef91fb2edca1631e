-- The series host, function by function.
use Rattle.hosts.specs.declared.host.Function.TheVariants.{Sqrt, Hypot, Sin, Cos, Asin, Atan2}
use Rattle.hosts.specs.Meaning.{Meaning}
use Rattle.hosts.specs.Length.{sqrt_answer, hypot_answer}
use Rattle.hosts.specs.Circle.{sin_answer, cos_answer}
use Rattle.hosts.specs.Arc.{asin_answer, atan2_answer}

abbrev pub series_answer : Meaning
series_answer Sqrt x y = sqrt_answer x
series_answer Hypot x y = hypot_answer x y
series_answer Sin x y = sin_answer x
series_answer Cos x y = cos_answer x
series_answer Asin x y = asin_answer x
series_answer Atan2 y x = atan2_answer y x
