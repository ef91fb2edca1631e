-- Defines the questions, with a line of points as a list.
use Rattle.std.specs.Prelude.{List, vec_items, Float}
use Rattle.points.specs.declared.point.Point.{Point}
use Rattle.questions.specs.declared.question.Question.{Question}
use Rattle.questions.specs.declared.question.Question.TheVariants as held

pub data Asked : Type 0 where
  Sqrt : Float → Asked
  Hypot : Float → Float → Asked
  Sin : Float → Asked
  Cos : Float → Asked
  Asin : Float → Asked
  Atan2 : Float → Float → Asked
  Distance : Point → Point → Asked
  Ratio : Float → Point → Point → Asked
  Along : Float → Point → Point → Asked
  Length : List Point → Asked
  Frechet : List Point → List Point → Asked

-- the question that a program holds
abbrev pub asked : Question → Asked
asked (held.Sqrt x) = Sqrt x
asked (held.Hypot x y) = Hypot x y
asked (held.Sin x) = Sin x
asked (held.Cos x) = Cos x
asked (held.Asin x) = Asin x
asked (held.Atan2 y x) = Atan2 y x
asked (held.Distance p q) = Distance p q
asked (held.Ratio t p q) = Ratio t p q
asked (held.Along d p q) = Along d p q
asked (held.Length ps) = Length (vec_items ps)
asked (held.Frechet ps qs) = Frechet (vec_items ps) (vec_items qs)
