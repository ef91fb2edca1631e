-- Defines the answer to each question, and the bytes that are printed for a line.
use Rattle.std.specs.Prelude.{◌≡◌, ℕ, ◌*◌, min, List, ◌++◌, length, replicate, Ok, Err, codes, decimal, Option, Result, to_bits, Float}
use Rattle.std.specs.Float.{binary64}
use Rattle.text.specs.Hex.{hex_text}
use Rattle.points.specs.Faults.{number_of}
use Rattle.points.specs.Rounded.{zero64}
use Rattle.points.specs.declared.fault.Fault.{Fault}
use Rattle.points.specs.declared.point.Point as places
use Rattle.hosts.specs.Meaning.{answered}
use Rattle.hosts.specs.Series.{series_answer}
use Rattle.hosts.specs.declared.host.Function.TheVariants as functions
use Rattle.spaces.specs.Plane as Plane
use Rattle.measures.specs.Length.{length_of}
use Rattle.frechet.specs.Table.{frechet}
use Rattle.questions.specs.Asked as asks
use Rattle.questions.specs.Asked.{Asked}
use Rattle.questions.specs.Reading.{SpellsAt}
use Rattle.text.specs.declared.line.Line.{Line}
use Rattle.questions.specs.declared.ask.Answer.{Answer}
use Rattle.questions.specs.declared.ask.Answer.TheVariants as answers

-- a host that has no answer says so
abbrev pub heard : Result Float Fault → Answer
heard (Ok x) = answers.Number x
heard (Err f) = answers.NoAnswer

-- a refusal is told by its cause
abbrev pub measured : Result Float Fault → Answer
measured (Ok x) = answers.Number x
measured (Err f) = answers.Refused f.cause

abbrev pub landed : Result places.Point Fault → Answer
landed (Ok p) = answers.Point p
landed (Err f) = answers.Refused f.cause

abbrev pub hypot : Float → Float → Option Float
hypot = series_answer functions.Hypot

-- how far two points are apart in the Euclidean plane over the series host
abbrev pub far : places.Point → places.Point → Result Float Fault
far = Plane.distance hypot

-- cells enough for the two rows of the shorter line
abbrev pub cells_for : List places.Point → List places.Point → List Float
cells_for ps qs = replicate (min (length ps) (length qs) * 2) zero64

abbrev pub answer_to : Asked → Answer
answer_to (asks.Sqrt x) = heard (answered (series_answer functions.Sqrt x zero64))
answer_to (asks.Hypot x y) = heard (answered (series_answer functions.Hypot x y))
answer_to (asks.Sin x) = heard (answered (series_answer functions.Sin x zero64))
answer_to (asks.Cos x) = heard (answered (series_answer functions.Cos x zero64))
answer_to (asks.Asin x) = heard (answered (series_answer functions.Asin x zero64))
answer_to (asks.Atan2 y x) = heard (answered (series_answer functions.Atan2 y x))
answer_to (asks.Distance p q) = measured (far p q)
answer_to (asks.Ratio t p q) = landed (Plane.at_ratio p q t)
answer_to (asks.Along d p q) = landed (Plane.at_distance hypot p q d)
answer_to (asks.Length ps) = measured (length_of far ps)
answer_to (asks.Frechet ps qs) = measured (frechet far ps qs (cells_for ps qs)).result

-- the bits of a number as 16 hexadecimal capitals
abbrev pub number_text : Float → List ℕ
number_text x = hex_text 16 (to_bits binary64 x)

abbrev pub point_text : places.Point → List ℕ
point_text p = number_text p.x ++ (codes " " ++ number_text p.y)

abbrev pub printed : Answer → List ℕ
printed (answers.Number x) = number_text x
printed (answers.Point p) = point_text p
printed answers.NoAnswer = codes "none"
printed (answers.Refused cause) = codes "refused " ++ decimal (number_of cause)

-- what is printed for a line that spells no question
abbrev pub malformed_text : List ℕ
malformed_text = codes "refused 14"

-- what is printed for the part of a text
pub record Answered (line : Option Line) (out : List ℕ) : Type 0 where
  -- where it spells a question, the answer to that
  pub asked : (q : Asked) → SpellsAt line q → out ≡ printed (answer_to q)
  -- where it spells none, a refusal
  pub malformed : ((q : Asked) → SpellsAt line q → ⊥) → out ≡ malformed_text
