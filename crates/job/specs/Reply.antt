-- What each command is answered, and what is kept after it.
use Rattle.std.specs.Prelude.{ℕ, ◌*◌, min, cond, ◌&&◌, List, [], ◌∷◌, ◌++◌, length, replicate, Ok, Err, Result, from_bits, nat_lt, to_bits, Float}
use Rattle.std.specs.Float.{float_is_finite, binary64}
use Rattle.points.specs.declared.fault.Cause.TheVariants.{NotFinite, NoRoom}
use Rattle.points.specs.declared.fault.Fault.{Fault}
use Rattle.points.specs.declared.fault.Layer.TheVariants.{Line}
use Rattle.points.specs.declared.point.Point.{Point}
use Rattle.points.specs.Faults.{number_of, raised, after}
use Rattle.points.specs.Rounded.{zero64}
use Rattle.hosts.specs.declared.host.Function.TheVariants.{Hypot}
use Rattle.hosts.specs.Series.{series_answer}
use Rattle.spaces.specs.Plane as Plane
use Rattle.frechet.specs.Table.{frechet}
use Rattle.text.specs.Printed.{status_text, bits_text}
use Rattle.text.specs.declared.printed.Letter.TheVariants as letters
use Rattle.text.specs.declared.command.Command.{Command}
use Rattle.text.specs.declared.command.Command.TheVariants.{Reference, Append, Compare}
use Rattle.job.specs.Kept.{Kept}

-- a point by the bits of its coordinates
abbrev pub point_of : ℕ → ℕ → Point
point_of x y = record { x = from_bits binary64 x; y = from_bits binary64 y }

-- both coordinates are finite, or the refusal
abbrev pub finite_or_not : Point → Result (Unit {0}) Fault
finite_or_not p = cond (float_is_finite p.x && float_is_finite p.y) (Ok tt) (Err (raised NotFinite Line))

-- a reference has at most 1,000 points
abbrev pub reference_room : ℕ → Point → Result (Unit {0}) Fault
reference_room count p = after (finite_or_not p) (λ _. cond (nat_lt count 1000) (Ok tt) (Err (raised NoRoom Line)))

-- the discrete Fréchet distance in the Euclidean plane over the series host
abbrev pub plane_distance : List Point → List Point → List Float → Result Float Fault
plane_distance planned reference cells = (frechet (Plane.distance (series_answer Hypot)) planned reference cells).result

-- with as many cells as it needs
abbrev pub distance_of : Kept → Result Float Fault
distance_of k =
    plane_distance k.planned k.reference (replicate (2 * min (length k.planned) (length k.reference)) zero64)

abbrev pub distance_text : Result Float Fault → List ℕ
distance_text (Ok d) = bits_text letters.C (to_bits binary64 d)
distance_text (Err f) = status_text letters.C (number_of f.cause)

-- the printed line, and what is kept after it
pub record Reply : Type 0 where
  pub printed : List ℕ
  pub kept : Kept

-- 0, or the number of the refusal
abbrev pub outcome_number : Result (Unit {0}) Fault → ℕ
outcome_number (Ok _) = 0
outcome_number (Err f) = number_of f.cause

-- one point more at the end, unless it is refused
abbrev pub added : Result (Unit {0}) Fault → List Point → Point → List Point
added (Ok _) ps p = ps ++ p ∷ []
added (Err _) ps p = ps

abbrev pub reply_to : Kept → Command → Reply
reply_to k (Reference x y) =
    let outcome = reference_room (length k.reference) (point_of x y) in
    record {
      printed = status_text letters.R (outcome_number outcome);
      kept = record { reference = added outcome k.reference (point_of x y); planned = k.planned };
    }
reply_to k (Append x y) =
    let outcome = finite_or_not (point_of x y) in
    record {
      printed = status_text letters.A (outcome_number outcome);
      kept = record { reference = k.reference; planned = added outcome k.planned (point_of x y) };
    }
reply_to k Compare = record { printed = distance_text (distance_of k); kept = k }
