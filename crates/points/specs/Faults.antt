-- Refusals: the number of each cause, and how a fault gets its layer and its place.
use Rattle.std.specs.Prelude.{ℕ, Bool, cond, Ok, Err, Result}
use Rattle.points.specs.declared.fault.Cause.{Cause}
use Rattle.points.specs.declared.fault.Cause.TheVariants as causes
use Rattle.points.specs.declared.fault.Layer.{Layer}
use Rattle.points.specs.declared.fault.Fault.{Fault}

abbrev pub number_of : Cause → ℕ
-- the table's length is outside 2 to 65,536
number_of causes.TableLength = 1
-- the table is not whole
number_of causes.TableNotWhole = 2
-- a maximum, ratio, distance or coordinate is not finite, or a maximum is not above 0
number_of causes.NotFinite = 3
-- a point is not admitted by the space
number_of causes.NotAdmitted = 4
-- over 65,535 pieces between neighbours
number_of causes.TooManyPieces = 5
-- a buffer, a list or the free chain is too short, or a given line has over 65,535 points
number_of causes.NoRoom = 6
-- no edit number is left
number_of causes.NoEditNumber = 7
-- there is no edit to undo
number_of causes.NothingToUndo = 8
-- the host has no answer
number_of causes.NoAnswer = 9
-- a result is not finite or not admitted, or a distance is below 0
number_of causes.BadResult = 10
-- all rows were asked
number_of causes.NoRowLeft = 11
-- the reference's count is not what it was at open
number_of causes.ReferenceChanged = 12
-- a radius is not finite or not above 0
number_of causes.BadRadius = 13
-- a line of a job is malformed, or the job is too long
number_of causes.Malformed = 14

-- a fault with no place
abbrev pub raised : Cause → Layer → Fault
raised c l = record { cause = c; layer = l; place = 0 }

-- the same fault, at a place
abbrev pub placed : ℕ → Fault → Fault
placed n f = record { cause = f.cause; layer = f.layer; place = n }

-- what does not hold is refused
abbrev pub ensured : Bool → Cause → Layer → Result (Unit {0}) Fault
ensured holds c l = cond holds (Ok tt) (Err (raised c l))

-- a refusal by its cause alone becomes one of a layer
abbrev pub in_layer : {X : Type 0} → Result X Cause → Layer → Result X Fault
in_layer (Ok x) l = Ok x
in_layer (Err c) l = Err (raised c l)

-- a refusal gets the place that the walk has come to
abbrev pub at_place : {X : Type 0} → Result X Fault → ℕ → Result X Fault
at_place (Ok x) n = Ok x
at_place (Err f) n = Err (placed n f)

-- what follows an accepted result; a refusal goes on as it is, as `?` has it
abbrev pub after : {X Y E : Type 0} → Result X E → (X → Result Y E) → Result Y E
after (Ok x) f = f x
after (Err e) f = Err e
