-- What calls, one by one and in lists, do to a table and what they answer, by the line book.
use Rattle.std.specs.Prelude.{◌≡◌, ℕ, ◌<◌, ◌≤◌, ◌⊎◌, List, length, take, drop, Result, Float}
use Rattle.points.specs.Faults.{raised}
use Rattle.points.specs.declared.fault.Cause.TheVariants.{NoRoom}
use Rattle.points.specs.declared.fault.Fault.{Fault}
use Rattle.points.specs.declared.fault.Layer.TheVariants.{Table}
use Rattle.points.specs.declared.point.Point.{Point}
use Rattle.book.specs.declared.call.Answer.{Answer}
use Rattle.book.specs.declared.call.Call.{Call}
use Rattle.book.specs.Calls.{Moment, start, next, answer, played, answers}
use Rattle.table.specs.declared.Record.{Record}
use Rattle.table.specs.Whole.{Sized, BadLength}
use Rattle.plan.specs.declared.state.State.{State}
use Rattle.plan.specs.Stands.{StandsAt}

module _ {S R : Type 0} (far : S → Point → Point → Result Float Fault)
    (ratio : S → Point → Point → Float → Result Point Fault) (coords : R → List Point) where
  -- after a call on a table of n records and with a row buffer of so many cells, the answer is the book's, and
  -- the book after the call stands
  pub record Stepped (n cells : ℕ) (at : Moment S) (c : Call S R) (t : List Record) (xs : List Float) (s : State R)
      (a : Answer) : Type 0 where
    pub told : a ≡ answer far ratio coords n cells at c
    pub stands : StandsAt coords (next far ratio coords n cells at c) t xs s

  -- that is so of whatever book stood before the call
  abbrev pub Steps : List Record → List Float → State R → Call S R → List Record → List Float → State R → Answer
      → Type 0
  Steps t xs s c t' xs' s' a =
      (at : Moment S) → StandsAt coords at t xs s → Stepped (length t) (length xs) at c t' xs' s' a

  -- after a list of calls the answers are the book's, all of them and in order, and the book after all stands
  pub record Played (n cells : ℕ) (at : Moment S) (cs : List (Call S R)) (t : List Record) (xs : List Float)
      (s : State R) (told : List Answer) : Type 0 where
    pub told_is : take (length cs) told ≡ answers far ratio coords n cells at cs
    pub stands : StandsAt coords (played far ratio coords n cells at cs) t xs s

  -- that is so of whatever book stood before the list
  abbrev pub Plays : List Record → List Float → State R → List (Call S R) → List Record → List Float → State R
      → List Answer → Type 0
  Plays t xs s cs t' xs' s' told =
      (at : Moment S) → StandsAt coords at t xs s → Played (length t) (length xs) at cs t' xs' s' told

  -- a list was run from format on: the book began empty; answers past those of the calls stay as they were
  pub record RunOk (t : List Record) (xs : List Float) (cs : List (Call S R)) (told : List Answer)
      (t' : List Record) (xs' : List Float) (s : State R) (told' : List Answer) : Type 0 where
    pub sized : Sized t
    pub room : length cs ≤ length told
    pub run : Played (length t) (length xs) start cs t' xs' s told'
    pub rest : drop (length cs) told' ≡ drop (length cs) told
    pub size : length t' ≡ length t
    pub cells : length xs' ≡ length xs

-- a table that can be formatted, and room for all answers
pub record CanRun (t : List Record) (calls room : ℕ) : Type 0 where
  pub sized : Sized t
  pub room_is : calls ≤ room

-- refusal 6: there is no room for all answers
pub record NoRoomForAnswers (t : List Record) (calls room : ℕ) (f : Fault) : Type 0 where
  pub sized : Sized t
  pub cause : room < calls
  pub fault : f ≡ raised NoRoom Table

abbrev pub CannotRun : List Record → ℕ → ℕ → Fault → Type 0
CannotRun t calls room f = BadLength t f ⊎ NoRoomForAnswers t calls room f

-- a list that was not run: nothing is changed
pub record RunErr (calls : ℕ) (f : Fault) (t : List Record) (xs : List Float) (told : List Answer)
    (t' : List Record) (xs' : List Float) (told' : List Answer) : Type 0 where
  pub cause : CannotRun t calls (length told) f
  pub table : t' ≡ t
  pub cells : xs' ≡ xs
  pub answers : told' ≡ told
