-- Lists of calls: the book after each, and the answers to all of them.
use Rattle.std.specs.Prelude.{ℕ, min, Bool, true, false, cond, not, List, [], ◌∷◌, Ok, Err, Result, Float}
use Rattle.points.specs.declared.fault.Fault.{Fault}
use Rattle.points.specs.declared.point.Point.{Point}
use Rattle.book.specs.declared.call.Answer.{Answer}
use Rattle.book.specs.declared.call.Answer.TheVariants.{Done, Refused, Closed, OutOfTurn}
use Rattle.book.specs.declared.call.Call.{Call}
use Rattle.book.specs.declared.call.Call.TheVariants.{Append, Densify, Undo, Settle, Open, Row, Close}
use Rattle.book.specs.Book.{Book, empty_book, appended, refined, undone, settled, opened, rowed, closing}

-- the answer to an edit
abbrev pub edit_answer : Result (Unit {0}) Fault → Answer
edit_answer (Ok _) = Done
edit_answer (Err f) = Refused f

-- what a list of calls has come to: a book, and whether a comparison is open
pub record Moment (S : Type 0) : Type 0 where
  pub book : Book S
  pub comparing : Bool

-- after format: an empty book, and no comparison
abbrev pub start : {S : Type 0} → Moment S
start = record { book = empty_book; comparing = false }

-- the distances and the points at a ratio of a space, and the points of a reference
module _ {S R : Type 0} (far : S → Point → Point → Result Float Fault)
    (ratio : S → Point → Point → Float → Result Point Fault) (coords : R → List Point) where
  -- edits and open are in turn while no comparison is open, row and close while one is
  abbrev pub in_turn : Bool → Call S R → Bool
  in_turn comparing (Append ps) = not comparing
  in_turn comparing (Densify s most) = not comparing
  in_turn comparing Undo = not comparing
  in_turn comparing Settle = not comparing
  in_turn comparing (Open r) = not comparing
  in_turn comparing (Row s m) = comparing
  in_turn comparing Close = comparing

  -- an accepted open begins a comparison, and close ends it
  abbrev pub comparing_after : Bool → Call S R → Bool
  comparing_after comparing (Append ps) = comparing
  comparing_after comparing (Densify s most) = comparing
  comparing_after comparing Undo = comparing
  comparing_after comparing Settle = comparing
  comparing_after comparing (Open r) = true
  comparing_after comparing (Row s m) = comparing
  comparing_after comparing Close = false

  -- the book after a call in its turn, or the refusal, on a table of n records and with a row buffer of
  -- `cells` cells: a row is given so many of them as the call says, or all if there are fewer
  abbrev pub called : ℕ → ℕ → Book S → Call S R → Result (Book S) Fault
  called n cells b (Append ps) = appended n b ps.now
  called n cells b (Densify s most) = refined n (far s.now) (ratio s.now) most b
  called n cells b Undo = undone b
  called n cells b Settle = Ok (settled b)
  called n cells b (Open r) = opened b (coords r.now)
  called n cells b (Row s m) = rowed (min m cells) (far s.now) s.now b
  called n cells b Close = Ok b

  -- what an accepted call answers
  abbrev pub tells : Book S → Call S R → Answer
  tells b (Append ps) = Done
  tells b (Densify s most) = Done
  tells b Undo = Done
  tells b Settle = Done
  tells b (Open r) = Done
  tells b (Row s m) = Done
  tells b Close = Closed (closing b)

  abbrev pub answer_of : Answer → Result (Book S) Fault → Answer
  answer_of a (Ok b) = a
  answer_of a (Err f) = Refused f

  abbrev pub moment_of : Moment S → Call S R → Result (Book S) Fault → Moment S
  moment_of old c (Ok b) = record { book = b; comparing = comparing_after old.comparing c }
  moment_of old c (Err f) = old

  -- a refused call, and one out of turn, change nothing
  abbrev pub answer : ℕ → ℕ → Moment S → Call S R → Answer
  answer n cells at c =
      cond (in_turn at.comparing c) (answer_of (tells at.book c) (called n cells at.book c)) OutOfTurn

  abbrev pub next : ℕ → ℕ → Moment S → Call S R → Moment S
  next n cells at c = cond (in_turn at.comparing c) (moment_of at c (called n cells at.book c)) at

  -- after all of the calls, and the answers to all of them, in order
  abbrev pub played : ℕ → ℕ → Moment S → List (Call S R) → Moment S
  played n cells at [] = at
  played n cells at (c ∷ cs) = played n cells (next n cells at c) cs

  abbrev pub answers : ℕ → ℕ → Moment S → List (Call S R) → List Answer
  answers n cells at [] = []
  answers n cells at (c ∷ cs) = answer n cells at c ∷ answers n cells (next n cells at c) cs
