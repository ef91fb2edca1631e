-- What each line of a job is answered, by the grammar: in both directions.
use Rattle.std.specs.Prelude.{◌≡◌, ℕ, cond, ◌⊎◌, List, Ok, Err, Option, Result, nat_le}
use Rattle.points.specs.declared.fault.Cause.TheVariants.{Malformed}
use Rattle.points.specs.declared.fault.Fault.{Fault}
use Rattle.points.specs.declared.fault.Layer.TheVariants as layers
use Rattle.points.specs.Faults.{raised, placed}
use Rattle.text.specs.Parts.{CommandAt, NoCommand}
use Rattle.text.specs.Printed.{malformed_text}
use Rattle.text.specs.declared.command.Command.{Command}
use Rattle.text.specs.declared.line.Line.{Line}
use Rattle.job.specs.Kept.{Kept}
use Rattle.job.specs.Reply.{reply_to}

-- a job has at most 60,000 bytes; a longer one is malformed as a whole, at no line
abbrev pub length_allowed : ℕ → Result (Unit {0}) Fault
length_allowed bytes = cond (nat_le bytes 60000) (Ok tt) (Err (raised Malformed layers.Job))

-- the command that the part spells, or the fault of a malformed line, which tells the line's number
abbrev pub CommandOrFault : Option Line → ℕ → Result Command Fault → Type 0
CommandOrFault line number (Ok q) = CommandAt line q
CommandOrFault line number (Err f) = NoCommand line × (f ≡ placed number (raised Malformed layers.Job))

-- what is printed for a command, and kept after it
pub record Replies (old : Kept) (q : Command) (printed : List ℕ) (new : Kept) : Type 0 where
  pub text : printed ≡ (reply_to old q).printed
  pub kept : new ≡ (reply_to old q).kept

-- the part spells a command, and is answered so
pub record Asked (line : Option Line) (old : Kept) (printed : List ℕ) (new : Kept) : Type 0 where
  pub command : Command
  pub spelled : CommandAt line command
  pub answered : Replies old command printed new

-- it spells none: its number is told, and nothing changes
pub record Refused (number : ℕ) (old : Kept) (printed : List ℕ) (new : Kept) : Type 0 where
  pub text : printed ≡ malformed_text number
  pub kept : new ≡ old

-- one or the other
abbrev pub EitherWay : Option Line → ℕ → Kept → List ℕ → Kept → Type 0
EitherWay line number old printed new =
    Asked line old printed new ⊎ (NoCommand line × Refused number old printed new)

-- whatever command the part spells is answered, and it is refused exactly where it spells none, as where its bounds
-- make no line of it
pub record Answered (line : Option Line) (number : ℕ) (old : Kept) (printed : List ℕ) (new : Kept) : Type 0 where
  pub allowed : (q : Command) → CommandAt line q → Replies old q printed new
  pub malformed : NoCommand line → Refused number old printed new
  pub either : EitherWay line number old printed new
