-- Defines what a part of a text spells, where its bounds may bound none: then it is no line.
use Rattle.std.specs.Prelude.{Option, None, Some}
use Rattle.text.specs.Grammar.{CommandOf, Unspelled}
use Rattle.text.specs.declared.command.Command.{Command}
use Rattle.text.specs.declared.line.Line.{Line}

-- the part is a line that spells q
abbrev pub CommandAt : Option Line → Command → Type 0
CommandAt None q = ⊥
CommandAt (Some l) q = CommandOf l.bytes.now q

-- the part is no line, or a line that spells no command
abbrev pub NoCommand : Option Line → Type 0
NoCommand None = Unit {0}
NoCommand (Some l) = Unspelled l.bytes.now
