-- A line that spells a command is answered as the grammar says.
use Rattle.std.proofs.Common.{◌≡◌, ℕ, List, Option, None, Some, sym, ◌∙◌, subst, inl}
use Rattle.text.specs.Parts.{CommandAt, NoCommand}
use Rattle.text.specs.declared.command.Command.{Command}
use Rattle.text.specs.declared.line.Line.{Line}
use Rattle.text.proofs.Unique.{same_command}
use Rattle.job.specs.Kept.{Kept}
use Rattle.job.specs.Answer.{Replies, Answered}

-- a part spells one command at most
same_at : (line : Option Line) (q r : Command) → CommandAt line q → CommandAt line r → q ≡ r
same_at None q r at other = absurd at
same_at (Some l) q r at other = same_command q r at.sized other.sized (at.whole ∙ sym other.whole)

-- and none, or one
not_both : (line : Option Line) (q : Command) → CommandAt line q → NoCommand line → ⊥
not_both None q at none = at
not_both (Some l) q at none = none q at.sized at.whole

module _ (line : Option Line) (number : ℕ) (old : Kept) (printed : List ℕ) (new : Kept) where
  pub answers_command : (q : Command) → CommandAt line q → Replies old q printed new → Answered line number old printed new
  answers_command q spelled replies = record {
    allowed = λ r at. subst (λ c. Replies old c printed new) (same_at line q r spelled at) replies;
    malformed = λ none. absurd (not_both line q spelled none);
    either = inl (record { command = q; spelled = spelled; answered = replies });
  }
