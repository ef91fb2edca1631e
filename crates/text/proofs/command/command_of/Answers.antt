use Rattle.std.proofs.Common.{rules}
use Rattle.text.proofs.Commands.{spelled_letter, number_unspelled}
use Rattle.text.proofs.command.command_of.Goals as goal

pub returns-in_err-split_word : goal.returns-in_err-split_word
returns-in_err-split_word c =
    rw c.from_residual.ensures (λ q sized e.
    c.in_err-split_word.ensures.no_letter (spelled_letter c.args.line.bytes.now q e))

pub returns-in_default-3 : goal.returns-in_default-3
returns-in_default-3 c =
    let read = c.in_ok-split_word.ensures.0 in
    number_unspelled c.args.line.bytes.now _ _ _ read (search (rules, read.sized))
