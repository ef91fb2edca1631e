use Rattle.std.proofs.Common.{[], ◌++◌, sym, ap, ◌∙◌, append-nil}
use Rattle.text.proofs.Choice.{some_if}
use Rattle.questions.specs.Spelling.{numbers_text}
use Rattle.questions.proofs.Counting.{same_count, plain_nil}
use Rattle.questions.proofs.arguments.numbers.Goals as goal

pub returns : goal.returns
returns c =
    let read = c.in_ok-numbers.ensures in
    let rest = c.in_ok-numbers.rest.bytes.now in
    rw c.then_some.ensures
    (some_if c.is_empty.result c.in_ok-numbers.numbers _ _
    (λ none. record {
      bits = read.bits;
      sized = read.sized;
      are = read.are;
      whole =
          read.whole ∙ ap (λ l. numbers_text read.bits ++ l) (c.is_empty.ensures.0 none)
          ∙ append-nil (numbers_text read.bits);
    })
    (λ some xs words.
    let same =
    same_count words.bits read.bits [] rest words.sized tt plain_nil
    read.none (append-nil (numbers_text words.bits) ∙ sym words.whole ∙ read.whole) in
    some (c.is_empty.ensures.1 (sym same.1))))
