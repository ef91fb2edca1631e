use Rattle.std.proofs.Common.{rules, ◌++◌, ap, codes, sym, ◌∙◌}
use Rattle.std.proofs.lemmas.List.{append_cancel_left}
use Rattle.questions.proofs.Counting.{same_count}
use Rattle.questions.proofs.Mapped.{mapped}
use Rattle.questions.proofs.Parting.{slash_parted, slash_plain}
use Rattle.questions.proofs.arguments.parted_numbers.Goals as goal

pub returns-in_default : goal.returns-in_default
returns-in_default c y w =
    let read = c.in_ok-before.ensures in
    let same =
    same_count w.bits read.bits w.rest c.in_ok-before.rest.bytes.now w.sized
    (slash_parted w.rest y.1 w.second) (slash_plain w.rest y.1 w.second) read.none (sym w.whole ∙ read.whole) in
    c.in_default.ensures _ (sym same.1 ∙ w.second.whole)

pub returns : goal.returns
returns c =
    let read = c.in_ok-before.ensures in
    mapped c.in_ok-numbers.field-0 c.map.result (λ after. (c.in_ok-before.before, after)) _ c.map.ensures.cases (λ after p made. search rules)
    c.in_ok-numbers.ensures
    (λ none y w.
    let same =
    same_count w.bits read.bits w.rest c.in_ok-before.rest.bytes.now w.sized
    (slash_parted w.rest y.1 w.second) (slash_plain w.rest y.1 w.second) read.none (sym w.whole ∙ read.whole) in
    let after = append_cancel_left (codes " /") _ _ (sym c.in-Some.ensures.0 ∙ sym same.1 ∙ w.second.whole) in
    none y.1 (record { bits = w.second.bits; sized = w.second.sized; are = w.second.are; whole = after }))
    (λ after words. record {
      rest = c.in_ok-before.rest.bytes.now;
      bits = read.bits;
      sized = read.sized;
      are = read.are;
      whole = read.whole;
      second = record {
        bits = words.bits;
        sized = words.sized;
        are = words.are;
        whole = c.in-Some.ensures.0 ∙ ap (λ l. codes " /" ++ l) words.whole;
      };
    })
