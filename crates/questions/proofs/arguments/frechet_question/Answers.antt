use Rattle.std.proofs.Common.{rules, [], length, sym, ap, ◌∙◌}
use Rattle.std.proofs.lemmas.Option.{MatchOption-at_none, MatchOption-at_some}
use Rattle.questions.specs.declared.question.Question.TheVariants.{Frechet}
use Rattle.questions.specs.Spelling.{coordinates}
use Rattle.questions.proofs.Calls.{for_two_lines}
use Rattle.questions.proofs.Mapped.{mapped}
use Rattle.questions.proofs.Parting.{two_words_count}
use Rattle.questions.proofs.arguments.frechet_question.Goals as goal

pub returns-in_default : goal.returns-in_default
returns-in_default c =
    for_two_lines c.args.line.bytes.now (λ ps qs w.
    MatchOption-at_none _ _ c.in_default.is c.in_ok-before.ensures (coordinates ps, coordinates qs) w)

pub returns-in_default-2 : goal.returns-in_default-2
returns-in_default-2 c =
    for_two_lines c.args.line.bytes.now (λ ps qs w.
    let read = MatchOption-at_some _ _ _ c.in-Some.is c.in_ok-before.ensures in
    let same = two_words_count c.args.line.bytes.now [] _ _ _ _ w read in
    MatchOption-at_none _ _ c.in_default-2.is c.in_ok-ps.ensures ps
    (same.0 ∙ sym (ap length c.as_slice.ensures.value)))

pub returns : goal.returns
returns c =
    let read = MatchOption-at_some _ _ _ c.in-Some.is c.in_ok-before.ensures in
    mapped c.in_ok-qs.qs c.map.result (λ qs. Frechet c.in-Some-2.ps qs) _ c.map.ensures.cases (λ qs q made. search rules)
    c.in_ok-qs.ensures
    (λ none. for_two_lines c.args.line.bytes.now (λ ps qs w.
    let same = two_words_count c.args.line.bytes.now [] _ _ _ _ w read in
    none qs (same.1 ∙ sym (ap length c.as_slice-2.ensures.value))))
    (λ qs are.
    let first = MatchOption-at_some _ _ _ c.in-Some-2.is c.in_ok-ps.ensures in
    rw (first ∙ c.as_slice.ensures.value, are ∙ c.as_slice-2.ensures.value) read)
