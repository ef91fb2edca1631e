use Rattle.std.proofs.Common.{string_bytes, ap, ◌∙◌}
use Rattle.std.proofs.lemmas.Option.{MatchOption-at_some, MatchOption-at_none}
use Rattle.std.proofs.lemmas.Result.{IfOk-weaker}
use Rattle.questions.specs.Asked.{asked}
use Rattle.questions.specs.Answers.{printed}
use Rattle.questions.proofs.Unique.{answers_it, refuses_it, malformed_printed}
use Rattle.questions.proofs.answer.answer_line.Goals as goal
use Rattle.questions.proofs.answer.answer_line.Goals.{in-Some+in_ok-answer-in-Some, in-None}

pub returns : goal.returns
returns c =
    let line = c.args.line in
    IfOk-weaker c.format.result _ _
    (λ s e.
    elim c.match-branch-2.branch [
      | in-Some+in_ok-answer-in-Some w ↦
          answers_it line (asked w.in-Some.question) (string_bytes s)
          (MatchOption-at_some _ _ _ w.in-Some.is c.in_ok-question.ensures)
          (e ∙ ap printed (w.answer-is ∙ w.in_ok-answer-in-Some.ensures))
      | in-None w ↦
          refuses_it line (string_bytes s)
          (MatchOption-at_none _ _ w.in-None.is c.in_ok-question.ensures)
          (e ∙ ap printed w.answer-is ∙ malformed_printed)
    ])
    c.format.ensures.ok
