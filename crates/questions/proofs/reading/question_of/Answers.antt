use Rattle.std.proofs.Common.{[], sym, subst, rules}
use Rattle.std.proofs.lemmas.Option.{MatchOption-at_none, MatchOption-at_some}
use Rattle.std.proofs.lemmas.Result.{IfOk-weaker}
use Rattle.questions.specs.Asked.{asked}
use Rattle.questions.specs.Reading.{HostCall, PlaneCall, TwoLines}
use Rattle.questions.specs.Spelling.{Spells, Words}
use Rattle.questions.proofs.Calls.{reads_as, no_numbers, no_call, no_family, host_spells, host_called, plane_spells, plane_called, two_spells, two_called}
use Rattle.questions.proofs.reading.question_of.Goals as goal
use Rattle.questions.proofs.reading.question_of.Goals.{else-eq-via-then-eq+else-eq-2, else-eq-via-else-eq}

pub returns-then-eq-2 : goal.returns-then-eq-2
returns-then-eq-2 c =
    let line = c.args.line.bytes.now in
    let name = c.in-Some.ensures in
    let rest = c.in-Some.rest.bytes.now in
    IfOk-weaker c.frechet_question.result _ _
    (λ o.
    reads_as asked (TwoLines rest) (Spells line) o
    (two_spells line _ _ rest name (search rules) (search rules))
    (two_called line _ _ rest name (search rules) (search rules)))
    c.frechet_question.ensures

pub returns-then-not-takes_numbers : goal.returns-then-not-takes_numbers
returns-then-not-takes_numbers c =
    no_call c.args.line.bytes.now _ _ _ c.in-Some.ensures
    (λ e g.
    elim c.else-eq.branch [ else-eq-via-then-eq+else-eq-2 w ↦ search rules | else-eq-via-else-eq w ↦ search rules ])
    (c.takes_numbers.ensures c.if-not-takes_numbers.true)

pub returns-in_default-2 : goal.returns-in_default-2
returns-in_default-2 c =
    no_numbers c.args.line.bytes.now _ _ _ c.in-Some.ensures
    (λ e g.
    elim c.else-eq.branch [ else-eq-via-then-eq+else-eq-2 w ↦ search rules | else-eq-via-else-eq w ↦ search rules ])
    (MatchOption-at_none _ _ c.in_default-2.is c.in_ok-numbers.ensures)

pub returns-in-host : goal.returns-in-host
returns-in-host c =
    let line = c.args.line.bytes.now in
    let name = c.in-Some.ensures in
    let rest = c.in-Some.rest.bytes.now in
    let read = MatchOption-at_some _ _ _ c.in-Some-2.is c.in_ok-numbers.ensures in
    let words = subst (Words rest []) (sym c.as_slice.ensures.value) read in
    reads_as asked (HostCall _ _) (Spells line) c.host_question.result
    (host_spells line _ _ rest name c.in-host.is _ words)
    (host_called line _ _ rest name c.in-host.is _ words)
    c.host_question.ensures

pub returns-in-euclidean : goal.returns-in-euclidean
returns-in-euclidean c =
    let line = c.args.line.bytes.now in
    let name = c.in-Some.ensures in
    let rest = c.in-Some.rest.bytes.now in
    let read = MatchOption-at_some _ _ _ c.in-Some-2.is c.in_ok-numbers.ensures in
    let words = subst (Words rest []) (sym c.as_slice-in-euclidean.ensures.value) read in
    IfOk-weaker c.plane_question.result _ _
    (λ o.
    reads_as asked (PlaneCall _ _) (Spells line) o
    (plane_spells line _ _ rest name c.in-euclidean.is _ words)
    (plane_called line _ _ rest name c.in-euclidean.is
    (λ e g.
    elim c.else-eq.branch [ else-eq-via-then-eq+else-eq-2 w ↦ search rules | else-eq-via-else-eq w ↦ search rules ])
    _ words))
    c.plane_question.ensures

pub returns : goal.returns
returns c =
    no_family c.args.line.bytes.now _ _ _ c.in-Some.ensures c.in_default-family.not-host c.in_default-family.not-euclidean
