use Rattle.std.proofs.Common.{◌≡◌, ◌+◌, ◌∷◌, length, drop, refl, sym, ap, ◌∙◌, subst, arith}
use Rattle.std.proofs.lemmas.List.{length-drop, take_rest}
use Rattle.text.specs.Lines.{lines}
use Rattle.text.specs.Steps.{lines_left}
use Rattle.text.proofs.Runs.{Run, line_run, no_lines}
use Rattle.text.proofs.lines.LinesIterator.next.Goals as goal

pub returns-then-self-clause-steps : goal.returns-then-self-clause-steps
returns-then-self-clause-steps c =
    (no_lines _ (omega (arith, length-drop c.args.self.now.at c.args.self.now.job.now)), refl)

-- the line that begins at `at` stands first
first : (c : goal.After-self-1) → lines_left c.args.self.now ≡ c.in_ok-line.line.bytes.now ∷ lines_left record { job = c.args.self.now.job; at = c.args.self.now.at + c.count_before.result + 1 }
first c =
    let job = c.args.self.now.job.now in
    let at = c.args.self.now.at in
    let k = c.count_before.result in
    let f = c.count_before.ensures in
    let run : Run 10 _ k = record { within = f.within; before = f.before; found = f.found } in
    let line = line_run job at k (omega arith) (subst (λ l. Run 10 l k) (take_rest job at) run) in
    line.1 ∙ ap (λ l. l ∷ lines (drop (at + k + 1) job)) (sym c.in_ok-line.ensures.1)

pub returns-clause-steps : goal.returns-clause-steps
returns-clause-steps c =
    let given = c.in_ok-line.ensures in (
      c.args.self.now.at + c.count_before.result,
      record { inside = given.0; is = given.1; placed = given.2; first = first c },
      refl,
      refl,
    )

pub returns-clause-goes : goal.returns-clause-goes
returns-clause-goes c =
    let e = ap length (first c) in
    record { on = λ _. (tt, tt, omega (arith, e)); keeps = tt; rests = λ _. tt }
