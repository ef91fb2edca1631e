use Rattle.std.proofs.Common.{[], sym, ap, ◌++◌, ◌∙◌, append-nil}
use Rattle.text.specs.Grammar.{spaced}
use Rattle.text.proofs.Digits.{same_rest}
use Rattle.text.proofs.Choice.{some_if}
use Rattle.text.proofs.command.two_numbers.Goals as goal

pub returns-in_err-y : goal.returns-in_err-y
returns-in_err-y c =
    rw c.from_residual-in_err-y.ensures (λ x y lx ly e.
    let rest = same_rest c.in_ok-x.x x c.in_ok-x.rest.bytes.now (spaced y) (sym c.in_ok-x.ensures.0.whole ∙ e) in
    c.in_err-y.ensures y ly [] tt (rest ∙ sym (append-nil (spaced y))))

pub returns : goal.returns
returns c =
    let first = c.in_ok-x.ensures.0 in
    let second = c.in_ok-y.ensures.0 in
    let x = c.in_ok-x.x in
    let y = c.in_ok-y.y in
    let left = c.in_ok-y.rest.bytes.now in
    rw c.then_some.ensures
    (some_if c.is_empty.result (x, y) _ _
    (λ none. (
      first.sized,
      second.sized,
      first.whole ∙ ap (λ l. spaced x ++ l) (second.whole ∙ ap (λ l. spaced y ++ l) (c.is_empty.ensures.0 none) ∙ append-nil (spaced y)),
    ))
    (λ some u v lu lv e.
    let rest = same_rest x u c.in_ok-x.rest.bytes.now (spaced v) (sym first.whole ∙ e) in
    let ends = same_rest y v left [] (sym second.whole ∙ rest ∙ sym (append-nil (spaced v))) in
    some (c.is_empty.ensures.1 ends)))
