use Rattle.std.proofs.Common.{◌∙◌, refl, rules}
use Rattle.std.proofs.lemmas.Iterator.{YieldsList-from_range}
use Rattle.std.proofs.lemmas.Iterator.Consumers.{fold_from_yields_List}
use Rattle.table.specs.Chains.{at}
use Rattle.table.proofs.Steps.{end_is}
use Rattle.table.proofs.cursor.Cursor.end.Goals as goal

pub returns-clause-before : goal.returns-clause-before
returns-clause-before c = λ w.
    let t = c.args.table.now in
    let head = c.args.head.now in
    fold_from_yields_List _ (λ here _. (at t here).next) _ _ c.fold-before.ensures.ran
    (YieldsList-from_range 1 head.count _ refl refl) (λ a x b q k. search rules)
    ∙ end_is t 0 head.newest head.count head.first w.whole.line
