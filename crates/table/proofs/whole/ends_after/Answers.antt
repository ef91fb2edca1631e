use Rattle.std.proofs.Common.{◌≡◌, ℕ, Some, None, true, Option, refl, sym, ◌∙◌, arith, rules, eqb, eqb-true}
use Rattle.std.specs.Option.{option_eq}
use Rattle.std.proofs.lemmas.Iterator.{YieldsList-from_range}
use Rattle.std.proofs.lemmas.Iterator.Consumers.{YieldsList-turn, YieldsList-end}
use Rattle.std.proofs.lemmas.List.FromFn.{length-range_with_len}
use Rattle.table.proofs.Steps.{tried}
use Rattle.table.proofs.whole.ends_after.Goals as goal

is_zero : (r : Option ℕ) → option_eq eqb r (Some 0) ≡ true → r ≡ Some 0
is_zero (Some x) e = let z : x ≡ 0 = eqb-true x 0 e in rw z refl
is_zero None e = let z : ◌≡◌ {A = ℕ} 0 1 = cc in absurd (omega arith)

pub returns : goal.returns
returns c =
    let n = c.args.n in
    let d = c.try_fold.ensures.ran in
    let road = YieldsList-from_range 0 n n refl (omega arith) in
    let long = length-range_with_len 0 n in
    let t = tried c.args.table.now c.args.least c.args.most _ _ _ (λ i x v q k. search rules) n c.args.start c.try_fold.result
    d.0 d.1 (d.2, d.3)
    (λ z. (YieldsList-end road d.0 d.4.0 d.4.1 d.1 _ z d.4.2).1 ∙ long)
    (λ x z. let turn = (YieldsList-turn road d.0 d.4.0 d.4.1 d.1 _ x z d.4.2).0 in omega arith)
    d.5 d.6 in
    record {
      sound = λ e. t.0 (is_zero _ (sym c.eq.ensures ∙ e));
      complete = λ w. rw (c.eq.ensures, t.1 w) refl;
    }
