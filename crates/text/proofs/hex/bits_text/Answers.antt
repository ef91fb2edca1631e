use Rattle.std.proofs.Common.{◌≡◌, ◌+◌, ◌-◌, ◌<◌, ◌++◌, length, drop, ◌∙◌, subst, arith, length-set}
use Rattle.text.specs.Hex.{hex_text}
use Rattle.text.proofs.HexLaws.{back_step, back_all}
use Rattle.text.proofs.hex.bits_text.Goals as goal

pub loop-i-preserved : goal.loop-i-preserved
loop-i-preserved c =
    let text = c.loop-i.text in
    let rest = c.loop-i.rest in
    let inv = c.loop-i.invariant in
    let back : c.loop-i.i ≡ c.loop-i.i - 1 + 1 = omega arith in
    let inside : c.loop-i.i - 1 < length c.loop-i.text = omega arith in (
      length-set _ _ _ ∙ inv.0,
      back_step (c.loop-i.i - 1) rest _ text _ inside c.hex_capital.ensures
          (subst (λ i. hex_text i rest ++ drop i text ≡ hex_text 16 c.args.n) back inv.1),
    )

pub returns : goal.returns
returns c = back_all _ _ _ _ c.loop-i-test.false c.loop-i.invariant.1
