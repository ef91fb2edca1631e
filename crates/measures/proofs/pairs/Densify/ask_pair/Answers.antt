use Rattle.std.proofs.Common.{◌<◌, sym, ◌∙◌, rules, arith}
use Rattle.std.proofs.lemmas.Grind.{common_steps}
use Rattle.measures.proofs.Cutting.{cut_paired, cut_unpaired}
use Rattle.measures.proofs.pairs.Densify.ask_pair.Goals as goal

pub returns-in_err-pair : goal.returns-in_err-pair
returns-in_err-pair g c =
    let law = g.met.S.Space.pairs c.args.self.now.space.now c.args.start c.args.end in
    let fits : c.in_ok-pieces.pieces < 4294967296 = search rules in
    let cut = cut_unpaired _ _ _ law _ fits _ (sym c.pair.ensures ∙ c.in_err-pair.was) c.if-pieces-lt2.false in
    grind (arith, common_steps)

pub returns : goal.returns
returns g c =
    let law = g.met.S.Space.pairs c.args.self.now.space.now c.args.start c.args.end in
    let fits : c.in_ok-pieces.pieces < 4294967296 = search rules in
    let cut = cut_paired _ _ _ law _ fits _ (sym c.pair.ensures ∙ c.in_ok-pair.was) c.if-pieces-lt2.false in
    grind (arith, common_steps)
