use Rattle.std.proofs.Common.{refl}
use Rattle.std.proofs.lemmas.Bool.Decides.{Decides-eqb}
use Rattle.std.proofs.lemmas.Option.{MatchOption-at_none, MatchOption-at_some}
use Rattle.std.proofs.lemmas.Slice.Eq.{strip_prefix_is}
use Rattle.text.proofs.line.Line.strip_prefix.Goals as goal

pub returns-in_err-bytes : goal.returns-in_err-bytes
returns-in_err-bytes c =
    let found = strip_prefix_is Decides-eqb c.args.self.bytes.now c.args.prefix.now _ c.strip_prefix.ensures.cases in
    rw c.from_residual.ensures (MatchOption-at_none _ _ c.in_err-bytes.was found)

pub returns : goal.returns
returns c =
    let found = strip_prefix_is Decides-eqb c.args.self.bytes.now c.args.prefix.now _ c.strip_prefix.ensures.cases in
    (MatchOption-at_some _ _ _ c.in_ok-bytes.was found, refl)
