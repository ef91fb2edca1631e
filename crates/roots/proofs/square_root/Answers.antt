-- The laws of the root follow from its value.
use Rattle.std.proofs.Common.{◌≡◌, T, sym, subst, rules}
use Rattle.std.specs.Float.{sqrt, binary64}
use Rattle.roots.specs.Nearest.{NearestRoot}
use Rattle.roots.specs.Special.{SpecialRoot}
use Rattle.roots.proofs.Nearest.{nearest_root}
use Rattle.roots.proofs.Special.{special_root}
use Rattle.roots.proofs.square_root.Goals as goal

pub returns-clause-nearest : goal.returns-clause-nearest
returns-clause-nearest c =
    let x = c.args.x in
    let e : c.unwrap_or_else.result ≡ sqrt binary64 x = search rules in
    λ p. subst (NearestRoot x) (sym e) (nearest_root x (subst T (sym c.well_formed.0.1) tt) p)

pub returns-clause-others : goal.returns-clause-others
returns-clause-others c =
    let x = c.args.x in
    let e : c.unwrap_or_else.result ≡ sqrt binary64 x = search rules in
    subst (SpecialRoot x) (sym e) (special_root x)
