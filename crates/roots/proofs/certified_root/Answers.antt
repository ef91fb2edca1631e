-- The certificate gives the digits of the root.
use Rattle.std.proofs.Common.{T, sym, subst, arith}
use Rattle.std.proofs.lemmas.Float.{not_nan_f64_bits}
use Rattle.roots.proofs.Certified.{has_53_digits, is_root}
use Rattle.roots.proofs.certified_root.Goals as goal

pub float_from_bits-result : goal.float_from_bits-result
float_from_bits-result c =
    let x = c.in_ok-normal.normal in
    let d = has_53_digits x.exponent x.significand _ _ x.digits.0 x.digits.1 c.radicand.ensures c.in_ok-digits.ensures in
    not_nan_f64_bits _ (omega arith)

pub returns : goal.returns
returns c =
    let x = c.in_ok-normal.normal in
    is_root x.exponent x.significand _ _ x.digits.0 x.digits.1 c.radicand.ensures c.in_ok-digits.ensures
    c.args.x _ _ (subst T (sym c.well_formed.0.1) tt) c.in_ok-bits.ensures x.finite c.in_ok-normal.ensures
    c.root_exponent-base.ensures
