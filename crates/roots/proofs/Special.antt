-- The root where x is no number above 0, by computation.
use Rattle.std.proofs.Common.{◌≡◌, zero, suc, ◌+◌, ◌*◌, ◌<◌, true, false, T, refl, ap, arith, ltb→lt}
use lib.Ieee.{Float, nan, inf, fin, binary64, up, down, lt}
use Rattle.std.specs.Float as Floats
use Rattle.std.specs.Float.{sqrt}
use Rattle.roots.specs.Special.{SpecialRoot}

below_zero : (x : Float) → T (lt x Floats.float_zero) → sqrt binary64 x ≡ nan
unfolding lt sqrt
below_zero nan l = absurd l
below_zero (inf true) l = refl
below_zero (inf false) l = absurd l
below_zero (fin true zero e) l =
    let h : 0 < 0 * up e * 1 + 0 * 1 * down e = ltb→lt 0 (0 * up e * 1 + 0 * 1 * down e) l in
    absurd (omega arith)
below_zero (fin true (suc m) e) l = refl
below_zero (fin false m e) l =
    let h : m * up e * 1 < 0 * 1 * down e = ltb→lt (m * up e * 1) (0 * 1 * down e) l in
    absurd (omega arith)

pub special_root : (x : Float) → SpecialRoot x (sqrt binary64 x)
unfolding sqrt
special_root x = record {
  not_a_number = λ e. ap (sqrt binary64) e;
  below_zero = below_zero x;
  signed_zero = λ s e. ap (sqrt binary64) e;
  infinity = λ e. ap (sqrt binary64) e;
}
