-- The order of the floats that are numbers.
use Rattle.std.proofs.Common.{Bool, not}
use lib.Ieee.{Float, is_nan, le, lt}
use Rattle.std.proofs.lemmas.Float.{le_refl, le_trans, le_of_lt, le_of_not-lt, T_from_true, T_from_false}
use Rattle.couplings.specs.Rows.{Ordered}

abbrev pub is_number : Float → Bool
is_number x = not (is_nan x)

pub floats_ordered : Ordered Float is_number le lt
floats_ordered = record {
  same = le_refl;
  on = λ a b c p q r. le_trans a b c;
  before = λ a b p q e. le_of_lt a b (T_from_true (lt a b) e);
  not_before = λ a b p q e. le_of_not-lt a b p q (T_from_false (lt a b) e);
}
