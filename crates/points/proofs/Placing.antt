-- What a result is that was given a place.
use Rattle.std.proofs.Common.{◌≡◌, ℕ, Bool, true, false, Ok, Err, Result, refl}
use Rattle.points.specs.declared.fault.Fault.{Fault}
use Rattle.points.specs.declared.fault.Cause.{Cause}
use Rattle.points.specs.declared.fault.Layer.{Layer}
use Rattle.points.specs.Faults.{ensured, at_place}

pub placed_ok : {X : Type 0} (r : Result X Fault) (n : ℕ) (x : X) → at_place r n ≡ Ok x → r ≡ Ok x
placed_ok (Ok y) n x e = e
placed_ok (Err f) n x e = absurd cc

-- what was ensured holds
pub ensured_holds : (b : Bool) (c : Cause) (l : Layer) → ensured b c l ≡ Ok tt → b ≡ true
ensured_holds true c l e = refl
ensured_holds false c l e = absurd cc
