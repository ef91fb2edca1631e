-- What `then_some` gives, by its test.
use Rattle.std.proofs.Common.{Bool, true, false, IsTrue, refl, MatchOption}
use Rattle.std.specs.Bool.{then_some}

pub some_if : {A : Type 0} (b : Bool) (x : A) (P : Type 0) (Q : A → Type 0) →
    (IsTrue b → Q x) → ((IsTrue b → ⊥) → P) → MatchOption (then_some b x) P Q
some_if true x P Q holds fails = holds refl
some_if false x P Q holds fails = fails (λ e. cc)
