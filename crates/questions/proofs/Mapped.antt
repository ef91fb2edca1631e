-- What `map` makes of what was read.
use Rattle.std.proofs.Common.{◌≡◌, Option, None, Some, sym}
use Rattle.std.specs.Option.{MatchOption, IsSomeAnd}
use Rattle.std.proofs.lemmas.Option.{none-some}

pub mapped : {X Z : Type 0} (read : Option X) (result : Option Z) {made : X → Z → Type 0} (f : X → Z) (becomes : Z → Type 0)
    {unread unmade : Type 0} {is : X → Type 0} →
    MatchOption read (result ≡ None) (λ x. IsSomeAnd result (made x)) → ((x : X) (z : Z) → made x z → z ≡ f x) →
    MatchOption read unread is → (unread → unmade) → ((x : X) → is x → becomes (f x)) → MatchOption result unmade becomes
mapped None None f becomes cases called was nothing value = nothing was
mapped None (Some z) f becomes cases called was nothing value = elim (none-some z (sym cases)) [ ]
mapped (Some x) None f becomes cases called was nothing value = elim cases [ ]
mapped (Some x) (Some z) f becomes cases called was nothing value = rw (called x z cases) (value x was)
