-- What a reader gives, up to a limit.
use Rattle.std.proofs.Common.{◌≡◌, ℕ, List, take, ap, ◌∙◌, arith, Option, None, Some, IfSome}
use Rattle.std.specs.Option.{option_map}
use Rattle.std.proofs.lemmas.List.{take-take}

pub limited : (known : Option (List ℕ)) (n limit : ℕ) (given kept : List ℕ) → limit ≡ n →
    IfSome (option_map (take limit) known) (λ xs. given ≡ xs) → kept ≡ take n given → IfSome known (λ xs. kept ≡ take n xs)
limited None n limit given kept same read cut = tt
limited (Some xs) n limit given kept same read cut =
    cut ∙ ap (take n) (read ∙ ap (λ l. take l xs) same) ∙ take-take n n xs (omega arith)
