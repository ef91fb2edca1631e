-- A sum that is worked out from its last term to its first.
use Rattle.std.specs.Prelude.{ℕ, zero, suc, ◌-◌, Float}

-- `s` after the terms k = n, n - 1, .. of `f`, so many of them
abbrev pub turns : (ℕ → Float → Float) → Float → ℕ → ℕ → Float
turns f s n zero = s
turns f s n (suc j) = f (n - j) (turns f s n j)
