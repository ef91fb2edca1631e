-- A host that reads its answers from a list of records: the first match answers.
use Rattle.std.specs.Prelude.{ℕ, Bool, cond, ◌&&◌, ◌||◌, List, None, Option, option_map, ◌==◌, from_bits, is_nan, to_bits, Float}
use Rattle.std.specs.Float.{binary64}
use Rattle.std.specs.List.{find}
use Rattle.hosts.specs.declared.host.Function.{Function}
use Rattle.hosts.specs.declared.host.Function.TheVariants.{Sqrt, Hypot, Sin, Cos, Asin, Atan2}
use Rattle.hosts.specs.declared.recorded.Recorded.{Recorded}
use Rattle.hosts.specs.Meaning.{Meaning}

abbrev pub function_number : Function → ℕ
function_number Sqrt = 1
function_number Hypot = 2
function_number Sin = 3
function_number Cos = 4
function_number Asin = 5
function_number Atan2 = 6

-- the record is of this function at arguments of these bits
abbrev pub is_for : Recorded → ℕ → ℕ → ℕ → Bool
is_for r f x y = r.function == f && r.x == x && r.y == y

-- what the first such record answers
abbrev pub first_for : List Recorded → ℕ → ℕ → ℕ → Option Float
first_for rs f x y = option_map (λ (r : Recorded). from_bits binary64 r.answer) (find (λ (r : Recorded). is_for r f x y) rs)

-- a NaN argument has no answer; +0 and -0 are two arguments, since they differ in their bits
abbrev pub recorded_answer : List Recorded → Meaning
recorded_answer rs f x y =
    cond (is_nan x || is_nan y) None (first_for rs (function_number f) (to_bits binary64 x) (to_bits binary64 y))
