use Rattle.std.proofs.Common.{◌≡◌, ℕ, List, ◌++◌, length, vec_items}
use Rattle.questions.specs.Spelling.{numbers_text, AllSized, floats}
use Rattle.questions.proofs.arguments.split_numbers.Given as goal

-- the numbers so far stand before what is left
abbrev pub invariant-loop-bits : goal.invariant-loop-bits
invariant-loop-bits l =
    (ns : List ℕ) × AllSized ns
    × (floats ns ≡ vec_items l.numbers)
    × (l.line.bytes.now ≡ numbers_text ns ++ l.rest.bytes.now)

abbrev pub decreases-loop-bits : goal.decreases-loop-bits
decreases-loop-bits l = length l.rest.bytes.now
