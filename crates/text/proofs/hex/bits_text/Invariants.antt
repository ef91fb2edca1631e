use Rattle.std.proofs.Common.{◌≡◌, ◌++◌, length, drop}
use Rattle.text.specs.Hex.{hex_text}
use Rattle.text.proofs.hex.bits_text.Given as goal

-- the digits of the rest would complete the text
abbrev pub invariant-loop-i : goal.invariant-loop-i
invariant-loop-i l =
    (length l.text ≡ 16)
    × (hex_text l.i l.rest ++ drop l.i l.text ≡ hex_text 16 l.n)
