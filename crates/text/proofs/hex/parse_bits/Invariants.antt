use Rattle.std.proofs.Common.{◌≡◌, ◌*◌, ◌^◌, ◌<◌, take}
use Rattle.text.specs.Hex.{hex_text}
use Rattle.text.proofs.hex.parse_bits.Given as goal

-- n is the number that the digits so far spell
abbrev pub invariant-loop-b : goal.invariant-loop-b
invariant-loop-b l = (l.n < 2 ^ (4 * l.b-index)) × (hex_text l.b-index l.n ≡ take l.b-index l.s)
