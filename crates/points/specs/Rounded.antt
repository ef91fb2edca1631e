-- The operations of binary64, each rounded to nearest with ties to even as IEEE 754 has it, and a few constants.
use Rattle.std.specs.Prelude.{ℕ, false, pos, from_bits, Float}
use Rattle.std.specs.Float.{binary64}
use Rattle.std.specs.Float.Ieee.{add, sub, mul, div, of_int}
use Rattle.std.specs.Float as Floats

infixl 20 ◌⊕◌ ◌⊖◌
infixl 30 ◌⊗◌ ◌⊘◌
abbrev pub ◌⊕◌ : Float → Float → Float
x ⊕ y = add binary64 x y

abbrev pub ◌⊖◌ : Float → Float → Float
x ⊖ y = sub binary64 x y

abbrev pub ◌⊗◌ : Float → Float → Float
x ⊗ y = mul binary64 x y

abbrev pub ◌⊘◌ : Float → Float → Float
x ⊘ y = div binary64 x y

-- the square root
abbrev pub root : Float → Float
root = Floats.sqrt binary64

-- the magnitude
abbrev pub size : Float → Float
size = Floats.float_with_sign false

-- the float of a whole number
abbrev pub float : ℕ → Float
float n = of_int binary64 (pos n)

-- +0 and 1
abbrev pub zero64 : Float
zero64 = from_bits binary64 0

abbrev pub one64 : Float
one64 = from_bits binary64 0x3ff0_0000_0000_0000
