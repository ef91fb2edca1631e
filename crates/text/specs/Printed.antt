-- Defines the bytes of each printed line.
use Rattle.std.specs.Prelude.{ℕ, List, ◌++◌, codes, decimal}
use Rattle.text.specs.Grammar.{spaced}
use Rattle.text.specs.declared.printed.Letter.{Letter}
use Rattle.text.specs.declared.printed.Letter.TheVariants.{R, A, C}

-- the letter of a command
abbrev pub letter_text : Letter → List ℕ
letter_text R = codes "R"
letter_text A = codes "A"
letter_text C = codes "C"

-- a letter, a space, and a number in decimal
abbrev pub status_text : Letter → ℕ → List ℕ
status_text l n = letter_text l ++ codes " " ++ decimal n

-- the answer to a line that spells no command: `? 14 `, and a number in decimal
abbrev pub malformed_text : ℕ → List ℕ
malformed_text n = codes "? 14 " ++ decimal n

-- a letter, a space, and a number in 16 hexadecimal capitals
abbrev pub bits_text : Letter → ℕ → List ℕ
bits_text l n = letter_text l ++ spaced n
