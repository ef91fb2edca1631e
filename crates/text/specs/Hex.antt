-- Defines how a number is written in hexadecimal capitals.
use Rattle.std.specs.Prelude.{ℕ, zero, suc, ◌+◌, ◌/◌, ◌%◌, cond, List, [], ◌∷◌, ◌++◌, nat_lt}

-- the capital of a digit below 16: 0 to 9 (from byte 48 on), then A to F (from byte 65 on)
abbrev pub hex_char : ℕ → ℕ
hex_char d = cond (nat_lt d 10) (48 + d) (55 + d)

-- the last k hexadecimal digits of n, the highest first
unfoldable pub hex_text : ℕ → ℕ → List ℕ
hex_text zero n = []
hex_text (suc k) n = hex_text k (n / 16) ++ (hex_char (n % 16) ∷ [])
