-- Defines the words of a line, and the commands with the line that spells each.
use Rattle.std.specs.Prelude.{◌≡◌, ℕ, ◌^◌, ◌<◌, List, [], ◌∷◌, ◌++◌, length, codes, ◌≢◌}
use Rattle.text.specs.Hex.{hex_text}
use Rattle.text.specs.Lines.{front}
use Rattle.text.specs.declared.words.Word.{Word}
use Rattle.text.specs.declared.words.Word.TheVariants.{Letter, Number}
use Rattle.text.specs.declared.command.Command.{Command}
use Rattle.text.specs.declared.command.Command.TheVariants.{Reference, Append, Compare}

-- the bytes of a word
abbrev pub word_bytes : Word → List ℕ
word_bytes (Letter bytes place) = bytes.now
word_bytes (Number bytes place) = bytes.now

-- where a word begins
abbrev pub word_place : Word → ℕ
word_place (Letter bytes place) = place
word_place (Number bytes place) = place

-- a letter has one byte, a number 16
abbrev pub WordSized : Word → Type 0
WordSized (Letter bytes place) = length bytes.now ≡ 1
WordSized (Number bytes place) = length bytes.now ≡ 16

-- nothing, or what begins with a space (byte 32)
abbrev pub Parted : List ℕ → Type 0
Parted [] = Unit {0}
Parted (b ∷ bs) = b ≡ 32

-- the line begins with the word w, which stands at `place`, and `rest` is left after it
pub record WordFirst (line : List ℕ) (place : ℕ) (w : Word) (rest : List ℕ) : Type 0 where
  pub first : word_bytes w ≡ front line
  pub sized : WordSized w
  pub placed : word_place w ≡ place
  pub whole : line ≡ word_bytes w ++ rest
  pub parted : Parted rest

-- what the line begins with is neither a letter nor a number
pub record NoWord (line : List ℕ) : Type 0 where
  pub no_letter : length (front line) ≢ 1
  pub no_number : length (front line) ≢ 16

-- a space, and the 16 capitals of n
abbrev pub spaced : ℕ → List ℕ
spaced n = codes " " ++ hex_text 16 n

-- the line begins with a space and the number n, and `rest` is left after them: nothing, or what begins with a space
pub record NumberFirst (line : List ℕ) (n : ℕ) (rest : List ℕ) : Type 0 where
  pub sized : n < 2 ^ 64
  pub whole : line ≡ spaced n ++ rest
  pub parted : Parted rest

-- the line begins with no number of 64 bits
abbrev pub NoNumber : List ℕ → Type 0
NoNumber line = (n : ℕ) → n < 2 ^ 64 → (rest : List ℕ) → Parted rest → line ≢ spaced n ++ rest

-- the numbers of a command have 64 bits
abbrev pub Sized : Command → Type 0
Sized (Reference x y) = (x < 2 ^ 64) × (y < 2 ^ 64)
Sized (Append x y) = (x < 2 ^ 64) × (y < 2 ^ 64)
Sized Compare = Unit {0}

-- the line of each command: R x y, A x y, and C
abbrev pub spelled : Command → List ℕ
spelled (Reference x y) = codes "R" ++ spaced x ++ spaced y
spelled (Append x y) = codes "A" ++ spaced x ++ spaced y
spelled Compare = codes "C"

-- the line spells no command
abbrev pub Unspelled : List ℕ → Type 0
Unspelled line = (q : Command) → Sized q → spelled q ≢ line

-- q is the command that the line spells
pub record CommandOf (line : List ℕ) (q : Command) : Type 0 where
  pub sized : Sized q
  pub whole : spelled q ≡ line
