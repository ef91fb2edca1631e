-- Defines the parts and the lines of a list of bytes, and the word that a line begins with.
use Rattle.std.specs.Prelude.{ℕ, ◌-◌, ◌≤◌, cond, List, [], ◌∷◌, length, take, drop, ◌==◌}

-- `from` and `to` bound a part of the bytes
pub record Inside (bytes : List ℕ) (from to : ℕ) : Type 0 where
  pub ordered : from ≤ to
  pub within : to ≤ length bytes

-- the bytes at `from` and after it, up to `to`
abbrev pub part : List ℕ → ℕ → ℕ → List ℕ
part bytes from to = take (to - from) (drop from bytes)

-- one byte more at the front of the first line
abbrev pub onto : ℕ → List (List ℕ) → List (List ℕ)
onto b [] = (b ∷ []) ∷ []
onto b (l ∷ ls) = (b ∷ l) ∷ ls

-- the lines of the bytes: each ends before LF (byte 10), or where the bytes end
unfoldable pub lines : List ℕ → List (List ℕ)
lines [] = []
lines (b ∷ bs) = cond (b == 10) ([] ∷ lines bs) (onto b (lines bs))

-- the bytes before the first space (byte 32)
unfoldable pub front : List ℕ → List ℕ
front [] = []
front (b ∷ bs) = cond (b == 32) [] (b ∷ front bs)
