-- Defines which lines spell a question: a name, and numbers as 64 bits in hexadecimal capitals.
use Rattle.std.specs.Prelude.{◌≡◌, ℕ, ◌^◌, ◌<◌, List, [], ◌∷◌, ◌++◌, map, get_or, codes, from_bits, Float}
use Rattle.std.specs.Float.{binary64}
use Rattle.std.specs.Float.Ieee.{nan}
use Rattle.text.specs.Grammar.{spaced}
use Rattle.points.specs.declared.point.Point.{Point}
use Rattle.questions.specs.Asked.{Asked}
use Rattle.questions.specs.Asked as asks

-- numbers, each after a space
abbrev pub numbers_text : List ℕ → List ℕ
numbers_text [] = []
numbers_text (n ∷ ns) = spaced n ++ numbers_text ns

-- each has 64 bits
abbrev pub AllSized : List ℕ → Type 0
AllSized [] = Unit {0}
AllSized (n ∷ ns) = (n < 2 ^ 64) × AllSized ns

-- the floats of these bits
abbrev pub floats : List ℕ → List Float
floats ns = map (from_bits binary64) ns

-- the line is the name and the bits of the numbers xs
pub record Words (line name : List ℕ) (xs : List Float) : Type 0 where
  pub bits : List ℕ
  pub sized : AllSized bits
  pub are : floats bits ≡ xs
  pub whole : line ≡ name ++ numbers_text bits

-- the line is the name, the bits of the numbers xs, a slash after a space, and the bits of the numbers ys
pub record TwoWords (line name : List ℕ) (xs ys : List Float) : Type 0 where
  pub rest : List ℕ
  pub bits : List ℕ
  pub sized : AllSized bits
  pub are : floats bits ≡ xs
  pub whole : line ≡ name ++ (numbers_text bits ++ rest)
  pub second : Words rest (codes " /") ys

-- the coordinates of points, in order
abbrev pub coordinates : List Point → List Float
coordinates [] = []
coordinates (p ∷ ps) = p.x ∷ (p.y ∷ coordinates ps)

-- the point of a pair of coordinates
abbrev pub pair_point : List Float → Point
pair_point xs = record { x = get_or xs 0 nan; y = get_or xs 1 nan }

abbrev pub Spells : List ℕ → Asked → Type 0
Spells line (asks.Sqrt x) = Words line (codes "host sqrt") (x ∷ [])
Spells line (asks.Hypot x y) = Words line (codes "host hypot") (x ∷ (y ∷ []))
Spells line (asks.Sin x) = Words line (codes "host sin") (x ∷ [])
Spells line (asks.Cos x) = Words line (codes "host cos") (x ∷ [])
Spells line (asks.Asin x) = Words line (codes "host asin") (x ∷ [])
Spells line (asks.Atan2 y x) = Words line (codes "host atan2") (y ∷ (x ∷ []))
Spells line (asks.Distance p q) = Words line (codes "euclidean distance") (coordinates (p ∷ (q ∷ [])))
Spells line (asks.Ratio t p q) = Words line (codes "euclidean ratio") (t ∷ coordinates (p ∷ (q ∷ [])))
Spells line (asks.Along d p q) = Words line (codes "euclidean along") (d ∷ coordinates (p ∷ (q ∷ [])))
Spells line (asks.Length ps) = Words line (codes "euclidean length") (coordinates ps)
Spells line (asks.Frechet ps qs) = TwoWords line (codes "euclidean frechet") (coordinates ps) (coordinates qs)

-- the line spells no question
abbrev pub Unspelled : List ℕ → Type 0
Unspelled line = (q : Asked) → Spells line q → ⊥
