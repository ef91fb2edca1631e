-- Couplings of two lines of points, as Eiter and Mannila define them
-- ("Computing Discrete Fréchet Distance", 1994).
use Rattle.std.specs.Prelude.{◌≡◌, List, [], ◌∷◌, ◌⊎◌, ℕ, ◌+◌, get_or}

-- a place in the one line and a place in the other, counted from 0
abbrev pub Pair : Type 0
Pair = ℕ × ℕ

-- a step goes on by one place in the first line, in the second, or in both
pub data Step (p q : Pair) : Type 0 where
  first : q.0 ≡ p.0 + 1 → q.1 ≡ p.1 → Step p q
  second : q.0 ≡ p.0 → q.1 ≡ p.1 + 1 → Step p q
  both : q.0 ≡ p.0 + 1 → q.1 ≡ p.1 + 1 → Step p q

-- from the pair `p` by steps through the pairs that follow, to the last places of lines of `m` and `n` points
abbrev pub Walk : (m n : ℕ) → Pair → List Pair → Type 0
Walk m n p [] = (p.0 + 1 ≡ m) × (p.1 + 1 ≡ n)
Walk m n p (q ∷ qs) = Step p q × Walk m n q qs

-- a coupling of lines of `m` and `n` points: pairs from the two first places, by steps, to the two last
abbrev pub IsCoupling : (m n : ℕ) → List Pair → Type 0
IsCoupling m n [] = ⊥
IsCoupling m n (p ∷ ps) = (p ≡ (0, 0)) × Walk m n p ps

-- `x` is an element of the list
abbrev pub Among : {A : Type 0} → A → List A → Type 0
Among x [] = ⊥
Among x (y ∷ ys) = (x ≡ y) ⊎ Among x ys

-- each element of the list is such
abbrev pub Each : {A : Type 0} → (A → Type 0) → List A → Type 0
Each {A} Q xs = (x : A) → Among x xs → Q x

-- some element of the list is such
abbrev pub Some : {A : Type 0} → (A → Type 0) → List A → Type 0
Some {A} Q xs = (x : A) × Among x xs × Q x

-- what `d` says of the two points of a pair, as how far apart they are; `o` is read past a line's end
abbrev pub apart : {P V : Type 0} → (P → P → V) → P → List P → List P → Pair → V
apart d o A B p = d (get_or A p.0 o) (get_or B p.1 o)
