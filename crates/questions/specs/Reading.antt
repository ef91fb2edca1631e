-- Defines what is read of a line: the name of a call, numbers, and what a call asks.
use Rattle.std.specs.Prelude.{◌≡◌, ℕ, List, [], ◌∷◌, ◌++◌, codes, Option, None, Some, MatchOption, Float}
use Rattle.text.specs.Grammar.{Parted, NoNumber}
use Rattle.text.specs.Lines.{front}
use Rattle.questions.specs.Asked.{Asked, Sqrt, Hypot, Sin, Cos, Asin, Atan2}
use Rattle.questions.specs.Asked.{Distance, Ratio, Along, Length, Frechet}
use Rattle.questions.specs.Spelling.{numbers_text, AllSized, floats, coordinates, TwoWords, Spells}
use Rattle.text.specs.declared.line.Line.{Line}

-- a line by the two words of a name and what is left after them
abbrev pub called : List ℕ → List ℕ → List ℕ → List ℕ
called family call rest = family ++ (32 ∷ (call ++ rest))

-- the line begins with two words, and `rest` is left after them
pub record NameFirst (line family call rest : List ℕ) : Type 0 where
  pub first : front family ≡ family
  pub second : front call ≡ call
  pub parted : Parted rest
  pub whole : line ≡ called family call rest

-- the line begins with the numbers xs, no number follows them, and `rest` is left
pub record NumbersFirst (line : List ℕ) (xs : List Float) (rest : List ℕ) : Type 0 where
  pub bits : List ℕ
  pub sized : AllSized bits
  pub are : floats bits ≡ xs
  pub whole : line ≡ numbers_text bits ++ rest
  pub none : NoNumber rest

-- what was read is held, and is spelled; or nothing was read, and nothing of the kind is spelled
abbrev pub Reads : {X Y : Type 0} → (X → Y) → (Y → Type 0) → Option X → Type 0
Reads {Y = Y} held Spelled o = MatchOption o ((y : Y) → Spelled y → ⊥) (λ x. Spelled (held x))

-- the call of the host with the numbers xs asks this
abbrev pub HostCall : List ℕ → List Float → Asked → Type 0
HostCall call xs (Sqrt x) = (call ≡ codes "sqrt") × (xs ≡ x ∷ [])
HostCall call xs (Hypot x y) = (call ≡ codes "hypot") × (xs ≡ x ∷ (y ∷ []))
HostCall call xs (Sin x) = (call ≡ codes "sin") × (xs ≡ x ∷ [])
HostCall call xs (Cos x) = (call ≡ codes "cos") × (xs ≡ x ∷ [])
HostCall call xs (Asin x) = (call ≡ codes "asin") × (xs ≡ x ∷ [])
HostCall call xs (Atan2 y x) = (call ≡ codes "atan2") × (xs ≡ y ∷ (x ∷ []))
HostCall call xs _ = ⊥

-- the call of the plane with the numbers xs asks this
abbrev pub PlaneCall : List ℕ → List Float → Asked → Type 0
PlaneCall call xs (Distance p q) = (call ≡ codes "distance") × (xs ≡ coordinates (p ∷ (q ∷ [])))
PlaneCall call xs (Ratio t p q) = (call ≡ codes "ratio") × (xs ≡ t ∷ coordinates (p ∷ (q ∷ [])))
PlaneCall call xs (Along d p q) = (call ≡ codes "along") × (xs ≡ d ∷ coordinates (p ∷ (q ∷ [])))
PlaneCall call xs (Length ps) = (call ≡ codes "length") × (xs ≡ coordinates ps)
PlaneCall call xs _ = ⊥

-- the text asks for the distance of two lines, which stand before a slash and after it
abbrev pub TwoLines : List ℕ → Asked → Type 0
TwoLines text (Frechet ps qs) = TwoWords text [] (coordinates ps) (coordinates qs)
TwoLines text _ = ⊥

-- no numbers after this name ask anything, of the host or of the plane
abbrev pub NoCall : List ℕ → List ℕ → Type 0
NoCall family call =
    (xs : List Float) (q : Asked) →
    (family ≡ codes "host" → HostCall call xs q → ⊥) × (family ≡ codes "euclidean" → PlaneCall call xs q → ⊥)

-- the part of a text is a line that spells q; where its bounds make no line, it spells nothing
abbrev pub SpellsAt : Option Line → Asked → Type 0
SpellsAt None q = ⊥
SpellsAt (Some l) q = Spells l.bytes.now q
