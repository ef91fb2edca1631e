-- Lines that some coupling keeps near, and the discrete Fréchet distance as how near that is at best.
use Rattle.std.specs.Prelude.{◌≡◌, List, Bool, ◌<◌, T, length}
use Rattle.couplings.specs.Coupling.{Pair, IsCoupling, Among, Each, Some, apart}
use Rattle.couplings.specs.Rows.{Ordered, answer}

-- a distance between points, and the order of its values
pub record Measure (P V : Type 0) : Type 0 where
  pub ok : V → Bool
  pub le : V → V → Bool
  pub lt : V → V → Bool
  pub ordered : Ordered V ok le lt
  -- the answer of an empty line, and the point past a line's end
  pub zero : V
  pub point : P
  pub distance : P → P → V

module _ {P V : Type 0} (S : Measure P V) where
  -- the discrete Fréchet distance of the lines, by the table
  abbrev pub answers : List P → List P → V
  answers A B = answer S.lt S.zero S.distance A B

  -- `a` is at most `b`
  abbrev pub AtMost : V → V → Type 0
  AtMost a b = T (S.le a b)

  -- how far apart the points of a pair are
  abbrev pub apart_in : List P → List P → Pair → V
  apart_in A B p = apart S.distance S.point A B p

  -- some coupling of the lines keeps each of its pairs within `r`
  abbrev pub Near : List P → List P → V → Type 0
  Near A B r =
      (pairs : List Pair) × IsCoupling (length A) (length B) pairs × Each (λ p. AtMost (apart_in A B p) r) pairs

  -- every coupling of the lines has a pair at least `r` apart
  abbrev pub Far : List P → List P → V → Type 0
  Far A B r =
      (pairs : List Pair) → IsCoupling (length A) (length B) pairs → Some (λ p. AtMost r (apart_in A B p)) pairs

  -- each distance from a point of the one line to a point of the other is a value of the order
  abbrev pub Measured : List P → List P → Type 0
  Measured A B = (a b : P) → Among a A → Among b B → T (S.ok (S.distance a b))

  -- each distance from a point of the one line to a point of the other is the same from the other side
  abbrev pub Mutual : List P → List P → Type 0
  Mutual A B = (a b : P) → Among a A → Among b B → S.distance a b ≡ S.distance b a

  -- a point within `r` of a second that is within `s` of a third is within `t` of the third
  abbrev pub Triangle : List P → List P → List P → V → V → V → Type 0
  Triangle A B C r s t =
      (a b c : P) → Among a A → Among b B → Among c C
      → AtMost (S.distance a b) r → AtMost (S.distance b c) s → AtMost (S.distance a c) t

-- some coupling keeps every pair within the answer, and every coupling has a pair at least the answer apart
abbrev pub CouplingBound : (P V : Type 0) → Type 0
CouplingBound P V =
    (S : Measure P V) (A B : List P) → 0 < length A → 0 < length B → Measured S A B
    → Near S A B (answers S A B) × Far S A B (answers S A B)

-- nearness passes on: a coupling within `r` and one within `s` make one within `t`
abbrev pub NearnessPasses : (P V : Type 0) → Type 0
NearnessPasses P V =
    (S : Measure P V) (A B C : List P) (r s t : V)
    → Triangle S A B C r s t → Near S A B r → Near S B C s → Near S A C t
