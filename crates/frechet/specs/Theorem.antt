-- What the answer means: it is the least, over all couplings, of the distance of the farthest pair; and nearness passes on.
use Rattle.std.specs.Prelude.{◌≡◌, ◌<◌, T, ◌⊎◌, List, length, Ok, Err, Result, slice_index_or, Float}
use Rattle.std.specs.Float.{nan}
use Rattle.std.specs.Float.Ieee.{le}
use Rattle.couplings.specs.Coupling.{Pair, IsCoupling, Among, Each, Some}
use Rattle.points.specs.declared.fault.Fault.{Fault}
use Rattle.points.specs.declared.point.Point.{Point}
use Rattle.frechet.specs.Table.{longer, shorter, frechet}

-- the distance was answered, and is at most d, or at least d
abbrev pub NoMore : Float → Result Float Fault → Type 0
NoMore d (Ok v) = T (le v d)
NoMore d (Err f) = ⊥

abbrev pub NoLess : Float → Result Float Fault → Type 0
NoLess d (Ok v) = T (le d v)
NoLess d (Err f) = ⊥

-- read past a line's end, which no pair of a coupling does
abbrev pub nowhere : Point
nowhere = record { x = nan; y = nan }

-- how far apart the two points of a pair are
abbrev pub apart : (Point → Point → Result Float Fault) → List Point → List Point → Pair → Result Float Fault
apart far X Y p = far (slice_index_or X p.0 nowhere) (slice_index_or Y p.1 nowhere)

-- some coupling of X and Y has no pair farther apart than d, and every coupling has a pair at least d apart
pub record Coupled (far : Point → Point → Result Float Fault) (X Y : List Point) (d : Float) : Type 0 where
  pub some : (pairs : List Pair) × IsCoupling (length X) (length Y) pairs
      × Each (λ p. NoMore d (apart far X Y p)) pairs
  pub every : (pairs : List Pair) → IsCoupling (length X) (length Y) pairs
      → Some (λ p. NoLess d (apart far X Y p)) pairs

-- an answer for two lines with points; the space is asked from the longer line's point to the shorter's
abbrev pub LeastOverCouplings : (Point → Point → Result Float Fault) → List Point → List Point
    → Result Float Fault → Type 0
LeastOverCouplings far A B (Ok d) = 0 < length A → 0 < length B → Coupled far (longer A B) (shorter A B) d
LeastOverCouplings far A B (Err f) = Unit {0}

-- d is what some call answers for the two lines, in one order or the other
abbrev pub Answers : (Point → Point → Result Float Fault) → List Point → List Point → Float → Type 0
Answers far A B d =
    (cells : List Float) × (((frechet far A B cells).result ≡ Ok d) ⊎ ((frechet far B A cells).result ≡ Ok d))

-- distances agree both ways
abbrev pub Mutual : (Point → Point → Result Float Fault) → List Point → List Point → Type 0
Mutual far A B = (a b : Point) → Among a A → Among b B → far a b ≡ far b a

-- where A and B answer r, B and C answer s and A and C answer u, u is at most t, for every t such that a at most r from
-- b and b at most s from c puts a at most t from c
abbrev pub NearnessPasses : (Point → Point → Result Float Fault) → Type 0
NearnessPasses far =
    (A B C : List Point) (r s u t : Float) → 0 < length A → 0 < length B → 0 < length C
    → Mutual far A B → Mutual far B C → Mutual far A C
    → Answers far A B r → Answers far B C s → Answers far A C u
    → ((a b c : Point) → Among a A → Among b B → Among c C
    → NoMore r (far a b) → NoMore s (far b c) → NoMore t (far a c))
    → T (le u t)

-- the answer is the same whatever the cells held
abbrev pub WhateverCellsHeld : (Point → Point → Result Float Fault) → List Point → List Point → List Float
    → Result Float Fault → Type 0
WhateverCellsHeld far A B cells r = (held : List Float) → length held ≡ length cells
    → (frechet far A B held).result ≡ r
