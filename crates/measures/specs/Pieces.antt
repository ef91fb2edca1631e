-- How many pieces the stretch between two neighbours is cut into, and what a densify measures, asks for and
-- inserts, pair by pair. The layer is that of the call, which refuses by 5 and 6.
use Rattle.std.specs.Prelude.{ℕ, zero, suc, ◌+◌, ◌-◌, Bool, cond, ◌&&◌, List, [], ◌∷◌, ◌++◌, length, Ok, Err, Result, from_bits, nat_le, Float}
use Rattle.std.specs.Float.Ieee.{le, lt, to_unsigned}
use Rattle.std.specs.Float.{float_is_finite, ceil, binary64}
use Rattle.points.specs.declared.fault.Cause.{Cause}
use Rattle.points.specs.declared.fault.Cause.TheVariants.{NotFinite, TooManyPieces, NoRoom}
use Rattle.points.specs.declared.fault.Fault.{Fault}
use Rattle.points.specs.declared.fault.Layer.{Layer}
use Rattle.points.specs.declared.point.Point.{Point}
use Rattle.points.specs.Faults.{raised, after, at_place, in_layer}
use Rattle.points.specs.Rounded.{◌⊗◌, ◌⊘◌, float, zero64, one64}
use Rattle.points.specs.Walks.{fits}

-- an answer without its value
abbrev pub told : {X : Type 0} → Result X Fault → Result (Unit {0}) Fault
told (Ok x) = Ok tt
told (Err f) = Err f

-- a maximum is finite and above 0
abbrev pub is_maximum : Float → Bool
is_maximum m = float_is_finite m && lt zero64 m

abbrev pub checked_maximum : Float → Result (Unit {0}) Cause
checked_maximum m = cond (is_maximum m) (Ok tt) (Err NotFinite)

-- 65,535
abbrev pub most_pieces : Float
most_pieces = from_bits binary64 0x40ef_ffe0_0000_0000

-- the quotient rounded up
abbrev pub quotient_up : Float → Float → Float
quotient_up d most = ceil binary64 (d ⊘ most)

-- as many pieces, at most 65,535; an infinite quotient is over that
abbrev pub pieces_of : Float → Float → Result ℕ Cause
pieces_of d most =
    cond (le (quotient_up d most) most_pieces) (Ok (to_unsigned 32 (quotient_up d most))) (Err TooManyPieces)

-- point k of n pieces lies at k × (1/n)
abbrev pub ratio_of : ℕ → ℕ → Float
ratio_of k n = float k ⊗ (one64 ⊘ float n)

-- the pieces between p and q: the space refuses first, then the count
abbrev pub pieces_between : (Point → Point → Result Float Fault) → Layer → Float → Point → Point
    → Result ℕ Fault
pieces_between far layer most p q = after (far p q) (λ d. in_layer (pieces_of d most) layer)

-- a count, and the points that the pairs from pair k on take, the first of them between p and the point after
-- it; n pieces take n − 1 points, and none where n is 0
abbrev pub taken_from : (Point → Point → Result Float Fault) → Layer → Float → ℕ → ℕ → Point → List Point
    → Result ℕ Fault
taken_from far layer most k count p [] = Ok count
taken_from far layer most k count p (q ∷ qs) =
    after (at_place (pieces_between far layer most p q) k)
    (λ n. taken_from far layer most (k + 1) (count + (n - 1)) q qs)

-- the points that all pairs take, in line order
abbrev pub taken : (Point → Point → Result Float Fault) → Layer → Float → List Point → Result ℕ Fault
taken far layer most [] = Ok 0
taken far layer most (p ∷ ps) = taken_from far layer most 1 0 p ps

-- room for so many points
abbrev pub room_for : ℕ → ℕ → Layer → Result (Unit {0}) Fault
room_for n room layer = cond (nat_le n room) (Ok tt) (Err (raised NoRoom layer))

-- of n pieces, the c points from point i on, each at its ratio
abbrev pub cut_from : (Float → Result Point Fault) → ℕ → ℕ → ℕ → Result (List Point) Fault
cut_from at n zero i = Ok []
cut_from at n (suc c) i = after (at (ratio_of i n)) (λ x. after (cut_from at n c (i + 1)) (λ xs. Ok (x ∷ xs)))

module _ (far : Point → Point → Result Float Fault) (ratio : Point → Point → Float → Result Point Fault)
    (layer : Layer) (most : Float) where
  -- the points between two neighbours
  abbrev pub points_between : Point → Point → Result (List Point) Fault
  points_between p q = after (pieces_between far layer most p q) (λ n. cut_from (ratio p q) n (n - 1) 1)

  -- the pairs from pair k on, each with its points put in
  abbrev pub refined_from : ℕ → Point → List Point → Result (List Point) Fault
  refined_from k p [] = Ok []
  refined_from k p (q ∷ qs) =
      after (at_place (points_between p q) k)
      (λ xs. after (refined_from (k + 1) q qs) (λ rest. Ok (xs ++ q ∷ rest)))

  -- the line with the points of each pair put in
  abbrev pub refined : List Point → Result (List Point) Fault
  refined [] = Ok []
  refined (p ∷ ps) = after (refined_from 1 p ps) (λ rest. Ok (p ∷ rest))

  -- what a densify with room for so many points makes of a line: all pairs are measured, then the room is
  -- looked at, and then the points are asked for
  abbrev pub densified : ℕ → List Point → Result (List Point) Fault
  densified room ps =
      after (taken far layer most ps) (λ n. after (room_for n room layer) (λ _. refined ps))

  -- the same of a given line, whose count is looked at first
  abbrev pub densified_by : ℕ → List Point → Result (List Point) Fault
  densified_by room ps = after (in_layer (fits (length ps)) layer) (λ _. densified room ps)
