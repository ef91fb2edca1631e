-- The points of each pair written between its two records, in records from the front of the free chain.
-- Nothing is refused here: where the space refuses a point, any point would do.
use Rattle.std.specs.Prelude.{◌≡◌, ℕ, ◌+◌, ◌-◌, ◌≤◌, cond, List, [], ◌∷◌, ◌++◌, length, map, drop, Some, None, Option, Result, nat_lt, Float}
use Rattle.std.specs.List.{range_with_len}
use Rattle.std.specs.Result.{result_ok, result_unwrap_or}
use Rattle.points.specs.declared.fault.Fault.{Fault}
use Rattle.points.specs.declared.fault.Layer.TheVariants.{Table}
use Rattle.points.specs.declared.point.Point.{Point}
use Rattle.points.specs.Rounded.{zero64}
use Rattle.measures.specs.Pieces.{ratio_of, pieces_between}
use Rattle.table.specs.declared.Record.{Record}
use Rattle.table.specs.declared.Head.{Head}
use Rattle.table.specs.Append.{new_nodes}
use Rattle.table.specs.Chains.{Node}
use Rattle.table.specs.Outcomes.{Frame}
use Rattle.table.specs.Whole.{Whole, line_of, free_of, free_count}

-- what a result holds, or d
abbrev pub or_else : {X : Type 0} → X → Result X Fault → X
or_else d r = result_unwrap_or r d

abbrev pub origin : Point
origin = record { x = zero64; y = zero64 }

-- the prepared pair, where there is a point to ask for
abbrev pub pair_for : {P : Type 0} → Result P Fault → ℕ → Option P
pair_for r n = cond (nat_lt n 2) None (result_ok r)

abbrev pub part_of : {P : Type 0} → (P → Float → Result Point Fault) → Option P → Float → Point
part_of between (Some pair) t = or_else origin (between pair t)
part_of between None t = origin

-- of n pieces, the c points from point i on
abbrev pub parts_from : (Float → Result Point Fault) → ℕ → ℕ → ℕ → List Point
parts_from at n c i = map (λ k. or_else origin (at (ratio_of k n))) (range_with_len i c)

module _ (far : Point → Point → Result Float Fault) (most : Float) where
  abbrev pub pieces_in : Point → Point → ℕ
  pieces_in p q = or_else 0 (pieces_between far Table most p q)

  abbrev pub parts_in : (Point → Point → Float → Result Point Fault) → Point → Point → List Point
  parts_in ratio p q = parts_from (ratio p q) (pieces_in p q) (pieces_in p q - 1) 1

module _ (between : Point → Point → List Point) where
  -- the records behind point p, by edit e: each pair takes its records from the front of what is free
  abbrev pub woven_after : ℕ → Point → List Node → List Node → List Node
  woven_after e p [] f = []
  woven_after e p (n ∷ ns) f =
      new_nodes e f (between p n.held.point)
      ++ n ∷ woven_after e n.held.point ns (drop (length (between p n.held.point)) f)

  -- the whole line
  abbrev pub woven : ℕ → List Node → List Node → List Node
  woven e [] f = []
  woven e (n ∷ ns) f = n ∷ woven_after e n.held.point ns f

  -- how many records that takes
  abbrev pub spent_after : Point → List Node → ℕ
  spent_after p [] = 0
  spent_after p (n ∷ ns) = length (between p n.held.point) + spent_after n.held.point ns

  abbrev pub spent : List Node → ℕ
  spent [] = 0
  spent (n ∷ ns) = spent_after n.held.point ns

  abbrev pub Enough : List Record → Head → Type 0
  Enough t h = spent (line_of t h) ≤ free_count t h

  pub record Woven (t : List Record) (h : Head) (t' : List Record) (h' : Head) : Type 0 where
    pub whole : Whole t' h'
    pub frame : Frame t t'
    pub line : line_of t' h' ≡ woven (h.newest + 1) (line_of t h) (free_of t h)
    pub free : free_of t' h' ≡ drop (spent (line_of t h)) (free_of t h)
    pub newest : h'.newest ≡ h.newest + 1
