-- What an append leaves, and when it is refused.
use Rattle.std.specs.Prelude.{◌≡◌, ℕ, ◌+◌, ◌<◌, ◌≤◌, ◌⊎◌, List, [], ◌∷◌, ◌++◌, length, drop}
use Rattle.points.specs.Faults.{raised, placed}
use Rattle.points.specs.Finite.{first_unfit}
use Rattle.points.specs.declared.fault.Fault.{Fault}
use Rattle.points.specs.declared.fault.Cause.TheVariants.{NotFinite, NoEditNumber, NoRoom}
use Rattle.points.specs.declared.fault.Layer.TheVariants.{Table}
use Rattle.points.specs.declared.point.Point.{Point}
use Rattle.table.specs.declared.Record.{Record}
use Rattle.table.specs.declared.Head.{Head}
use Rattle.table.specs.Chains.{Node}
use Rattle.points.specs.Limits.{last_edit}
use Rattle.table.specs.Outcomes.{Unchanged, Frame}
use Rattle.table.specs.Whole.{Checked, Whole, BadTable, line_of, free_of, free_count}

-- the index of the last record of a chain, or d where there is none
abbrev pub last_index : ℕ → List Node → ℕ
last_index d [] = d
last_index d (n ∷ ns) = last_index n.index ns

-- free records taken for these points, in order, by edit e
abbrev pub new_nodes : ℕ → List Node → List Point → List Node
new_nodes e f [] = []
new_nodes e [] (p ∷ ps) = []
new_nodes e (n ∷ f) (p ∷ ps) =
    record { index = n.index; held = record { point = p; edit = e } } ∷ new_nodes e f ps

-- records from the front of the free chain hold the points, in order, behind the line's records
pub record Appended (t : List Record) (h : Head) (ps : List Point) (t' : List Record) (h' : Head)
    : Type 0 where
  pub whole : Whole t' h'
  pub frame : Frame t t'
  pub line : line_of t' h' ≡ line_of t h ++ new_nodes (h.newest + 1) (free_of t h) ps
  pub free : free_of t' h' ≡ drop (length ps) (free_of t h)
  pub newest : h'.newest ≡ h.newest + 1

-- there is a free record for each point
abbrev pub HasRoom : List Record → Head → List Point → Type 0
HasRoom t h ps = length ps ≤ free_count t h

-- an accepted append: every check is passed
pub record AppendOk (t : List Record) (h : Head) (ps : List Point) (t' : List Record) (h' : Head)
    : Type 0 where
  pub checked : Checked t h
  pub fit : first_unfit 0 ps ≡ 0
  pub left : h.newest < last_edit
  pub room : HasRoom t h ps
  pub done : Appended t h ps t' h'

-- the fault of the point at this place
pub record NotFiniteAt (place : ℕ) (f : Fault) : Type 0 where
  pub cause : 0 < place
  pub fault : f ≡ placed place (raised NotFinite Table)

-- refusal 3: a coordinate is not finite
pub record Unfit (t : List Record) (h : Head) (ps : List Point) (f : Fault) : Type 0 where
  pub checked : Checked t h
  pub first : NotFiniteAt (first_unfit 0 ps) f

-- refusal 7: no edit number is left
pub record NoNumber (t : List Record) (h : Head) (ps : List Point) (f : Fault) : Type 0 where
  pub checked : Checked t h
  pub fit : first_unfit 0 ps ≡ 0
  pub cause : h.newest ≡ last_edit
  pub fault : f ≡ raised NoEditNumber Table

-- refusal 6: there are fewer free records than points
pub record TooFewFree (t : List Record) (h : Head) (ps : List Point) (f : Fault) : Type 0 where
  pub checked : Checked t h
  pub fit : first_unfit 0 ps ≡ 0
  pub left : h.newest < last_edit
  pub cause : HasRoom t h ps → ⊥
  pub fault : f ≡ raised NoRoom Table

-- a refused append: the first check that fails gives the cause
pub record AppendErr (t : List Record) (h : Head) (ps : List Point) (f : Fault)
    (t' : List Record) (h' : Head) : Type 0 where
  pub same : Unchanged t h t' h'
  pub cause : BadTable t h f ⊎ Unfit t h ps f ⊎ NoNumber t h ps f ⊎ TooFewFree t h ps f
