-- What an undo leaves, and when it is refused.
use Rattle.std.specs.Prelude.{◌≡◌, ℕ, ◌-◌, ◌<◌, cond, ◌⊎◌, List, [], ◌∷◌, filter, nat_lt}
use Rattle.points.specs.Faults.{raised}
use Rattle.points.specs.declared.fault.Fault.{Fault}
use Rattle.points.specs.declared.fault.Cause.TheVariants.{NothingToUndo}
use Rattle.points.specs.declared.fault.Layer.TheVariants.{Table}
use Rattle.table.specs.declared.Record.{Record}
use Rattle.table.specs.declared.Head.{Head}
use Rattle.table.specs.Chains.{Node, held_in}
use Rattle.table.specs.Links.{freed}
use Rattle.table.specs.Outcomes.{Unchanged, Frame}
use Rattle.table.specs.Whole.{Checked, Whole, BadTable, line_of, free_of}

-- the records put there before edit e
abbrev pub nodes_before : ℕ → List Node → List Node
nodes_before e ns = filter (λ n. nat_lt n.held.edit e) ns

-- the other records, zeroed, each in its turn put before the free ones
abbrev pub freed_since : ℕ → List Node → List Node → List Node
freed_since e [] f = f
freed_since e (n ∷ ns) f =
    cond (nat_lt n.held.edit e) (freed_since e ns f)
    (freed_since e ns (record { index = n.index; held = held_in (freed 0) } ∷ f))

-- the newest edit's records are free now, and all others keep their order
pub record Undone (t : List Record) (h : Head) (t' : List Record) (h' : Head) : Type 0 where
  pub whole : Whole t' h'
  pub frame : Frame t t'
  pub line : line_of t' h' ≡ nodes_before h.newest (line_of t h)
  pub free : free_of t' h' ≡ freed_since h.newest (line_of t h) (free_of t h)
  pub newest : h'.newest ≡ h.newest - 1

-- an accepted undo
pub record UndoOk (t : List Record) (h : Head) (t' : List Record) (h' : Head) : Type 0 where
  pub checked : Checked t h
  pub some : 0 < h.newest
  pub done : Undone t h t' h'

-- refusal 8: there is no edit to take back
pub record NoEdit (t : List Record) (h : Head) (f : Fault) : Type 0 where
  pub checked : Checked t h
  pub cause : h.newest ≡ 0
  pub fault : f ≡ raised NothingToUndo Table

-- a refused undo
pub record UndoErr (t : List Record) (h : Head) (f : Fault) (t' : List Record) (h' : Head) : Type 0 where
  pub same : Unchanged t h t' h'
  pub cause : BadTable t h f ⊎ NoEdit t h f
