-- What a settle leaves, and when it is refused.
use Rattle.std.specs.Prelude.{◌≡◌, List, map}
use Rattle.points.specs.declared.fault.Fault.{Fault}
use Rattle.table.specs.declared.Record.{Record}
use Rattle.table.specs.declared.Head.{Head}
use Rattle.table.specs.Chains.{Node}
use Rattle.table.specs.Outcomes.{Unchanged, Frame}
use Rattle.table.specs.Whole.{Checked, Whole, BadTable, line_of, free_of}

-- a record with edit number 0
abbrev pub settled : Node → Node
settled n = record { index = n.index; held = record { point = n.held.point; edit = 0 } }

-- every record of the line has edit number 0
pub record Settled (t : List Record) (h : Head) (t' : List Record) (h' : Head) : Type 0 where
  pub whole : Whole t' h'
  pub frame : Frame t t'
  pub line : line_of t' h' ≡ map settled (line_of t h)
  pub free : free_of t' h' ≡ free_of t h
  pub newest : h'.newest ≡ 0

-- an accepted settle
pub record SettleOk (t : List Record) (h : Head) (t' : List Record) (h' : Head) : Type 0 where
  pub checked : Checked t h
  pub done : Settled t h t' h'

-- a refused settle
pub record SettleErr (t : List Record) (h : Head) (f : Fault) (t' : List Record) (h' : Head) : Type 0 where
  pub same : Unchanged t h t' h'
  pub cause : BadTable t h f
