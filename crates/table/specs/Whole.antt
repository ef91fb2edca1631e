-- When a table is whole for its head, and how a call refuses a table.
use Rattle.std.specs.Prelude.{◌≡◌, ℕ, ◌-◌, ◌<◌, ◌≤◌, ◌⊎◌, List, length}
use Rattle.points.specs.Faults.{raised}
use Rattle.points.specs.declared.fault.Fault.{Fault}
use Rattle.points.specs.declared.fault.Cause.TheVariants.{TableLength, TableNotWhole}
use Rattle.points.specs.declared.fault.Layer.TheVariants.{Table}
use Rattle.table.specs.declared.Record.{Record}
use Rattle.table.specs.declared.Head.{Head}
use Rattle.table.specs.Chains.{Chained, Node, nodes}
use Rattle.points.specs.Limits.{last_edit}
use Rattle.table.specs.Numbers.{free_number, most_records}

-- a table has from 2 to 65,536 records
pub record Sized (t : List Record) : Type 0 where
  pub least : 2 ≤ length t
  pub most : length t ≤ most_records

-- how many records are neither record 0 nor in the line
abbrev pub free_count : List Record → Head → ℕ
free_count t h = length t - 1 - h.count

-- the rules: of the line, of the free records, and of the newest edit number
pub record Whole (t : List Record) (h : Head) : Type 0 where
  pub fits : h.count < length t
  pub line : Chained t 0 h.newest h.count h.first
  pub free : Chained t free_number free_number (free_count t h) h.free
  pub latest : h.newest ≤ last_edit

-- the records of the kept line, and the free records, each in their order
abbrev pub line_of : List Record → Head → List Node
line_of t h = nodes t h.count h.first

abbrev pub free_of : List Record → Head → List Node
free_of t h = nodes t (free_count t h) h.free

-- a table that no call refuses
pub record Checked (t : List Record) (h : Head) : Type 0 where
  pub sized : Sized t
  pub whole : Whole t h

-- refusal 1: the length is out of range
pub record BadLength (t : List Record) (f : Fault) : Type 0 where
  pub cause : Sized t → ⊥
  pub fault : f ≡ raised TableLength Table

-- refusal 2: a table of the right length breaks a rule
pub record NotWhole (t : List Record) (h : Head) (f : Fault) : Type 0 where
  pub sized : Sized t
  pub cause : Whole t h → ⊥
  pub fault : f ≡ raised TableNotWhole Table

-- what every call on a formatted table refuses first
abbrev pub BadTable : List Record → Head → Fault → Type 0
BadTable t h f = BadLength t f ⊎ NotWhole t h f
