-- What the outcomes of the calls on a table share.
use Rattle.std.specs.Prelude.{◌≡◌, ℕ, ◌+◌, ◌<◌, ◌≤◌, List, length}
use Rattle.points.specs.Faults.{raised}
use Rattle.points.specs.declared.fault.Fault.{Fault}
use Rattle.points.specs.declared.fault.Cause.TheVariants.{NoEditNumber}
use Rattle.points.specs.declared.fault.Layer.TheVariants.{Table}
use Rattle.table.specs.declared.Record.{Record}
use Rattle.table.specs.declared.Head.{Head}
use Rattle.table.specs.Chains.{at}
use Rattle.points.specs.Limits.{last_edit}

-- the next edit has number e
pub record NextEdit (h : Head) (e : ℕ) : Type 0 where
  pub left : h.newest < last_edit
  pub next : e ≡ h.newest + 1

-- refusal 7: no edit number is left
pub record NoEditLeft (h : Head) (f : Fault) : Type 0 where
  pub cause : last_edit ≤ h.newest
  pub fault : f ≡ raised NoEditNumber Table

-- a refused call changes nothing
pub record Unchanged (t : List Record) (h : Head) (t' : List Record) (h' : Head) : Type 0 where
  pub table : t' ≡ t
  pub head : h' ≡ h

-- what every edit keeps: the table's length and record 0
pub record Frame (t t' : List Record) : Type 0 where
  pub size : length t' ≡ length t
  pub zeroth : at t' 0 ≡ at t 0
