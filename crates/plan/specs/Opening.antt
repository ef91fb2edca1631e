-- What an open leaves, and when it is refused.
use Rattle.std.specs.Prelude.{◌≡◌, ℕ, ◌⊎◌, List, None, Ok, Err}
use Rattle.points.specs.Faults.{raised}
use Rattle.points.specs.Walks.{fits}
use Rattle.points.specs.declared.fault.Fault.{Fault}
use Rattle.points.specs.declared.fault.Cause.TheVariants.{NoRoom}
use Rattle.points.specs.declared.fault.Layer.TheVariants.{Table}
use Rattle.table.specs.declared.Record.{Record}
use Rattle.table.specs.declared.Head.{Head}
use Rattle.table.specs.Whole.{Checked, BadTable}
use Rattle.plan.specs.declared.comparison.Comparison.{Comparison}
use Rattle.plan.specs.declared.comparison.Refused.{Refused}
use Rattle.plan.specs.Rows.{progress}

-- a reference of n points is counted
pub record Counted (t : List Record) (h : Head) (n count : ℕ) : Type 0 where
  pub checked : Checked t h
  pub short : fits n ≡ Ok n
  pub is : count ≡ n

-- refusal 6: the reference has too many points
pub record TooLong (t : List Record) (h : Head) (n : ℕ) (f : Fault) : Type 0 where
  pub checked : Checked t h
  pub cause : fits n ≡ Err NoRoom
  pub fault : f ≡ raised NoRoom Table

-- an accepted open: the comparison has the head and no rows
pub record OpenOk (t : List Record) (h : Head) (n : ℕ) (c : Comparison) : Type 0 where
  pub checked : Checked t h
  pub short : fits n ≡ Ok n
  pub head : c.head ≡ h
  pub begun : progress c ≡ record { reference = n; done = 0; last = None }

-- a refused open: the head comes back
pub record OpenErr (t : List Record) (h : Head) (n : ℕ) (e : Refused) : Type 0 where
  pub head : e.head ≡ h
  pub cause : BadTable t h e.fault ⊎ TooLong t h n e.fault
