-- What a densify leaves, and when it is refused.
use Rattle.std.specs.Prelude.{◌≡◌, ℕ, ◌+◌, cond, ◌⊎◌, List, [], Ok, Err, Result, nat_lt, Float}
use Rattle.points.specs.Faults.{raised, after, in_layer}
use Rattle.points.specs.declared.fault.Cause.TheVariants.{NoEditNumber}
use Rattle.points.specs.declared.fault.Fault.{Fault}
use Rattle.points.specs.declared.fault.Layer.TheVariants.{Table}
use Rattle.points.specs.declared.point.Point.{Point}
use Rattle.measures.specs.Pieces.{checked_maximum, points_between, densified}
use Rattle.table.specs.declared.Record.{Record}
use Rattle.table.specs.declared.Head.{Head}
use Rattle.table.specs.Lines.{kept_line}
use Rattle.points.specs.Limits.{last_edit}
use Rattle.table.specs.Outcomes.{Unchanged}
use Rattle.table.specs.Weave.{or_else, Woven}
use Rattle.table.specs.Whole.{Checked, BadTable, free_count}

-- the number of the edit after the newest, if one is left
abbrev pub edit_after : ℕ → Result ℕ Fault
edit_after newest = cond (nat_lt newest last_edit) (Ok (newest + 1)) (Err (raised NoEditNumber Table))

module _ (far : Point → Point → Result Float Fault) (ratio : Point → Point → Float → Result Point Fault)
    (maximum : Float) where
  -- what a densify makes of a line, with so many records free: refused by 3, 7, the first pair that is
  -- refused, 6 or the first point that is refused, in that order
  abbrev pub densified_line : ℕ → ℕ → List Point → Result (List Point) Fault
  densified_line newest room ps =
      after (in_layer (checked_maximum maximum) Table)
      (λ _. after (edit_after newest) (λ _. densified far ratio Table maximum room ps))

  -- what it makes of the kept line
  abbrev pub outcome : List Record → Head → Result (List Point) Fault
  outcome t h = densified_line h.newest (free_count t h) (kept_line t h)

  -- the points between neighbours p and q, of which none is refused
  abbrev pub inserted : Point → Point → List Point
  inserted p q = or_else [] (points_between far ratio Table maximum p q)

  -- an accepted densify: the points of each pair stand between its records, in records from the front of the
  -- free chain
  pub record DensifyOk (t : List Record) (h : Head) (t' : List Record) (h' : Head) : Type 0 where
    pub checked : Checked t h
    pub points : outcome t h ≡ Ok (kept_line t' h')
    pub done : Woven inserted t h t' h'

  -- refusals 3, 4, 5, 6, 7, 9 and 10
  pub record Refused (t : List Record) (h : Head) (f : Fault) : Type 0 where
    pub checked : Checked t h
    pub cause : outcome t h ≡ Err f

  -- a refused densify
  pub record DensifyErr (t : List Record) (h : Head) (f : Fault) (t' : List Record) (h' : Head) : Type 0 where
    pub same : Unchanged t h t' h'
    pub cause : BadTable t h f ⊎ Refused t h f
