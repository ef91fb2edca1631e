-- What a format leaves, and when it is refused.
use Rattle.std.specs.Prelude.{◌≡◌, ℕ, ◌+◌, ◌<◌, ◌≤◌, cond, List, length, nat_lt}
use Rattle.points.specs.Rounded.{zero64}
use Rattle.points.specs.declared.fault.Fault.{Fault}
use Rattle.table.specs.declared.Record.{Record}
use Rattle.table.specs.declared.Head.{Head}
use Rattle.table.specs.Chains.{at}
use Rattle.table.specs.Links.{freed}
use Rattle.table.specs.Whole.{Sized, Whole, BadLength}

-- record 0 of a new table
abbrev pub cleared : Record
cleared = record { x = zero64; y = zero64; next = 0; edit = 0 }

-- the index after k in a table of n records, or 0 after the last
abbrev pub follower : ℕ → ℕ → ℕ
follower n k = cond (nat_lt (k + 1) n) (k + 1) 0

-- from record 1 on all are free, in order
abbrev pub InOrder : List Record → Type 0
InOrder t = (k : ℕ) → 1 ≤ k → k < length t → at t k ≡ freed (follower (length t) k)

-- a new table and its head
pub record Formatted (t t' : List Record) (h : Head) : Type 0 where
  pub whole : Whole t' h
  pub size : length t' ≡ length t
  pub zeroth : at t' 0 ≡ cleared
  pub each : InOrder t'
  pub first : h.first ≡ 0
  pub free : h.free ≡ 1
  pub count : h.count ≡ 0
  pub newest : h.newest ≡ 0

-- an accepted format
pub record FormatOk (t t' : List Record) (h : Head) : Type 0 where
  pub sized : Sized t
  pub done : Formatted t t' h

-- a refused format changes nothing
pub record FormatErr (t t' : List Record) (f : Fault) : Type 0 where
  pub same : t' ≡ t
  pub cause : BadLength t f
