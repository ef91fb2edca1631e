-- Chains of records: each record leads on to the next, and index 0 ends the chain.
use Rattle.std.specs.Prelude.{◌≡◌, ℕ, zero, suc, ◌<◌, ◌≤◌, cond, ◌&&◌, List, [], ◌∷◌, length, Some, None, Option, nat_le, nat_lt, slice_index_or}
use Rattle.std.specs.Float.{nan}
use Rattle.points.specs.declared.point.Point.{Point}
use Rattle.table.specs.declared.Record.{Record}

-- what a read past the end of a table would give
abbrev pub blank : Record
blank = record { x = nan; y = nan; next = 0; edit = 0 }

abbrev pub at : List Record → ℕ → Record
at t i = slice_index_or t i blank

-- the chain from i ends after exactly n records, each past record 0 and with an edit number from lo to hi
abbrev pub Chained : List Record → ℕ → ℕ → ℕ → ℕ → Type 0
Chained t lo hi zero i = i ≡ 0
Chained t lo hi (suc n) i =
    (1 ≤ i) × (i < length t) × (lo ≤ (at t i).edit) × ((at t i).edit ≤ hi) × Chained t lo hi n (at t i).next

-- the link of a record that such a chain may go through
abbrev pub next_in_chain : List Record → ℕ → ℕ → ℕ → Option ℕ
next_in_chain t lo hi i =
    cond (nat_le 1 i && nat_lt i (length t) && nat_le lo (at t i).edit && nat_le (at t i).edit hi)
    (Some (at t i).next) None

-- the index after n steps from i
abbrev pub index_at : List Record → ℕ → ℕ → ℕ
index_at t i zero = i
index_at t i (suc n) = index_at t (at t i).next n

abbrev pub point_in : Record → Point
point_in r = record { x = r.x; y = r.y }

-- what a record holds besides its link: a point and the number of the edit that put it there
pub record Held : Type 0 where
  pub point : Point
  pub edit : ℕ

abbrev pub held_in : Record → Held
held_in r = record { point = point_in r; edit = r.edit }

-- a record of a chain: its index, and what it holds
pub record Node : Type 0 where
  pub index : ℕ
  pub held : Held

-- the first n records of the chain from i
abbrev pub nodes : List Record → ℕ → ℕ → List Node
nodes t zero i = []
nodes t (suc n) i = record { index = i; held = held_in (at t i) } ∷ nodes t n (at t i).next
