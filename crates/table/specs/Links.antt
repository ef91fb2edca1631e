-- The single writes of which every edit is made.
use Rattle.std.specs.Prelude.{ℕ, ◌+◌, ◌-◌, cond, List, ◌==◌, slice_set}
use Rattle.points.specs.Rounded.{zero64}
use Rattle.points.specs.declared.point.Point.{Point}
use Rattle.table.specs.declared.Record.{Record}
use Rattle.table.specs.declared.Head.{Head}
use Rattle.table.specs.Chains.{at}
use Rattle.table.specs.Numbers.{free_number}

-- a free record that leads on to k
abbrev pub freed : ℕ → Record
freed k = record { x = zero64; y = zero64; next = k; edit = free_number }

-- a record that holds p, put there by edit e
abbrev pub filled : Point → ℕ → ℕ → Record
filled p k e = record { x = p.x; y = p.y; next = k; edit = e }

-- a record with another link, and one with another edit number
abbrev pub linked : Record → ℕ → Record
linked r k = record { x = r.x; y = r.y; next = k; edit = r.edit }

abbrev pub numbered : Record → ℕ → Record
numbered r e = record { x = r.x; y = r.y; next = r.next; edit = e }

-- the link behind `before` goes to k: that record's own, or the head's where `before` is 0
abbrev pub link_table : List Record → ℕ → ℕ → List Record
link_table t before k = cond (before == 0) t (slice_set t before (linked (at t before) k))

abbrev pub link_first : ℕ → ℕ → ℕ → ℕ
link_first first before k = cond (before == 0) k first

abbrev pub link_head : Head → ℕ → ℕ → Head
link_head h before k =
    record { first = link_first h.first before k; free = h.free; count = h.count; newest = h.newest }

-- the head with another newest edit
abbrev pub newest_head : Head → ℕ → Head
newest_head h e = record { first = h.first; free = h.free; count = h.count; newest = e }

-- record `here`, which followed `before`, has left the line for the front of the free chain
abbrev pub released_table : List Record → Head → ℕ → ℕ → List Record
released_table t h before here = slice_set (link_table t before (at t here).next) here (freed h.free)

abbrev pub released_head : List Record → Head → ℕ → ℕ → Head
released_head t h before here = record {
  first = link_first h.first before (at t here).next;
  free = here;
  count = h.count - 1;
  newest = h.newest;
}

-- the first free record has come into the line with p, between `before` and `here`
abbrev pub inserted_table : List Record → Head → ℕ → ℕ → Point → ℕ → List Record
inserted_table t h before here p e = link_table (slice_set t h.free (filled p here e)) before h.free

abbrev pub inserted_head : List Record → Head → ℕ → Head
inserted_head t h before = record {
  first = link_first h.first before h.free;
  free = (at t h.free).next;
  count = h.count + 1;
  newest = h.newest;
}
