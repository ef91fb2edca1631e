-- The moves keep the table's length and record 0.
use Rattle.std.proofs.Common.{◌≡◌, ℕ, ◌≤◌, ◌≢◌, List, set, refl, ◌∙◌, ⊎_elim, arith, length-set, get_or-set_other, ne_eqb}
use Rattle.std.proofs.lemmas.Bool.{cases_lt}
use Rattle.table.specs.declared.Record.{Record}
use Rattle.table.specs.Chains.{at, blank}
use Rattle.table.specs.Links.{freed, linked, link_table}
use Rattle.table.specs.Outcomes.{Frame}

pub kept_refl : (t : List Record) → Frame t t
kept_refl t = record { size = refl; zeroth = refl }

pub kept_then : (t t1 t2 : List Record) → Frame t t1 → Frame t1 t2 → Frame t t2
kept_then t t1 t2 p q = record { size = q.size ∙ p.size; zeroth = q.zeroth ∙ p.zeroth }

pub kept_set : (t : List Record) (k : ℕ) (r : Record) → 1 ≤ k → Frame t (set t k r)
kept_set t k r h =
    let ne : 0 ≢ k = λ e. omega arith in
    record { size = length-set t k r; zeroth = get_or-set_other t k 0 r blank ne }

pub kept_link : (t : List Record) (before k : ℕ) → Frame t (link_table t before k)
kept_link t before k =
    ⊎_elim
    (λ h. let ne : before ≢ 0 = λ e. omega arith in
    rw (ne_eqb before 0 ne) (kept_set t before (linked (at t before) k) h))
    (λ h. let z : before ≡ 0 = omega arith in rw z (kept_refl t))
    (cases_lt 0 before)

-- a record taken out of the line, and one taken in
pub kept_drop : (t : List Record) (before k here free : ℕ) → 1 ≤ here
    → Frame t (set (link_table t before k) here (freed free))
kept_drop t before k here free h =
    kept_then t (link_table t before k) (set (link_table t before k) here (freed free))
    (kept_link t before k) (kept_set (link_table t before k) here (freed free) h)

pub kept_insert : (t : List Record) (before free : ℕ) (r : Record) → 1 ≤ free
    → Frame t (link_table (set t free r) before free)
kept_insert t before free r h =
    kept_then t (set t free r) (link_table (set t free r) before free)
    (kept_set t free r h) (kept_link (set t free r) before free)
