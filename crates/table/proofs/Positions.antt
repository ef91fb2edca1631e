-- A walk along a chain meets its points in order.
use Rattle.std.proofs.Common.{◌≡◌, ℕ, zero, suc, ◌+◌, ◌<◌, ◌≤◌, List, length, Some, None, refl, ap, ◌∙◌, add-one, arith}
use Rattle.std.specs.List.{slice_get}
use Rattle.std.proofs.lemmas.Option.{slice_get_past}
use Rattle.table.specs.declared.Record.{Record}
use Rattle.table.specs.Chains.{Chained, at, index_at, point_in}
use Rattle.table.specs.Lines.{line_from}

pub index_on : (t : List Record) (i n : ℕ) → index_at t i (suc n) ≡ (at t (index_at t i n)).next
index_on t i zero = refl
index_on t i (suc n) = index_on t (at t i).next n

pub index_more : (t : List Record) (i n : ℕ) → index_at t i (n + 1) ≡ (at t (index_at t i n)).next
index_more t i n = ap (index_at t i) (add-one n) ∙ index_on t i n

-- the indices of a chain lie in the table
pub index_inside : (t : List Record) (lo hi n i : ℕ) → Chained t lo hi n i
    → (k : ℕ) → k < n → index_at t i k < length t
index_inside t lo hi zero i w k h = absurd (omega arith)
index_inside t lo hi (suc n) i w zero h = w.1
index_inside t lo hi (suc n) i w (suc k) h = index_inside t lo hi n (at t i).next w.4 k (omega arith)

pub length_line : (t : List Record) (n i : ℕ) → length (line_from t n i) ≡ n
length_line t zero i = refl
length_line t (suc n) i = ap suc (length_line t n (at t i).next)

pub nth_line : (t : List Record) (n i k : ℕ) → k < n
    → slice_get (line_from t n i) k ≡ Some (point_in (at t (index_at t i k)))
nth_line t zero i k h = absurd (omega arith)
nth_line t (suc n) i zero h = refl
nth_line t (suc n) i (suc k) h = nth_line t n (at t i).next k (omega arith)

pub nth_line_past : (t : List Record) (n i k : ℕ) → n ≤ k → slice_get (line_from t n i) k ≡ None
nth_line_past t n i k h = let l = length_line t n i in slice_get_past (line_from t n i) k (omega arith)
