-- One row more of all rows.
use Rattle.std.proofs.Common.{◌≡◌, ℕ, ◌+◌, ◌*◌, ◌≤◌, List, ◌∷◌, length, None, Ok, Option, Result, sym, ap, ◌∙◌}
use lib.Ieee.{Float}
use Rattle.points.specs.declared.fault.Fault.{Fault}
use Rattle.points.specs.declared.point.Point.{Point}
use Rattle.frechet.specs.Row.{row_of, row_start, row_before, written}
use Rattle.frechet.specs.Table.{row_then, rows_from}
use Rattle.frechet.proofs.Halves.{row_whole, next_before, half_room}

-- the row that was accepted is the row before the next
pub row_done : (far : Point → Point → Result Float Fault) (p : Point) (ps qs : List Point) (k : ℕ)
    (last l : Option Float) (xs : List Float) → 2 * length qs ≤ length xs
    → (row_of (far p) (row_before k (length qs) xs) qs).outcome ≡ Ok l
    → rows_from far k (row_before k (length qs) xs) last (p ∷ ps) qs xs
    ≡ rows_from far (k + 1)
    (row_before (k + 1) (length qs)
    (written (row_start k (length qs)) (row_of (far p) (row_before k (length qs) xs) qs).cells xs))
    l ps qs (written (row_start k (length qs)) (row_of (far p) (row_before k (length qs) xs) qs).cells xs)
row_done far p ps qs k last l xs room out =
    let above : List Float = row_before k (length qs) xs in
    let cells : List Float = (row_of (far p) (row_before k (length qs) xs) qs).cells in
    let full = (row_whole (far p) above 0 None None l qs out).full in
    let before = next_before k (length qs) cells xs full (half_room k (length qs) (length xs) room) in
    let ys : List Float = written (row_start k (length qs)) cells xs in
    ap (λ r. row_then r ys (λ l' zs. rows_from far (k + 1) cells l' ps qs zs)) out
    ∙ ap (λ b. rows_from far (k + 1) b l ps qs ys) (sym before)
