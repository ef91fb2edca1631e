-- One cell more of a row, and what a row leaves in the cells.
use Rattle.std.proofs.Common.{◌≡◌, ℕ, ◌+◌, ◌<◌, ◌≤◌, ◌⊎◌, List, [], ◌∷◌, ◌++◌, length, take, drop, set, Ok, Err, Option, Result, Some, None, Bor, nat_lt, get_or, sym, refl, ap, ◌∙◌, ⊎_elim, append_assoc, suc-le-suc, arith}
use lib.Ieee.{Float}
use Rattle.std.specs.List.{slice_get}
use Rattle.std.specs.Option.{is_some, IfSome, option_copied}
use Rattle.std.proofs.lemmas.Option.{slice_get_read, slice_get_past}
use Rattle.std.proofs.lemmas.Bool.{ltb-true, ltb-false}
use Rattle.std.proofs.lemmas.List.{length-take-le, drop-take, take_more_set, take-append-drop}
use Rattle.std.proofs.lemmas.Slice.{take-put_mid_below, drop-put_mid}
use Rattle.points.specs.declared.fault.Fault.{Fault}
use Rattle.points.specs.declared.point.Point.{Point}
use Rattle.frechet.specs.Row.{Run, onto, cell_of, cell_then, cell_and, row_from, over, written}

onto_onto : (xs ys : List Float) (run : Run) → onto xs (onto ys run) ≡ onto (xs ++ ys) run
onto_onto xs ys run = ap (λ l. record { cells = l; outcome = run.outcome })
    (sym (append_assoc xs ys run.cells))

-- what a slice's `get` answers, copied
pub copied_get : (o : Option (Bor Float)) (xs : List Float) (i : ℕ) → is_some o ≡ nat_lt i (length xs)
    → IfSome o (λ x. x.now ≡ get_or xs i x.now) → option_copied o ≡ slice_get xs i
copied_get None xs i e h = sym (slice_get_past xs i (ltb-false i (length xs) (sym e)))
copied_get (Some x) xs i e h = sym (slice_get_read xs (length xs) i x.now refl (ltb-true i (length xs) (sym e)) h)

module _ (far : Point → Result Float Fault) (above : List Float) (j : ℕ) (diagonal left : Option Float) where
  -- the cell that is written goes from what is left of the row to the front of it
  pub row_more : (q : Point) (qs : List Point) (d c : Float) (cs : List Float) → far q ≡ Ok d
      → c ≡ cell_of d (slice_get above j) diagonal left → j < length cs
      → onto (take j cs) (row_from far above j diagonal left (q ∷ qs))
      ≡ onto (take (j + 1) (set cs j c)) (row_from far above (j + 1) (slice_get above j) (Some c) qs)
  row_more q qs d c cs ok made room =
      let go = λ (c' : Float). row_from far above (j + 1) (slice_get above j) (Some c') qs in
      ap (λ r. onto (take j cs) (cell_then j r (λ d'. cell_and (cell_of d' (slice_get above j) diagonal left) go))) ok
      ∙ ap (λ v. onto (take j cs) (cell_and v go)) (sym made)
      ∙ onto_onto (take j cs) (c ∷ []) (go c)
      ∙ ap (λ l. onto l (go c)) (sym (take_more_set cs j c room))

-- the cells after the first j are those of the start
pub over_front : (j : ℕ) (cs start : List Float) → j ≤ length cs → drop j cs ≡ drop j start
    → cs ≡ over (take j cs) start
over_front j cs start h e =
    sym (take-append-drop j cs) ∙ ap (λ l. take j cs ++ l) e
    ∙ ap (λ n. take j cs ++ drop n start) (sym (length-take-le j cs h))

-- cells that lie apart from those that were written are as they were
pub unread : (this other n : ℕ) (cs start : List Float) → this ≤ length start
    → (other + n ≤ this) ⊎ (this + length cs ≤ other)
    → take n (drop other (written this cs start)) ≡ take n (drop other start)
unread this other n cs start h =
    ⊎_elim
    (λ l. sym (drop-take other n (written this cs start))
    ∙ ap (drop other) (take-put_mid_below this (length cs) start cs (other + n) l h) ∙ drop-take other n start)
    (λ l. ap (take n) (drop-put_mid this (length cs) start cs other l h refl))

-- a row has at most a cell for each point
bounded : (n m : ℕ) (r : Result Float Fault) (go : Float → Run) → ((d : Float) → length (go d).cells ≤ m)
    → length (cell_then n r go).cells ≤ m
bounded n m (Err f) go h = omega arith
bounded n m (Ok d) go h = h d

pub length_row : (far : Point → Result Float Fault) (above : List Float) (n : ℕ) (diagonal left : Option Float)
    (qs : List Point) → length (row_from far above n diagonal left qs).cells ≤ length qs
length_row far above n diagonal left [] = omega arith
length_row far above n diagonal left (q ∷ qs) =
    bounded n (length (q ∷ qs)) (far q) _ (λ d. suc-le-suc
    (length_row far above (n + 1) (slice_get above n) (Some (cell_of d (slice_get above n) diagonal left)) qs))
