-- Rows, one after another.
use mathlib.Core.Path.{◌≡◌, refl, ◌∙◌, ap}
use mathlib.Core.List.{List, [], ◌∷◌, ◌++◌}
use mathlib.Core.Bool.{Bool}
use Prim.Native.Nat.{suc}
use lib.ListN.{length, get_or, take}
use lib.Seq.{take-suc}
use Rattle.couplings.specs.Rows.{cell, row, rows, RowsGrow}

module _ {P K V : Type 0} (lt : V → V → Bool) (begin : K → V) (join : K → V → V) (d : P → P → K) where
  -- a row has a cell for each point
  pub row_length : (p : P) (left : List V) (ys : List P) (above : List V)
      → length (row lt begin join d p left ys above) ≡ length ys
  row_length p left [] above = refl
  row_length p left (y ∷ ys) [] = ap suc (row_length p (cell lt begin join (d p y) left ∷ []) ys [])
  row_length p left (y ∷ ys) (u ∷ us) =
      ap suc (row_length p (u ∷ cell lt begin join (d p y) (u ∷ left) ∷ []) ys us)

  rows_more : (ys : List P) (above : List V) (xs : List P) (x : P)
      → rows lt begin join d ys above (xs ++ (x ∷ []))
      ≡ row lt begin join d x [] ys (rows lt begin join d ys above xs)
  rows_more ys above [] x = refl
  rows_more ys above (w ∷ xs) x = rows_more ys (row lt begin join d w [] ys above) xs x

pub rows_grow : {P K V : Type 0} → RowsGrow P K V
rows_grow {P} lt begin join d o xs ys k h =
    ap (λ (ws : List P). rows lt begin join d ys [] ws) (take-suc xs k o h)
    ∙ rows_more lt begin join d ys [] (take k xs) (get_or xs k o)
