-- The table of two lines, row by row: a cell for each pair, of the pair's cost and the cells before it.
use Rattle.std.specs.Prelude.{◌≡◌, List, [], ◌∷◌, Bool, true, false, cond, ℕ, suc, ◌<◌, T, length, get_or, take}

-- over the values that are `ok`, `le` is reflexive and transitive, and `lt` tells which of two comes first
pub record Ordered (V : Type 0) (ok : V → Bool) (le lt : V → V → Bool) : Type 0 where
  pub same : (a : V) → T (ok a) → T (le a a)
  pub on : (a b c : V) → T (ok a) → T (ok b) → T (ok c) → T (le a b) → T (le b c) → T (le a c)
  pub before : (a b : V) → T (ok a) → T (ok b) → lt a b ≡ true → T (le a b)
  pub not_before : (a b : V) → T (ok a) → T (ok b) → lt a b ≡ false → T (le b a)

module _ {V : Type 0} (lt : V → V → Bool) where
  -- the larger of two, and of equals the one named first
  abbrev pub larger : V → V → V
  larger a b = cond (lt a b) b a

  -- the lesser of two, and of equals the one named first
  abbrev pub lesser : V → V → V
  lesser a b = cond (lt b a) b a

  -- the least of `a` and of the values that follow
  abbrev pub least : V → List V → V
  least a [] = a
  least a (b ∷ bs) = least (lesser a b) bs

-- a pair costs a `K`, and a way through pairs a `V`: `begin k` is a way of one pair, and `join k v` is a way
-- that costs `v` with one pair more
module _ {K V : Type 0} (lt : V → V → Bool) (begin : K → V) (join : K → V → V) where
  -- the cell of a pair that costs `k`, after the cells before it as far as they exist
  abbrev pub cell : K → List V → V
  cell k [] = begin k
  cell k (c ∷ cs) = join k (least lt c cs)

  module _ {P : Type 0} (d : P → P → K) where
    -- the cells of the point `p` against the points `ys`, under the row `above`; `left` has the cell above to
    -- the left and the cell to the left, as far as they exist
    abbrev pub row : P → List V → List P → List V → List V
    row p left [] above = []
    row p left (y ∷ ys) [] = let c = cell (d p y) left in c ∷ row p (c ∷ []) ys []
    row p left (y ∷ ys) (u ∷ us) = let c = cell (d p y) (u ∷ left) in c ∷ row p (u ∷ c ∷ []) ys us

    -- the last row of a table: under the row `above`, a row for each point of `xs`, each under the one before
    abbrev pub rows : List P → List V → List P → List V
    rows ys above [] = above
    rows ys above (x ∷ xs) = rows ys (row x [] ys above) xs

-- the last element, and `z` where there is none
abbrev pub last_or : {V : Type 0} → V → List V → V
last_or z [] = z
last_or z (v ∷ vs) = last_or v vs

-- the answer of a table: the last cell of its last row, and `z` where a line is empty
abbrev pub answer_by : {K P V : Type 0} → (V → V → Bool) → (K → V) → (K → V → V) → V → (P → P → K)
    → List P → List P → V
answer_by lt begin join z d xs ys = last_or z (rows lt begin join d ys [] xs)

-- the discrete Fréchet distance: distances join by the larger
abbrev pub answer : {P V : Type 0} → (V → V → Bool) → V → (P → P → V) → List P → List P → V
answer lt z d xs ys = answer_by lt (λ v. v) (larger lt) z d xs ys

-- the table of one point more has one row more, under its last
abbrev pub RowsGrow : (P K V : Type 0) → Type 0
RowsGrow P K V =
    (lt : V → V → Bool) (begin : K → V) (join : K → V → V) (d : P → P → K) (o : P) (xs ys : List P) (k : ℕ)
    → k < length xs
    → rows lt begin join d ys [] (take (suc k) xs)
    ≡ row lt begin join d (get_or xs k o) [] ys (rows lt begin join d ys [] (take k xs))
