-- The table, row by row: its answer is what the least coupling costs.
use mathlib.Core.Path.{◌≡◌, refl, sym, ◌∙◌, ap, subst, subst₂}
use mathlib.Core.List.{List, [], ◌∷◌}
use Prim.Native.Nat.{ℕ, suc, ◌<◌}
use native.Mathlib.Nat.{add-zero, not-suc-le-zero}
use native.Mathlib.Numerals.{add-one}
use native.Mathlib.Omega.{arith}
use lib.Dec.{T}
use lib.ListN.{length, get_or, drop, length-drop}
use lib.Seq.{get_or-drop, drop-drop}
use Rattle.couplings.specs.Coupling.{Each}
use Rattle.couplings.specs.Rows.{lesser, row, rows, last_or}
use Rattle.couplings.specs.Costs.{Costing, cost_in, worth, totals, Costed, SomeCosts, NoneLess, LeastCoupling}
use Rattle.couplings.proofs.Pairs.{among_get_d, each_in}
use Rattle.couplings.proofs.Ways.{pairs, way_of, coupling_of}
use Rattle.couplings.proofs.Cells.{Good, paid, paid_worth, Least, corner, top, side, inner}

-- the points of a line from place `i` on are `x` and `xs`
abbrev From : {P : Type 0} → List P → ℕ → P → List P → Type 0
From A i x xs = drop i A ≡ x ∷ xs

from_at : {P : Type 0} {x : P} {xs : List P} (A : List P) (i : ℕ) (o : P) → From A i x xs → get_or A i o ≡ x
from_at A i o e = sym (rw add-zero at (get_or-drop i A 0 o)) ∙ ap (λ l. get_or l 0 o) e

from_in : {P : Type 0} {x : P} {xs : List P} (A : List P) (i : ℕ) → From A i x xs → i < length A
from_in A i e = omega (arith, length-drop i A, ap length e)

from_on : {P : Type 0} {x : P} {xs : List P} (A : List P) (i : ℕ) → From A i x xs → drop (suc i) A ≡ xs
from_on A i e = rw add-one at (sym (drop-drop 1 i A) ∙ ap (drop 1) e)

from_end : {P : Type 0} {x : P} (A : List P) (i : ℕ) → From A i x [] → suc i ≡ length A
from_end A i e = omega (arith, length-drop i A, ap length e)

module _ {P K V : Type 0} (S : Costing P K V) (a b : P) (am bs : List P)
    (costed : Costed S (a ∷ am) (b ∷ bs)) where
  abbrev A : List P
  A = a ∷ am

  abbrev B : List P
  B = b ∷ bs

  abbrev Cell : V → ℕ → ℕ → Type 0
  Cell v i j = Least S A B v i j

  -- the cells of the points `ys`, from the pair `i` and `j` on
  abbrev Row : ℕ → ℕ → List P → List V → Type 0
  Row i j [] [] = Unit {0}
  Row i j [] (v ∷ vs) = ⊥
  Row i j (y ∷ ys) [] = ⊥
  Row i j (y ∷ ys) (v ∷ vs) = Cell v i j × Row i (suc j) ys vs

  abbrev line : P → List V → List P → List V → List V
  line x left ys above = row S.lt S.begin S.join S.cost x left ys above

  good_at : (i j : ℕ) → i < length A → j < length B → Good S A B (i, j)
  good_at i j h k = costed _ _ (among_get_d A i S.point h) (among_get_d B j S.point k)

  -- a cell by its points, for a cell by its places
  met : {x y : P} {xs ys : List P} (i j : ℕ) (f : K → V) → From A i x xs → From B j y ys
      → (Good S A B (i, j) → Cell (f (cost_in S A B (i, j))) i j) → Cell (f (S.cost x y)) i j
  met i j f e h t =
      let c = t (good_at i j (from_in A i e) (from_in B j h)) in
      subst₂ (λ p q. Cell (f (S.cost p q)) i j) (from_at A i S.point e) (from_at B j S.point h) c

  -- the first row, after its cell `c`
  top_on : (j : ℕ) (y : P) (ys : List P) (c : V) → From B j y ys → Cell c 0 j
      → Row 0 (suc j) ys (line a (c ∷ []) ys [])
  top_on j y [] c e t = tt
  top_on j y (z ∷ ys) c e t =
      let f = from_on B j e in
      let n = met 0 (suc j) (λ k. S.join k c) refl f (λ g. top S A B j c g t) in
      (n, top_on (suc j) z ys (S.join (S.cost a z) c) f n)

  top_row : Row 0 0 B (line a [] B [])
  top_row =
      let n = met 0 0 S.begin refl refl (λ g. corner S A B g) in
      (n, top_on 0 b bs (S.begin (S.cost a b)) refl n)

  -- a row under another, after its cell `c` and the cell `s` above that
  next_on : (i j : ℕ) (x y : P) (xs ys : List P) (s c : V) (us : List V)
      → From A (suc i) x xs → From B j y ys → Cell s i j → Cell c (suc i) j → Row i (suc j) ys us
      → Row (suc i) (suc j) ys (line x (s ∷ c ∷ []) ys us)
  next_on i j x y xs [] s c [] e h ts tc r = tt
  next_on i j x y xs [] s c (u ∷ us) e h ts tc r = tt
  next_on i j x y xs (z ∷ ys) s c [] e h ts tc r = absurd r
  next_on i j x y xs (z ∷ ys) s c (u ∷ us) e h ts tc r =
      let f = from_on B j h in
      let l : V = lesser S.lt (lesser S.lt u s) c in
      let n = met (suc i) (suc j) (λ k. S.join k l) e f (λ g. inner S A B i j u s c g r.0 ts tc) in
      (n, next_on i (suc j) x z xs ys u (S.join (S.cost x z) l) us e f r.0 n r.1)

  next_row : (i : ℕ) (x : P) (xs : List P) (us : List V) → From A (suc i) x xs → Row i 0 B us
      → Row (suc i) 0 B (line x [] B us)
  next_row i x xs [] e r = absurd r
  next_row i x xs (u ∷ us) e r =
      let n = met (suc i) 0 (λ k. S.join k u) e refl (λ g. side S A B i u g r.0) in
      (n, next_on i 0 x b xs bs u (S.join (S.cost x b) u) us e refl r.0 n r.1)

  all_rows_lem : (i : ℕ) (x : P) (xs : List P) (above : List V) → From A i x xs → Row i 0 B above
      → Row (length am) 0 B (rows S.lt S.begin S.join S.cost B above xs)
  all_rows_lem i x [] above e r =
      let k : i ≡ length am = omega (arith, from_end A i e) in
      subst (λ (i : ℕ). Row i 0 B above) k r
  all_rows_lem i x (w ∷ xs) above e r =
      let f = from_on A i e in
      all_rows_lem (suc i) w xs (line w [] B above) f (next_row i w xs above f r)

  last_cell : (i j : ℕ) (y : P) (ys : List P) (v : V) (vs : List V)
      → From B j y ys → Cell v i j → Row i (suc j) ys vs → Cell (last_or v vs) i (length bs)
  last_cell i j y [] v [] e t r =
      let k : j ≡ length bs = omega (arith, from_end B j e) in
      subst (λ (j : ℕ). Cell v i j) k t
  last_cell i j y [] v (w ∷ vs) e t r = absurd r
  last_cell i j y (z ∷ ys) v [] e t r = absurd r
  last_cell i j y (z ∷ ys) v (w ∷ vs) e t r = last_cell i (suc j) z ys w vs (from_on B j e) r.0 r.1

  last_of : (i : ℕ) (vs : List V) → Row i 0 B vs → Cell (last_or S.zero vs) i (length bs)
  last_of i [] r = absurd r
  last_of i (v ∷ vs) r = last_cell i 0 b bs v vs refl r.0 r.1

  answer_least : Cell (totals S A B) (length am) (length bs)
  answer_least = last_of (length am) _ (all_rows_lem 0 a am (line a [] B []) refl top_row)

  some_costs : SomeCosts S A B (totals S A B)
  some_costs =
      let (w, e) = answer_least.some in
      (pairs w [], coupling_of (length am) (length bs) w, paid_worth S A B w [] ∙ e)

  none_less : NoneLess S A B (totals S A B)
  none_less ps c =
      let (w, e) = way_of (Good S A B) (length am) (length bs) ps c good in
      let same : paid S A B w ≡ worth S A B ps = sym (paid_worth S A B w []) ∙ ap (worth S A B) e in
      subst (λ (v : V). T (S.le (totals S A B) v)) same (answer_least.all w)
    where
      good : Each (Good S A B) ps
      good p i = let (h, k) = each_in (length A) (length B) ps c p i in good_at p.0 p.1 h k

pub least_coupling : {P K V : Type 0} → LeastCoupling P K V
least_coupling S [] B h k g = absurd (not-suc-le-zero h)
least_coupling S (a ∷ am) [] h k g = absurd (not-suc-le-zero k)
least_coupling S (a ∷ am) (b ∷ bs) h k g = (some_costs S a b am bs g, none_less S a b am bs g)
