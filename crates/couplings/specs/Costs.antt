-- What a coupling costs, and that the table's answer is the least that any coupling costs.
use Rattle.std.specs.Prelude.{◌≡◌, List, [], ◌∷◌, Bool, ◌<◌, T, length}
use Rattle.couplings.specs.Coupling.{Pair, IsCoupling, Among, apart}
use Rattle.couplings.specs.Rows.{Ordered, answer_by}

-- what pairs of points cost, what ways through pairs cost and their order, and how a pair joins a way
pub record Costing (P K V : Type 0) : Type 0 where
  -- the costs of pairs that are good, and the costs of ways that are ordered
  pub good : K → Bool
  pub ok : V → Bool
  pub le : V → V → Bool
  pub lt : V → V → Bool
  pub ordered : Ordered V ok le lt
  -- a way of one pair, and a way with one pair more, which keeps the order of ways
  pub begin : K → V
  pub join : K → V → V
  pub begins : (k : K) → T (good k) → T (ok (begin k))
  pub joins : (k : K) (v : V) → T (good k) → T (ok v) → T (ok (join k v))
  pub keeps : (k : K) (u v : V) → T (good k) → T (ok u) → T (ok v)
      → T (le u v) → T (le (join k u) (join k v))
  -- the answer of an empty line, the point past a line's end, and what two points cost
  pub zero : V
  pub point : P
  pub cost : P → P → K

-- a way that costs `v`, with the costs of the pairs joined one after the other
abbrev pub onward : {K V : Type 0} → (K → V → V) → (Pair → K) → V → List Pair → V
onward join c v [] = v
onward join c v (p ∷ ps) = onward join c (join (c p) v) ps

module _ {P K V : Type 0} (S : Costing P K V) where
  -- what a pair of places costs
  abbrev pub cost_in : List P → List P → Pair → K
  cost_in A B p = apart S.cost S.point A B p

  -- what the pairs cost, from the first to the last
  abbrev pub worth : List P → List P → List Pair → V
  worth A B [] = S.zero
  worth A B (p ∷ ps) = onward S.join (cost_in A B) (S.begin (cost_in A B p)) ps

  -- the answer of the table
  abbrev pub totals : List P → List P → V
  totals A B = answer_by S.lt S.begin S.join S.zero S.cost A B

  -- each point of the one line and each point of the other have a good cost
  abbrev pub Costed : List P → List P → Type 0
  Costed A B = (a b : P) → Among a A → Among b B → T (S.good (S.cost a b))

  -- some coupling of the lines costs `v`
  abbrev pub SomeCosts : List P → List P → V → Type 0
  SomeCosts A B v = (pairs : List Pair) × IsCoupling (length A) (length B) pairs × (worth A B pairs ≡ v)

  -- no coupling of the lines costs less than `v`
  abbrev pub NoneLess : List P → List P → V → Type 0
  NoneLess A B v = (pairs : List Pair) → IsCoupling (length A) (length B) pairs → T (S.le v (worth A B pairs))

-- the answer of the table is what some coupling costs, and no coupling costs less
abbrev pub LeastCoupling : (P K V : Type 0) → Type 0
LeastCoupling P K V =
    (S : Costing P K V) (A B : List P) → 0 < length A → 0 < length B → Costed S A B
    → SomeCosts S A B (totals S A B) × NoneLess S A B (totals S A B)
