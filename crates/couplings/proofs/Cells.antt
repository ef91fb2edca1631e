-- The cells of a table, one by one: a cell is what some way to it costs, and no way to it costs less.
use mathlib.Core.Path.{◌≡◌, refl, sym, ◌∙◌, ap, subst}
use mathlib.Core.List.{List, ◌∷◌}
use mathlib.Core.Logic.{◌⊎◌, inl, inr}
use Prim.Native.Nat.{ℕ, suc}
use lib.Dec.{T}
use Rattle.std.proofs.lemmas.Bool.{cases_cond}
use Rattle.couplings.specs.Coupling.{Pair}
use Rattle.couplings.specs.Rows.{lesser}
use Rattle.couplings.specs.Costs.{Costing, onward, cost_in, worth}
use Rattle.couplings.proofs.Order.{ok_lesser, lesser_left, lesser_right}
use Rattle.couplings.proofs.Ways.{Next, Way, pairs}
use Rattle.couplings.proofs.Ways.Next.{first, second, both}
use Rattle.couplings.proofs.Ways.Way.{begun, then}

module _ {P K V : Type 0} (S : Costing P K V) (A B : List P) where
  -- the cost of the pair is good
  abbrev pub Good : Pair → Type 0
  Good p = T (S.good (cost_in S A B p))

  -- a way of one pair, and one that costs `v` with one pair more
  abbrev pub alone : Pair → V
  alone p = S.begin (cost_in S A B p)

  abbrev pub more : Pair → V → V
  more p v = S.join (cost_in S A B p) v

  -- what a way costs
  abbrev pub paid : {k l : ℕ} → Way Good k l → V
  paid (begun g) = alone (0, 0)
  paid (then {k = k} {l = l} n g w) = more (k, l) (paid w)

  paid_ok : {k l : ℕ} (w : Way Good k l) → T (S.ok (paid w))
  paid_ok (begun g) = S.begins _ g
  paid_ok (then n g w) = S.joins _ (paid w) g (paid_ok w)

  -- a way costs what its pairs do
  pub paid_worth : {k l : ℕ} (w : Way Good k l) (ps : List Pair)
      → worth S A B (pairs w ps) ≡ onward S.join (cost_in S A B) (paid w) ps
  paid_worth (begun g) ps = refl
  paid_worth (then {k = k} {l = l} n g w) ps = paid_worth w ((k, l) ∷ ps)

  -- some way to the pair of `k` and `l` costs `v`, and no way to it costs less
  pub record Least (v : V) (k l : ℕ) : Type 0 where
    pub some : (w : Way Good k l) × (paid w ≡ v)
    pub all : (w : Way Good k l) → T (S.le v (paid w))

  least_ok : {v : V} {k l : ℕ} → Least v k l → T (S.ok v)
  least_ok t = let (w, e) = t.some in subst (λ (v : V). T (S.ok v)) e (paid_ok w)

  -- a way with one pair more
  some_more : {i j k l : ℕ} (u v : V) → Next i j k l → Good (k, l) → Least u i j → v ≡ u
      → (w : Way Good k l) × (paid w ≡ more (k, l) v)
  some_more {k = k} {l = l} u v n g t e =
      let (w, f) = t.some in (then n g w, ap (more (k, l)) (f ∙ sym e))

  all_more : {i j : ℕ} (p : Pair) (v : V) (w : Way Good i j) → Good p → T (S.ok v)
      → T (S.le v (paid w)) → T (S.le (more p v) (more p (paid w)))
  all_more p v w g hv h = S.keeps _ v (paid w) g hv (paid_ok w) h

  -- the four kinds of cell: the corner, one of the first row, one of the first column, and any other
  pub corner : Good (0, 0) → Least (alone (0, 0)) 0 0
  corner g = record { some = (begun g, refl); all = go }
    where
      go : (w : Way Good 0 0) → T (S.le (alone (0, 0)) (paid w))
      go (begun h) = S.ordered.same _ (S.begins _ g)
      go (then n h w) = elim n [ ]

  pub top : (j : ℕ) (c : V) → Good (0, suc j) → Least c 0 j → Least (more (0, suc j) c) 0 (suc j)
  top j c g t = record { some = some_more c c second g t refl; all = go }
    where
      go : (w : Way Good 0 (suc j)) → T (S.le (more (0, suc j) c) (paid w))
      go (then second h w) = all_more (0, suc j) c w g (least_ok t) (t.all w)

  pub side : (i : ℕ) (u : V) → Good (suc i, 0) → Least u i 0 → Least (more (suc i, 0) u) (suc i) 0
  side i u g t = record { some = some_more u u first g t refl; all = go }
    where
      go : (w : Way Good (suc i) 0) → T (S.le (more (suc i, 0) u) (paid w))
      go (then first h w) = all_more (suc i, 0) u w g (least_ok t) (t.all w)

  -- `u` is the cell above, `s` the one above to the left and `c` the one to the left
  pub inner : (i j : ℕ) (u s c : V) → Good (suc i, suc j)
      → Least u i (suc j) → Least s i j → Least c (suc i) j
      → Least (more (suc i, suc j) (lesser S.lt (lesser S.lt u s) c)) (suc i) (suc j)
  inner i j u s c g above slant left =
      record { some = pick (cases_cond (S.lt c us) c us m refl) (cases_cond (S.lt s u) s u us refl); all = go }
    where
      us : V
      us = lesser S.lt u s

      m : V
      m = lesser S.lt us c

      pick : (m ≡ c) ⊎ (m ≡ us) → (us ≡ s) ⊎ (us ≡ u)
          → (w : Way Good (suc i) (suc j)) × (paid w ≡ more (suc i, suc j) m)
      pick (inl e) f = some_more c m second g left e
      pick (inr e) (inl f) = some_more s m both g slant (e ∙ f)
      pick (inr e) (inr f) = some_more u m first g above (e ∙ f)

      ok_u : T (S.ok u)
      ok_u = least_ok above

      ok_s : T (S.ok s)
      ok_s = least_ok slant

      ok_c : T (S.ok c)
      ok_c = least_ok left

      ok_us : T (S.ok us)
      ok_us = ok_lesser S.ordered u s ok_u ok_s

      by_us : (v : V) → T (S.ok v) → T (S.le us v) → T (S.le m v)
      by_us v h k = lesser_left S.ordered us c ok_us ok_c v h k

      under : {k l : ℕ} → Next k l (suc i) (suc j) → (w : Way Good k l) → T (S.ok (paid w))
          → T (S.le m (paid w))
      under first w h = by_us (paid w) h (lesser_left S.ordered u s ok_u ok_s (paid w) h (above.all w))
      under both w h = by_us (paid w) h (lesser_right S.ordered u s ok_u ok_s (paid w) h (slant.all w))
      under second w h = lesser_right S.ordered us c ok_us ok_c (paid w) h (left.all w)

      go : (w : Way Good (suc i) (suc j)) → T (S.le (more (suc i, suc j) m) (paid w))
      go (then n h w) =
          all_more (suc i, suc j) m w g (ok_lesser S.ordered us c ok_us ok_c) (under n w (paid_ok w))
