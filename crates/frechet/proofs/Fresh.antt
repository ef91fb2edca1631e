-- What the cells held does not change the answer.
use Rattle.std.proofs.Common.{◌≡◌, ℕ, ◌+◌, min, Bool, true, false, cond, eqb, List, [], ◌∷◌, length, None, Ok, Err, Option, Result, refl, ap, ◌∙◌}
use lib.Ieee.{Float}
use Rattle.points.specs.declared.fault.Fault.{Fault}
use Rattle.points.specs.declared.fault.Layer.TheVariants.{Line}
use Rattle.points.specs.declared.point.Point.{Point}
use Rattle.points.specs.Faults.{in_layer}
use Rattle.points.specs.Rounded.{zero64}
use Rattle.frechet.specs.Row.{row_of, row_start, written}
use Rattle.frechet.specs.Table.{Rows, Compared, row_then, rows_from, answer_of, tabled, allowed, unless, longer, shorter, frechet}

then_same : (r : Result (Option Float) Fault) (xs ys : List Float) (go : Option Float → List Float → Rows)
    → ((l : Option Float) (us vs : List Float) → (go l us).last ≡ (go l vs).last)
    → (row_then r xs go).last ≡ (row_then r ys go).last
then_same (Err f) xs ys go h = refl
then_same (Ok l) xs ys go h = h l xs ys

module _ (far : Point → Point → Result Float Fault) (Y : List Point) where
  rows_same : (k : ℕ) (above : List Float) (last : Option Float) (X : List Point) (xs ys : List Float)
      → (rows_from far k above last X Y xs).last ≡ (rows_from far k above last X Y ys).last
  rows_same k above last [] xs ys = refl
  rows_same k above last (p ∷ ps) xs ys =
      then_same (row_of (far p) above Y).outcome (written (row_start k (length Y))
      (row_of (far p) above Y).cells xs)
      (written (row_start k (length Y)) (row_of (far p) above Y).cells ys)
      (λ l us. rows_from far (k + 1) (row_of (far p) above Y).cells l ps Y us)
      (λ l us vs. rows_same (k + 1) (row_of (far p) above Y).cells l ps us vs)

unless_same : (r : Result (Unit {0}) Fault) (xs ys : List Float) (n m : Compared) → n.result ≡ m.result
    → (unless r xs n).result ≡ (unless r ys m).result
unless_same (Err f) xs ys n m e = refl
unless_same (Ok u) xs ys n m e = e

module _ (far : Point → Point → Result Float Fault) (A B : List Point) where
  -- what is compared once it is allowed
  abbrev rest : Bool → List Float → Compared
  rest empty xs = cond empty (record { result = Ok zero64; cells = xs })
      (tabled far (longer A B) (shorter A B) xs)

  rest_same : (empty : Bool) (xs ys : List Float) → (rest empty xs).result ≡ (rest empty ys).result
  rest_same true xs ys = refl
  rest_same false xs ys = ap answer_of (rows_same far (shorter A B) 0 [] None (longer A B) xs ys)

  pub fresh : (xs held : List Float) → length held ≡ length xs
      → (frechet far A B held).result ≡ (frechet far A B xs).result
  fresh xs held e =
      let none = eqb (min (length A) (length B)) 0 in
      ap (λ n. (unless (in_layer (allowed (length A) (length B) n) Line) held (rest none held)).result) e
      ∙ unless_same (in_layer (allowed (length A) (length B) (length xs)) Line) held xs (rest none held)
      (rest none xs)
      (rest_same none held xs)
