-- What an answer tells: each distance was answered, and the answer is that of the table of values.
use Rattle.std.proofs.Common.{◌≡◌, ℕ, zero, suc, ◌+◌, ◌<◌, min, Bool, true, false, cond, eqb, leb, List, [], ◌∷◌, length, get_or, Some, None, Ok, Err, Option, Result, sym, refl, ap, ◌∙◌, arith}
use lib.Ieee.{Float, lt}
use Rattle.std.proofs.lemmas.Bool.{ne_eqb}
use Rattle.couplings.specs.Rows.{row, rows, larger, answer}
use Rattle.couplings.proofs.Rows.{row_length}
use Rattle.points.specs.declared.fault.Fault.{Fault}
use Rattle.points.specs.declared.fault.Layer.TheVariants.{Line}
use Rattle.points.specs.declared.point.Point.{Point}
use Rattle.points.specs.Faults.{in_layer}
use Rattle.points.specs.Rounded.{zero64}
use Rattle.frechet.specs.Row.{row_of, row_start, written, last_from}
use Rattle.frechet.specs.Table.{Compared, row_then, rows_from, answer_of, tabled, allowed, unless, longer, shorter, frechet}
use Rattle.frechet.specs.Theorem.{nowhere}
use Rattle.frechet.proofs.Halves.{row_whole}
use Rattle.frechet.proofs.Values.{value_of, row_values, row_asked, last_some, last_is}

-- the distances from X to Y, and d
pub record Told (far : Point → Point → Result Float Fault) (z : Float) (X Y : List Point)
    (d : Float) : Type 0 where
  pub known : (i j : ℕ) → i < length X → j < length Y
      → far (get_or X i nowhere) (get_or Y j nowhere) ≡ Ok (value_of (far (get_or X i nowhere) (get_or Y j nowhere)))
  pub is : answer lt z (λ a b. value_of (far a b)) X Y ≡ d

module _ (far : Point → Point → Result Float Fault) (Y : List Point) where
  abbrev table : List Float → List Point → List Float
  table above X = rows lt (λ v. v) (larger lt) (λ a b. value_of (far a b)) Y above X

  record Come (above : List Float) (X : List Point) (l : Option Float) : Type 0 where
    known : (i j : ℕ) → i < length X → j < length Y
        → far (get_or X i nowhere) (get_or Y j nowhere) ≡ Ok (value_of (far (get_or X i nowhere) (get_or Y j nowhere)))
    last : l ≡ last_from None (table above X)

  -- one row, and the rows after it
  one : (k : ℕ) (above : List Float) (p : Point) (ps : List Point) (xs : List Float) (l : Option Float)
      (r : Result (Option Float) Fault) → (row_of (far p) above Y).outcome ≡ r
      → ((m : Option Float) (ys : List Float) → m ≡ last_from None (row_of (far p) above Y).cells
      → (rows_from far (k + 1) (row_of (far p) above Y).cells m ps Y ys).last ≡ Ok l
      → Come (row_of (far p) above Y).cells ps l)
      → (row_then r xs (λ m ys. rows_from far (k + 1) (row_of (far p) above Y).cells m ps Y ys)).last ≡ Ok l
      → Come above (p ∷ ps) l
  one k above p ps xs l (Err f) out ih e = absurd cc
  one k above p ps xs l (Ok m) out ih e =
      let rest = ih m xs (row_whole (far p) above 0 None None m Y out).ends e in
      let asked = row_asked far p Y above 0 None None m out in
      record {
        known = pick rest asked;
        last = rest.last ∙ ap (λ c. last_from None (table c ps)) (row_values far p Y above 0 None None m out);
      }
    where
      pick : Come (row_of (far p) above Y).cells ps l
          → ((j : ℕ) → j < length Y → far p (get_or Y j nowhere) ≡ Ok (value_of (far p (get_or Y j nowhere))))
          → (i j : ℕ) → i < length (p ∷ ps) → j < length Y
          → far (get_or (p ∷ ps) i nowhere) (get_or Y j nowhere) ≡ Ok
          (value_of (far (get_or (p ∷ ps) i nowhere) (get_or Y j nowhere)))
      pick rest asked zero j hi hj = asked j hj
      pick rest asked (suc i) j hi hj = rest.known i j (omega arith) hj

  come : (k : ℕ) (above : List Float) (last l : Option Float) (X : List Point) (xs : List Float)
      → last ≡ last_from None above → (rows_from far k above last X Y xs).last ≡ Ok l → Come above X l
  come k above last l [] xs h e = record {
    known = λ i j hi hj. absurd (omega arith);
    last = let s : last
        ≡ l = cc in sym s ∙ h;
  }
  come k above last l (p ∷ ps) xs h e =
      one k above p ps (written (row_start k (length Y)) (row_of (far p) above Y).cells xs) l
      (row_of (far p) above Y).outcome
      refl (λ m ys g f. come (k + 1) (row_of (far p) above Y).cells m l ps ys g f) e

-- with points on both lines there is a last cell
some_last : (cs : List Float) → 0 < length cs → last_from None cs ≡ None → ⊥
some_last [] h e = omega arith
some_last (c ∷ cs) h e = let s = last_some c cs in cc

rows_long : (d : Point → Point → Float) (Y : List Point) (above : List Float) (X : List Point)
    → length above ≡ length Y
    → length (rows lt (λ v. v) (larger lt) d Y above X) ≡ length Y
rows_long d Y above [] e = e
rows_long d Y above (x ∷ xs) e =
    rows_long d Y (row lt (λ v. v) (larger lt) d x [] Y above) xs
    (row_length lt (λ v. v) (larger lt) d x [] Y above)

no_rows : (d : Point → Point → Float) (X Y : List Point) → 0 < length X → 0 < length Y
    → last_from None (rows lt (λ v. v) (larger lt) d Y [] X) ≡ None → ⊥
no_rows d [] Y hx hy e = omega arith
no_rows d (x ∷ xs) Y hx hy e =
    let first : List Float = row lt (λ v. v) (larger lt) d x [] Y [] in
    let long = rows_long d Y first xs (row_length lt (λ v. v) (larger lt) d x [] Y []) in
    some_last (rows lt (λ v. v) (larger lt) d Y first xs) (omega (arith, long, hy)) e

-- the last cell behind an answer
answered : (far : Point → Point → Result Float Fault) (z : Float) (X Y : List Point) (d : Float)
    (r : Result (Option Float) Fault) → 0 < length X → 0 < length Y
    → ((l : Option Float) → r ≡ Ok l → Come far Y [] X l) → answer_of r ≡ Ok d → Told far z X Y d
answered far z X Y d (Err f) hx hy k e = absurd cc
answered far z X Y d (Ok None) hx hy k e = absurd (no_rows (λ a b. value_of (far a b)) X Y hx hy
    (sym (k None refl).last))
answered far z X Y d (Ok (Some v)) hx hy k e =
    let c = k (Some v) refl in
    let s : v ≡ d = cc in
    record {
      known = c.known;
      is = last_is z v (rows lt (λ v. v) (larger lt) (λ a b. value_of (far a b)) Y [] X) (sym c.last) ∙ s;
    }

pub longer_some : (A B : List Point) → 0 < length A → 0 < length B → 0 < length (longer A B)
longer_some A B ha hb = elim (leb (length A) (length B)) as
    (λ v. 0 < length (cond v B A)) [ true ↦ hb | false ↦ ha ]

pub shorter_some : (A B : List Point) → 0 < length A → 0 < length B → 0 < length (shorter A B)
shorter_some A B ha hb = elim (leb (length A) (length B)) as
    (λ v. 0 < length (cond v A B)) [ true ↦ ha | false ↦ hb ]

allowed_on : (r : Result (Unit {0}) Fault) (xs : List Float) (next : Compared) (d : Float)
    → (unless r xs next).result ≡ Ok d
    → next.result ≡ Ok d
allowed_on (Err f) xs next d e = absurd cc
allowed_on (Ok u) xs next d e = e

pub told : (far : Point → Point → Result Float Fault) (z : Float) (A B : List Point) (xs : List Float)
    (d : Float)
    → 0 < length A → 0 < length B → (frechet far A B xs).result ≡ Ok d → Told far z (longer A B) (shorter A B) d
told far z A B xs d ha hb e =
    let X : List Point = longer A B in
    let Y : List Point = shorter A B in
    let some : eqb (min (length A) (length B)) 0 ≡ false = ne_eqb (min (length A) (length B)) 0
    (λ z. omega (arith, z, ha, hb)) in
    let none : Compared = record { result = Ok zero64; cells = xs } in
    let next = allowed_on (in_layer (allowed (length A) (length B) (length xs)) Line) xs
    (cond (eqb (min (length A) (length B)) 0) none (tabled far X Y xs)) d e in
    let is : (tabled far X Y xs).result ≡ Ok d =
    sym (ap (λ (t : Bool). (cond t none (tabled far X Y xs)).result) some) ∙ next in
    answered far z X Y d (rows_from far 0 [] None X Y xs).last (longer_some A B ha hb) (shorter_some A B ha hb)
    (λ l h. come far Y 0 [] None l X xs refl h) is
