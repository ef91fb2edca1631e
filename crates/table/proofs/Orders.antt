-- Records that each lead on to the next one are a chain, and such a table is a new one.
use Rattle.std.proofs.Common.{◌≡◌, ℕ, zero, suc, ◌+◌, ◌-◌, ◌<◌, ◌≤◌, true, false, ltb, List, length, set, sym, refl, ap, ◌∙◌, subst, arith, le-ltb, lt-ltb, length-set, get_or-set_same, get_or-set_other}
use Rattle.table.specs.declared.Record.{Record}
use Rattle.table.specs.Chains.{Chained, at, blank}
use Rattle.table.specs.Format.{follower, cleared, InOrder, Formatted}
use Rattle.table.specs.Whole.{Sized}
use Rattle.table.specs.Numbers.{free_number}

module _ (t : List Record) (each : InOrder t) where
  in_order : (n i : ℕ) → 1 ≤ i → i + n ≡ length t → 1 ≤ n → Chained t free_number free_number n i
  in_order zero i p q r = absurd (omega arith)
  in_order (suc zero) i p q r =
      let lt : i < length t = omega arith in
      let last : ltb (i + 1) (length t) ≡ false = le-ltb (i + 1) (length t) (omega arith) in
      let ed : (at t i).edit ≡ free_number = ap (λ v. v.edit) (each i p lt) in
      let nx : (at t i).next ≡ follower (length t) i = ap (λ v. v.next) (each i p lt) in
      (p, lt, omega arith, omega arith, rw last at nx)
  in_order (suc (suc n)) i p q r =
      let lt : i < length t = omega arith in
      let more : ltb (i + 1) (length t) ≡ true = lt-ltb (i + 1) (length t) (omega arith) in
      let ed : (at t i).edit ≡ free_number = ap (λ v. v.edit) (each i p lt) in
      let nx : (at t i).next ≡ follower (length t) i = ap (λ v. v.next) (each i p lt) in
      let on : (at t i).next ≡ i + 1 = rw more at nx in
      let rest = in_order (suc n) (i + 1) (omega arith) (omega arith) (omega arith) in
      (p, lt, omega arith, omega arith, subst (Chained t free_number free_number (suc n)) (sym on) rest)

-- a table in that order, with record 0 cleared, is a new one
pub formatted : (t0 t1 : List Record) (r : Record) → Sized t0 → length t1 ≡ length t0 → InOrder t1 → r ≡ cleared
    → Formatted t0 (set t1 0 r) (record { first = 0; free = 1; count = 0; newest = 0 })
formatted t0 t1 r sized long order is =
    let t = set t1 0 r in
    let size : length t ≡ length t0 = rw length-set long in
    let each : InOrder t =
    λ k p h. rw (length-set t1 0 r) (
    get_or-set_other t1 0 k r blank (omega arith) ∙ order k p (omega (arith, sized.least))) in
    record {
      whole = record {
        fits = omega (arith, sized.least);
        line = refl;
        free = in_order t each (length t - 1 - 0) 1 (omega arith) (omega (arith, sized.least)) (omega (arith, sized.least));
        latest = omega arith;
      };
      size = size;
      zeroth = get_or-set_same t1 0 r blank (omega (arith, sized.least)) ∙ is;
      each = each;
      first = refl;
      free = refl;
      count = refl;
      newest = refl;
    }
