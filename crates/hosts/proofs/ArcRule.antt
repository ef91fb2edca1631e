-- The inverse of a number beyond 1 in magnitude is within it, so its arc is the series'.
use Rattle.std.proofs.Common.{◌≡◌, ℕ, ◌*◌, ◌<◌, ◌≤◌, Bool, true, false, cond, T, eqb, ℤ, sym, refl, ap, ◌∙◌, arith, lit<, lit≤, eqb→eq, ltb→lt}
use Rattle.std.proofs.lemmas.Bool.{le-ltb, cond-false}
use lib.Ieee.{Float, nan, inf, fin, binary64, up, down, unlike, lt, neg, div, round, of_bits}
use Rattle.points.specs.Rounded.{◌⊖◌, ◌⊘◌, one64}
use Rattle.hosts.specs.Circle.{half_pi}
use Rattle.hosts.specs.Arc.{arc, arc_within, ArcRule}
use Rattle.hosts.proofs.AtMost.{AtMost, at_most}

not_above : (w : Float) → AtMost 1 w → lt one64 w ≡ false
unfolding of_bits lt
not_above nan h = absurd h
not_above (inf s) h = absurd h
not_above (fin false m e) h = le-ltb (1 * down e) (m * up e * 1) (omega arith)
not_above (fin true m e) h = refl

not_below : (w : Float) → AtMost 1 w → lt w (neg one64) ≡ false
unfolding of_bits neg lt
not_below nan h = absurd h
not_below (inf s) h = absurd h
not_below (fin false m e) h = refl
not_below (fin true m e) h = le-ltb (1 * down e) (m * up e * 1) (omega arith)

inverse : (s : Bool) (m : ℕ) (e : ℤ) → 1 * down e < m * up e * 1 → AtMost 1 (one64 ⊘ fin s m e)
unfolding of_bits div
inverse s m e h = go (eqb m 0) (eqb→eq m 0)
  where
    go : (t : Bool) → (T t → m ≡ 0)
        → AtMost 1 (cond t (inf (unlike false s)) (round binary64 (unlike false s) (1 * down e) (m * up e * 1)))
    go true k = let z : m * up e ≡ 0 * up e = ap (λ (n : ℕ). n * up e) (k tt) in absurd (omega arith)
    go false k =
        let p : 0 < m * up e * 1 = omega arith in
        let l : 1 * down e ≤ 1 * (m * up e * 1) = omega arith in
        at_most (unlike false s) (1 * down e) (m * up e * 1) 1 p (lit< tt) (lit≤ tt) l

above : (v : Float) → T (lt one64 v) → AtMost 1 (one64 ⊘ v)
unfolding of_bits lt div
above nan h = absurd h
above (inf s) h = lit≤ tt
above (fin false m e) h = inverse false m e (ltb→lt (1 * down e) (m * up e * 1) h)
above (fin true m e) h = absurd h

below : (v : Float) → T (lt v (neg one64)) → AtMost 1 (one64 ⊘ v)
unfolding of_bits neg lt div
below nan h = absurd h
below (inf s) h = lit≤ tt
below (fin false m e) h = absurd h
below (fin true m e) h = inverse true m e (ltb→lt (1 * down e) (m * up e * 1) h)

within : (w : Float) → AtMost 1 w → arc w ≡ arc_within w
within w h =
    cond-false (lt one64 w) (half_pi ⊖ arc_within (one64 ⊘ w))
    (cond (lt w (neg one64)) (neg half_pi ⊖ arc_within (one64 ⊘ w)) (arc_within w)) (not_above w h)
    ∙ cond-false (lt w (neg one64)) (neg half_pi ⊖ arc_within (one64 ⊘ w)) (arc_within w) (not_below w h)

chosen : (a b : Bool) (p q x y z : Float) → (T a → y ≡ x) → (T b → y ≡ x)
    → cond a (p ⊖ x) (cond b (q ⊖ x) z) ≡ cond a (p ⊖ y) (cond b (q ⊖ y) z)
chosen true b p q x y z f g = ap (λ (u : Float). p ⊖ u) (sym (f tt))
chosen false true p q x y z f g = ap (λ (u : Float). q ⊖ u) (sym (g tt))
chosen false false p q x y z f g = refl

pub arc_rule : ArcRule
arc_rule v =
    let w = one64 ⊘ v in
    chosen (lt one64 v) (lt v (neg one64)) half_pi (neg half_pi) (arc_within w) (arc w) (arc_within v)
    (λ t. within w (above v t)) (λ t. within w (below v t))
