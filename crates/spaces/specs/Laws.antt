-- The laws of a space, for the plane.
use Rattle.std.specs.Prelude.{◌≡◌, Bool, true, false, cond, ◌&&◌, T, Some, None, Ok, Err, Option, refl, Float}
use Rattle.std.proofs.Common.{inl, inr}
use Rattle.std.specs.Float.Ieee.{le, lt, eq, of_bits}
use Rattle.std.specs.Float.Ieee.Fits.{and_l, and_r}
use Rattle.std.specs.Float.{float_is_finite, is_sign_negative, float_with_sign, nan, inf, fin}
use Rattle.points.specs.declared.fault.Cause.TheVariants.{NotFinite, NotAdmitted, BadResult}
use Rattle.points.specs.declared.fault.Layer.TheVariants.{Space}
use Rattle.points.specs.declared.point.Point.{Point}
use Rattle.points.specs.Faults.{raised, after}
use Rattle.points.specs.Rounded.{size, zero64}
use Rattle.points.specs.Vectors.{sum, difference, multiple}
use Rattle.hosts.specs.Meaning.{answered}
use Rattle.spaces.specs.declared.euclidean.PlanePair.{PlanePair}
use Rattle.points.specs.Finite.{finite_point}
use Rattle.spaces.specs.Space.{Measures, Lands, distance_answer}
use Rattle.spaces.specs.Plane as Plane

-- ---- distances

pub answer_measures : (d : Float) → Measures true (distance_answer d)
unfolding float_is_finite is_sign_negative float_with_sign
answer_measures nan = inr refl
answer_measures (inf s) = inr refl
answer_measures (fin s m e) = go (le zero64 (fin s m e))
  where
    go : (t : Bool) → Measures true (cond t (Ok (fin false m e)) (Err (raised BadResult Space)))
    go true = tt
    go false = inr refl

answered_measures : (o : Option Float) → Measures true (after (answered o) distance_answer)
answered_measures (Some d) = answer_measures d
answered_measures None = inl refl

pub plane_distances : (hypot : Float → Float → Option Float) (p q : Point)
    → Measures (Plane.admitted p && Plane.admitted q) (Plane.distance hypot p q)
plane_distances hypot p q = go (Plane.admitted p && Plane.admitted q)
  where
    go : (t : Bool) → Measures t
        (after (cond t (Ok tt) (Err (raised NotAdmitted Space)))
        (λ (_ : Unit {0}). after (answered (hypot (difference p q).x (difference p q).y)) distance_answer))
    go true = answered_measures (hypot (difference p q).x (difference p q).y)
    go false = refl

-- ---- points

-- at most 10^9 in magnitude is finite
bounded_finite : (x : Float) → T (le (size x) Plane.farthest) → T (float_is_finite x)
unfolding le lt eq of_bits float_with_sign float_is_finite
bounded_finite nan h = h
bounded_finite (inf s) h = h
bounded_finite (fin s m e) h = tt

both_true : (a b : Bool) → T a → T b → T (a && b)
both_true true b p q = q
both_true false b p q = absurd p

admitted_finite : (p : Point) → T (Plane.admitted p) → T (finite_point p)
admitted_finite p h =
    let a = le (size p.x) Plane.farthest in
    let b = le (size p.y) Plane.farthest in
    both_true (float_is_finite p.x) (float_is_finite p.y) (bounded_finite p.x (and_l a b h))
    (bounded_finite p.y (and_r a b h))

answer_lands : (p : Point) → Lands Plane.admitted true true (Plane.point_answer p)
answer_lands p = go (Plane.admitted p) refl
  where
    go : (t : Bool) → Plane.admitted p ≡ t
        → Lands Plane.admitted true true (cond t (Ok p) (Err (raised BadResult Space)))
    go true e = let h : T (Plane.admitted p) = rw e tt in (admitted_finite p h, h)
    go false e = inr refl

-- the checks come first: the ratio or distance, then the points
pub plane_ratios : (p q : Point) (t : Float)
    → Lands Plane.admitted (float_is_finite t) (Plane.admitted p && Plane.admitted q) (Plane.at_ratio p q t)
plane_ratios p q t = go (float_is_finite t) (Plane.admitted p && Plane.admitted q)
  where
    go : (f b : Bool) → Lands Plane.admitted f b
        (after (cond f (Ok tt) (Err (raised NotFinite Space)))
        (λ (_ : Unit {0}). after (after (cond b (Ok tt) (Err (raised NotAdmitted Space)))
        (λ (_ : Unit {0}). Ok (record { start = p; way = difference q p })))
        (λ (x : PlanePair). after (cond f (Ok tt) (Err (raised NotFinite Space)))
        (λ (_ : Unit {0}). Plane.point_answer (sum x.start (multiple x.way t))))))
    go false b = refl
    go true false = refl
    go true true = answer_lands _

pub plane_alongs : (hypot : Float → Float → Option Float) (p q : Point) (t : Float)
    → Lands Plane.admitted (float_is_finite t) (Plane.admitted p && Plane.admitted q) (Plane.at_distance hypot p q t)
plane_alongs hypot p q t = go (float_is_finite t) (Plane.admitted p && Plane.admitted q)
  where
    answers : (o : Option Float) → Lands Plane.admitted true true (after (answered o) (Plane.at_total p q t))
    answers (Some total) = answer_lands _
    answers None = inl refl

    go : (f b : Bool) → Lands Plane.admitted f b
        (after (cond f (Ok tt) (Err (raised NotFinite Space)))
        (λ (_ : Unit {0}). after (cond b (Ok tt) (Err (raised NotAdmitted Space)))
        (λ (_ : Unit {0}). after (answered (hypot (difference q p).x (difference q p).y))
        (Plane.at_total p q t))))
    go false b = refl
    go true false = refl
    go true true = answers (hypot (difference q p).x (difference q p).y)
