-- Points with finite coordinates.
use Rattle.std.specs.Prelude.{ℕ, ◌+◌, Bool, cond, ◌&&◌, List, [], ◌∷◌}
use Rattle.std.specs.Float.{float_is_finite}
use Rattle.points.specs.declared.point.Point.{Point}

-- finite in both coordinates
abbrev pub finite_point : Point → Bool
finite_point p = float_is_finite p.x && float_is_finite p.y

-- the place, from k + 1 on, of the first point with a coordinate that is not finite, or 0
abbrev pub first_unfit : ℕ → List Point → ℕ
first_unfit k [] = 0
first_unfit k (p ∷ ps) = cond (finite_point p) (first_unfit (k + 1) ps) (k + 1)
