-- The coordinates of points, in pairs.
use Rattle.std.proofs.Common.{◌≡◌, ℕ, zero, suc, ◌*◌, List, [], ◌∷◌, length, map, refl, ap, arith}
use lib.Ieee.{Float}
use Rattle.std.specs.Simd.{first_chunks}
use Rattle.points.specs.declared.point.Point.{Point}
use Rattle.questions.specs.Spelling.{coordinates, pair_point}

pub length_coordinates : (ps : List Point) → length (coordinates ps) ≡ 2 * length ps
length_coordinates [] = refl
length_coordinates (p ∷ ps) = omega (arith, length_coordinates ps)

-- the points of k pairs have all the numbers as their coordinates, where these are two for each
pub coordinates_pairs : (k : ℕ) (xs : List Float) → length xs ≡ 2 * k →
    coordinates (map pair_point (first_chunks 2 k xs)) ≡ xs
coordinates_pairs zero [] e = refl
coordinates_pairs zero (x ∷ xs) e = absurd (omega arith)
coordinates_pairs (suc k) [] e = absurd (omega arith)
coordinates_pairs (suc k) (x ∷ []) e = absurd (omega arith)
coordinates_pairs (suc k) (x ∷ (y ∷ xs)) e =
    ap (λ l. x ∷ (y ∷ l)) (coordinates_pairs k xs (omega arith))
