-- A nearest whole root, which the private functions ensure.
use Rattle.std.specs.Prelude.{ℕ, ◌+◌, ◌*◌, ◌<◌, ◌≤◌}

-- r is the whole number nearest to the root of d, which lies above r - 1/2 and below r + 1/2: their squares
-- are r * r - r + 1/4 and r * r + r + 1/4
pub record NearestWhole (d r : ℕ) : Type 0 where
  pub above : r * r < d + r
  pub below : d ≤ r * r + r
