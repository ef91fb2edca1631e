-- What a job keeps.
use Rattle.std.specs.Prelude.{List}
use Rattle.points.specs.declared.point.Point.{Point}

-- the reference, and the planned line
pub record Kept : Type 0 where
  pub reference : List Point
  pub planned : List Point
