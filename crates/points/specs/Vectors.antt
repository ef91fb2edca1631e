-- The arithmetic on points: one rounded operation for each coordinate.
use Rattle.std.specs.Prelude.{Float}
use Rattle.std.specs.Float.Ieee.{neg}
use Rattle.points.specs.declared.point.Point.{Point}
use Rattle.points.specs.Rounded.{◌⊕◌, ◌⊖◌, ◌⊗◌, ◌⊘◌}

abbrev pub opposite : Point → Point
opposite p = record { x = neg p.x; y = neg p.y }

abbrev pub sum : Point → Point → Point
sum p q = record { x = p.x ⊕ q.x; y = p.y ⊕ q.y }

abbrev pub difference : Point → Point → Point
difference p q = record { x = p.x ⊖ q.x; y = p.y ⊖ q.y }

abbrev pub multiple : Point → Float → Point
multiple p k = record { x = p.x ⊗ k; y = p.y ⊗ k }

abbrev pub quotient : Point → Float → Point
quotient p k = record { x = p.x ⊘ k; y = p.y ⊘ k }
