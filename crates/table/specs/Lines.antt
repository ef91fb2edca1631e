-- The line that a table keeps, and the lines that its edits set aside.
use Rattle.std.specs.Prelude.{ℕ, zero, suc, List, [], ◌∷◌, filter, map, nat_lt}
use Rattle.points.specs.declared.point.Point.{Point}
use Rattle.table.specs.declared.Record.{Record}
use Rattle.table.specs.declared.Head.{Head}
use Rattle.table.specs.Chains.{Held, Node, nodes}
use Rattle.table.specs.Whole.{line_of}

abbrev pub points_of : List Held → List Point
points_of gs = map (λ g. g.point) gs

abbrev pub held_by : List Node → List Held
held_by ns = map (λ n. n.held) ns

-- the points of the first n records of the chain from i
abbrev pub line_from : List Record → ℕ → ℕ → List Point
line_from t n i = points_of (held_by (nodes t n i))

-- the kept line
abbrev pub kept_line : List Record → Head → List Point
kept_line t h = line_from t h.count h.first

-- the kept points with their edit numbers
abbrev pub held_line : List Record → Head → List Held
held_line t h = held_by (line_of t h)

-- what was put there before edit e, with a number of at most e − 1
abbrev pub held_before : ℕ → List Held → List Held
held_before e gs = filter (λ g. nat_lt g.edit e) gs

-- the lines set aside by the edits n down to 1: edit i set aside the line without the records numbered
-- above i − 1
abbrev pub lines_before : ℕ → List Held → List (List Point)
lines_before zero gs = []
lines_before (suc n) gs = points_of (held_before (suc n) gs) ∷ lines_before n gs

-- the lines set aside, the newest first
abbrev pub set_aside : List Record → Head → List (List Point)
set_aside t h = lines_before h.newest (held_line t h)
