-- Defines which line each step through a job gives.
use Rattle.std.specs.Prelude.{◌≡◌, ℕ, ◌+◌, List, [], ◌∷◌, drop, Option, MatchOption}
use Rattle.text.specs.Lines.{Inside, part, lines}
use Rattle.text.specs.declared.line.Line.{Line}
use Rattle.text.specs.declared.lines.Lines.{Lines}

-- the lines that are left
abbrev pub lines_left : Lines → List (List ℕ)
lines_left s = lines (drop s.at s.job.now)

-- l is the first of the lines from `from` on and ends at `to`, and the next one begins one byte further on
pub record LineAt (bytes : List ℕ) (from to : ℕ) (l : Line) : Type 0 where
  pub inside : Inside bytes from to
  pub is : l.bytes.now ≡ part bytes from to
  pub placed : l.place ≡ from
  pub first : lines (drop from bytes) ≡ l.bytes.now ∷ lines (drop (to + 1) bytes)

-- a step from s gives the first line that is left, and leaves t; or it gives none where none is left
abbrev pub LineGiven : Lines → Option Line → Lines → Type 0
LineGiven s r t =
    MatchOption r ((lines_left s ≡ []) × (t ≡ s))
    (λ l. (to : ℕ) × LineAt s.job.now s.at to l × (t.job.now ≡ s.job.now) × (t.at ≡ to + 1))
