-- Limits that a kept line and its history share.
use Rattle.std.specs.Prelude.{ℕ}

-- the last number that an edit can have: as many edits can be taken back
abbrev pub last_edit : ℕ
last_edit = 254
