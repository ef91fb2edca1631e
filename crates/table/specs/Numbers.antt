-- The numbers that set apart records, edits and tables.
use Rattle.std.specs.Prelude.{ℕ}

-- the edit number of a free record
abbrev pub free_number : ℕ
free_number = 255

-- the most records of a table
abbrev pub most_records : ℕ
most_records = 65536
