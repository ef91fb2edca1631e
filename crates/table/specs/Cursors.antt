-- What a move of a cursor never changes: whose table and whose head it holds.
use Rattle.std.specs.Prelude.{◌≡◌}
use Rattle.table.specs.declared.cursor.Cursor.{Cursor}

abbrev pub HoldsSame : Cursor → Cursor → Type 0
HoldsSame c d = (d.table.ghost_name ≡ c.table.ghost_name) × (d.head.ghost_name ≡ c.head.ghost_name)
