-- The line that plain numbers of a row represent.
use Rattle.std.specs.Prelude.{ℕ, Option, Some}
use Rattle.ee_units.specs.Spelling.{serial_at, ◌>>=◌}
use Rattle.ee_desk_model.specs.declared.replies.Line.{Line}

-- the line of a serial number's letter and number, and a payment in cents
unfoldable pub line_with : ℕ → ℕ → ℕ → Option Line
line_with letter number cents = do
  serial ← serial_at letter number
  Some (record { serial = serial; cents = record { 0 = cents } })
