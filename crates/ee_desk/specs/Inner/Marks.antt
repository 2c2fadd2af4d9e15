-- Bonds in memory, and the tickets that pay them.
use Rattle.std.specs.Prelude.{◌≡◌, ℕ, Bool, List, Option, Some, IfSome, map, if◌then◌else◌}
use Rattle.std.specs.Map.{lookup}
use Rattle.std.specs.BTreeMap.{is_at}
use Rattle.std.specs.FinMap as finite
use Rattle.std.specs.FinMap.{FinMap}
use Rattle.ee_units.specs.Spelling.{SerialNumber}
use Rattle.ee_calculator.specs.declared.bonds.Bond.{Bond}
use Rattle.ee_desk_model.specs.declared.changes.Held.{Held}
use Rattle.ee_desk_model.specs.declared.replies.Ticket.{Ticket}
use Rattle.ee_desk_model.specs.Serials.{serial_cmp}
use Rattle.ee_desk_model.specs.PlainBooks.{ticket_of}

abbrev pub bonds_held : List (SerialNumber × Held) → FinMap serial_cmp Bond
bonds_held bonds = finite.from_entries (map (λ e. (e.0, e.1.bond)) bonds)

-- bonds by their serial numbers
abbrev pub by_serial : List Held → List (SerialNumber × Held)
by_serial bonds = map (λ held. (held.bond.serial, held)) bonds

-- the entry of a serial number
abbrev pub held_at : List (SerialNumber × Held) → SerialNumber → Option Held
held_at bonds serial = lookup (is_at (serial_cmp serial)) bonds

-- each bond is marked with the ticket that pays it
abbrev pub AreMarked : List (SerialNumber × Held) → List Ticket → Type 0
AreMarked bonds tickets = (serial : SerialNumber) → IfSome (held_at bonds serial) (λ held. held.ticket ≡ ticket_of tickets serial)

-- a bond after a ticket, which marks it if it pays it
abbrev pub marked : Bool → ℕ → Held → Held
marked pays ticket held = record { bond = held.bond; ticket = if pays then Some ticket else held.ticket }
