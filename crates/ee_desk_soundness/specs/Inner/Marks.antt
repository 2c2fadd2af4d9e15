-- Definitions that private contracts alone cite; specs/Marks.antt has the others.
use Rattle.std.specs.Prelude.{Bool}
use Rattle.std.specs.Option.{is_some}
use Rattle.ee_desk_model.specs.declared.changes.Held.{Held}

-- the row names a ticket
abbrev pub is_marked : Held → Bool
is_marked held = is_some held.ticket
