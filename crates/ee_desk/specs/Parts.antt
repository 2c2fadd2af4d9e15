-- The parts of books in memory.
use Rattle.ee_desk_soundness.specs.Checks.{parts_in}
use Rattle.ee_desk_soundness.specs.Parts as lists
use Rattle.ee_desk.specs.declared.parts.Parts.{Parts}

-- their lists
abbrev pub as_lists : Parts → lists.Parts
as_lists parts = parts_in parts.rates parts.bonds parts.day parts.last_day parts.tickets parts.batches
