-- What is made of parts while they are checked.
use Rattle.std.specs.Prelude.{◌≡◌, map}
use Rattle.ee_desk_model.specs.PlainBooks.{batch_so_far}
use Rattle.ee_desk_soundness.specs.Parts.{Parts}
use Rattle.ee_desk_soundness.specs.declared.checks.Indexes.{Indexes}
use Rattle.ee_desk_soundness.specs.Checks.{entry_of_row, AreSound}
use Rattle.ee_desk_soundness.specs.Days.{counts_in}

-- the indexes of these parts, which are sound
pub record IsMadeOf (parts : Parts) (made : Indexes) : Type 0 where
  pub sound : AreSound parts
  pub rates : made.terms.entries ≡ map entry_of_row parts.rates
  pub counted : made.counts ≡ counts_in (batch_so_far parts.day parts.tickets)
