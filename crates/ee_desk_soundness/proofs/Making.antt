-- What is made of parts.
use Rattle.std.proofs.Common.{◌≡◌, ℕ, List, Option, map, sym, ◌∙◌, subst}
use Rattle.std.specs.List.{AllByRecursion}
use Rattle.std.specs.FinMap as finite
use Rattle.ee_value.specs.declared.rates.Rates.{Rates}
use Rattle.ee_value.specs.declared.rates.RateRow.{RateRow}
use Rattle.ee_desk_model.specs.declared.changes.Held.{Held}
use Rattle.ee_desk_model.specs.declared.replies.Batch.{Batch}
use Rattle.ee_desk_model.specs.declared.replies.Ticket.{Ticket}
use Rattle.ee_desk_model.specs.PlainBooks.{batch_so_far}
use Rattle.ee_desk_model.specs.Sound.{IsDay}
use Rattle.ee_desk_soundness.specs.Parts.{Parts, AreUnsound}
use Rattle.ee_desk_soundness.specs.declared.checks.Indexes.{Indexes}
use Rattle.ee_desk_soundness.specs.Checks.{bonds_in, entry_of_row, rates_in, parts_in}
use Rattle.ee_desk_soundness.specs.Inner.Checks.{IsRegister, ArePaid, AreClosed}
use Rattle.ee_desk_soundness.specs.Marks.{bond_of, AreMarked}
use Rattle.ee_desk_soundness.specs.Days.{counts_in}
use Rattle.ee_desk_soundness.specs.Inner.Days.{days_of, IsSmall}
use Rattle.ee_desk_soundness.specs.Made.{IsMadeOf}
use Rattle.ee_desk_soundness.proofs.PaidRows.{right_tickets, rows_marked}
use Rattle.ee_desk_soundness.proofs.SoundParts.{unsound, passed, register_is, paid_is, closed_is, rates_right, all_small}

module _ (rates : List RateRow) (rows : List Held) (day last : Option ℕ) (tickets : List Ticket) (batches : List Batch) (terms : List (ℕ × Rates)) (same : terms ≡ map entry_of_row rates) where
  paid_here : ArePaid (finite.from_entries terms) rows tickets → ArePaid (rates_in rates) rows tickets
  paid_here paid = subst (λ (ts : List (ℕ × Rates)). ArePaid (finite.from_entries ts) rows tickets) same paid

  pub small : IsRegister rates (map bond_of rows) → ArePaid (finite.from_entries terms) rows tickets → AllByRecursion IsSmall tickets
  small register paid =
      all_small (rates_in rates) (bonds_in (map bond_of rows)) (rates_right rates register.right) tickets (right_tickets (rates_in rates) rows tickets register.serials (paid_here paid))

  pub marks_right : IsRegister rates (map bond_of rows) → ArePaid (finite.from_entries terms) rows tickets → AreMarked tickets rows
  marks_right register paid = rows_marked (rates_in rates) rows tickets register.serials (paid_here paid)

  pub made_is : (made : Indexes) → made.terms.entries ≡ terms → IsRegister rates (map bond_of rows) → ArePaid (finite.from_entries terms) rows tickets
      → AreClosed tickets batches day last → AllByRecursion IsDay (days_of batches day)
      → made.counts ≡ counts_in (batch_so_far day tickets) → IsMadeOf (parts_in rates (map bond_of rows) day last tickets batches) made
  made_is made own register paid closed range counted =
      record { sound = passed rates rows day last tickets batches register (paid_here paid) closed range; rates = own ∙ same; counted = counted }

  pub not_paid : (ArePaid (finite.from_entries terms) rows tickets → ⊥) → AreMarked tickets rows → AreUnsound (parts_in rates (map bond_of rows) day last tickets batches)
  not_paid never marked =
      unsound (parts_in rates (map bond_of rows) day last tickets batches)
      (λ s. never (subst (λ (ts : List (ℕ × Rates)). ArePaid (finite.from_entries ts) rows tickets) (sym same) (paid_is rates rows day last tickets batches s marked)))

pub not_register : (parts : Parts) → (IsRegister parts.rates parts.bonds → ⊥) → AreUnsound parts
not_register parts never = unsound parts (λ s. never (register_is parts s))

pub not_closed : (parts : Parts) → (AreClosed parts.tickets parts.batches parts.day parts.last_day → ⊥) → AreUnsound parts
not_closed parts never = unsound parts (λ s. never (closed_is parts s))
