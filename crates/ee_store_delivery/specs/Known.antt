-- What is known of a store's books without reading its tables.
use Rattle.std.specs.Prelude.{◌≡◌, ℕ, length, Some, IfSome}
use Rattle.std.specs.FinMap as finite
use Rattle.std.specs.FinMap.{FinMap}
use Rattle.std.specs.Ordering.{nat_cmp}
use Rattle.sqlite.specs.State.{State, HasCleanDisk}
use Rattle.ee_value.specs.declared.rates.Rates.{Rates}
use Rattle.ee_desk_model.specs.declared.replies.Batch.{Batch}
use Rattle.ee_desk_model.specs.PlainBooks.{PlainBooks, no_batch}
use Rattle.ee_desk_model.specs.Seen.{open_batch}
use Rattle.ee_desk_model.specs.Repeats.{Content}
use Rattle.ee_store_books.specs.Found.{terms_found}
use Rattle.ee_store_books.specs.Seen.{HasContent}
use Rattle.ee_store_delivery.specs.declared.known.DayState.{DayState}
use Rattle.ee_store_delivery.specs.declared.known.Known.{Known}

-- the days of the books, their number of tickets, and these counts of the open day
pub record IsDayState (day_state : DayState) (books : PlainBooks) (counts : Batch) : Type 0 where
  pub day : day_state.day ≡ books.day
  pub last_day : day_state.last_day ≡ books.last_day
  pub tickets : day_state.tickets ≡ length books.tickets
  pub day_tickets : day_state.counts.tickets ≡ counts.tickets
  pub day_bonds : day_state.counts.bonds ≡ counts.bonds
  pub day_total : day_state.counts.total.0 ≡ counts.total.0

-- the counts of the open day that a redemption needs: the number of tickets, and not what they pay
abbrev pub redeemed_counts : PlainBooks → Batch
redeemed_counts books = record no_batch { tickets = (open_batch books).tickets }

-- terms of periods, as the books have them
abbrev pub AreTermsOf : FinMap nat_cmp Rates → PlainBooks → Type 0
AreTermsOf terms books = (period : ℕ) → IfSome (finite.get terms period) (λ rates. finite.get books.rates period ≡ Some rates)

-- what is known is correct for these books
pub record AreKnown (known : Known) (books : PlainBooks) : Type 0 where
  pub day_state : IfSome known.day_state (λ day_state. IsDayState day_state books (redeemed_counts books))
  pub terms : AreTermsOf (terms_found known.terms.entries) books

-- the store has a content, and what is known is correct for its books
abbrev pub IsInformed : State → Known → Type 0
IsInformed s known = HasCleanDisk s → (content : Content) × HasContent s content × AreKnown known content.books
