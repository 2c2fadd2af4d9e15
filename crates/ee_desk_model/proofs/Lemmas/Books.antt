-- Sound books, refusals, and what an act sees.
use Rattle.std.proofs.Common.{Bool, List, None, Option, Some, [], cond, false, length, nat_eq, true, ℕ, ◌++◌, ◌∷◌, ◌≡◌, ◌≢◌, ◌≤◌}
use Rattle.std.specs.List.{AllByRecursion, list_any, sum_by}
use Rattle.std.specs.Option.{IfSome, is_none, is_some, option_eq, option_map, option_or}
use Rattle.ee_desk_model.specs.Acts.{applied, books_after, done}
use Rattle.ee_desk_model.specs.Conserved.{IsConserved}
use Rattle.ee_desk_model.specs.Effects.{accepted, effects_of}
use Rattle.ee_desk_model.specs.Paid.{ArePaidRight, paid_lines}
use Rattle.ee_desk_model.specs.PlainBooks.{PlainBooks, bonds_on, cents_of, names, no_books, of_day, ticket_of, total_of}
use Rattle.ee_desk_model.specs.Ranges.{IsInRange}
use Rattle.ee_desk_model.specs.Refusals.{first, first_of, refusal_of, refusal_of_held, length_refusal}
use Rattle.ee_desk_model.specs.Seen.{Seen, held_as, shown}
use Rattle.ee_desk_model.specs.Serials.{same_serial}
use Rattle.ee_desk_model.specs.Sound.{IsRightLine, IsSound, last_of}
use Rattle.ee_desk_model.specs.Values.{value_of}
use Rattle.ee_desk_model.specs.Views.{shown_by, view_of, needed_of}
use Rattle.ee_desk_model.specs.declared.acts.Act.{Act}
use Rattle.ee_desk_model.specs.declared.acts.Act.TheVariants.{OpenDay, Redeem}
use Rattle.ee_desk_model.specs.declared.changes.Held.{Held}
use Rattle.ee_desk_model.specs.declared.refusals.Refusal.{Refusal}
use Rattle.ee_desk_model.specs.declared.refusals.Refusal.TheVariants.{NumberReused}
use Rattle.ee_desk_model.specs.declared.replies.Batch.{Batch}
use Rattle.ee_desk_model.specs.declared.replies.Line.{Line}
use Rattle.ee_desk_model.specs.declared.replies.Reply.TheVariants.{Refused}
use Rattle.ee_desk_model.specs.declared.replies.Ticket.{Ticket}
use Rattle.ee_calculator.specs.declared.bonds.Bond.{Bond}
use Rattle.ee_units.specs.Spelling.{SerialNumber}
use Rattle.ee_value.specs.Chain.{InRange}
use Rattle.ee_value.specs.declared.rates.Rates.{Rates}
use Rattle.std.specs.FinMap as finite
use Rattle.ee_desk_model.proofs.Bounds
use Rattle.ee_desk_model.proofs.Conservation
use Rattle.ee_desk_model.proofs.NeverReused
use Rattle.ee_desk_model.proofs.PaidRight
use Rattle.ee_desk_model.proofs.SameActs
use Rattle.ee_desk_model.proofs.Seeing
use Rattle.ee_desk_model.proofs.Soundness
use Rattle.ee_desk_model.proofs.Tickets
pub use Rattle.ee_desk_model.proofs.Soundness.{IsPayable}

-- ---- what sound books bound
-- a bond is worth at most 3,044,936 dollars
pub value_le : (rates : Rates) (bond : Bond) (month : ℕ) → InRange rates → value_of rates bond month ≤ 304493600
value_le = Bounds.value_le

-- there are at most 71,102,000 tickets: 1,000 on each of 71,102 days
pub few_tickets : (books : PlainBooks) (sound : IsSound books) → length books.tickets ≤ 71102000
few_tickets = Bounds.tickets_small

-- a day has at most 1,000 tickets
pub few_tickets_on : (books : PlainBooks) (sound : IsSound books) (day : ℕ) → length (of_day day books.tickets) ≤ 1000
few_tickets_on = Bounds.few_on

-- a day's tickets pay at most 100,000 bonds
pub few_bonds_on : (books : PlainBooks) (sound : IsSound books) (day : ℕ) → sum_by bonds_on (of_day day books.tickets) ≤ 100000
few_bonds_on = Bounds.bonds_small

-- a line pays at most 3,044,936 dollars
pub line_le : (books : PlainBooks) → IsSound books → (ticket : Ticket) (line : Line) → IsRightLine books.rates books.bonds ticket line
    → cents_of line ≤ 304493600
line_le = Bounds.line_le

-- a day's tickets pay at most 304,493,600,000 dollars
pub small_total_on : (books : PlainBooks) (sound : IsSound books) (day : ℕ) → sum_by total_of (of_day day books.tickets) ≤ 30449360000000
small_total_on = Bounds.total_small

-- ---- what sound books have
-- each bond stands under its own serial number
pub sound_keyed : (books : PlainBooks) → IsSound books → (serial : SerialNumber) → IfSome (finite.get books.bonds serial) (λ bond. bond.serial ≡ serial)
sound_keyed = Soundness.bonds_keyed

-- no ticket is of a day after the open one
pub none_later : (books : PlainBooks) → IsSound books → (day : ℕ) → books.day ≡ Some day → AllByRecursion (λ t. t.day ≤ day) books.tickets
none_later = Soundness.none_later

-- what the batches and the open day of sound books have is what was paid
pub sound_conserves : (books : PlainBooks) → IsSound books → IsConserved books
sound_conserves = Conservation.conserved

-- each line of sound books pays the bond of its serial number what it is worth in the month of its ticket
pub sound_pays_right : (books : PlainBooks) → IsSound books → ArePaidRight books
sound_pays_right = PaidRight.paid_right

-- what isn't registered isn't paid
pub unregistered_unpaid : (books : PlainBooks) → IsSound books → (s : SerialNumber) → finite.get books.bonds s ≡ None
    → ticket_of books.tickets s ≡ None
unregistered_unpaid = Soundness.unregistered_unpaid

-- ---- acts keep books sound
-- books with nothing in them are sound
pub empty_is_sound : IsSound no_books
empty_is_sound = Soundness.empty_is_sound

-- an act that isn't refused, and whose changes are in range, leaves sound books
pub done_keeps_sound : (books : PlainBooks) (asked : Act) → IsSound books → refusal_of (shown books) asked ≡ None
    → AllByRecursion IsInRange (accepted (shown books) asked).changes → IsSound (done books asked)
done_keeps_sound = Soundness.done_sound

-- each act whose changes are in range leaves sound books
pub act_keeps_sound : (books : PlainBooks) (asked : Act) → IsSound books → AllByRecursion IsInRange (effects_of (shown books) asked).changes
    → IsSound (books_after books asked)
act_keeps_sound = Soundness.act_sound

-- ---- what an act sees
-- what the view of an act shows gives the effects that the books give
pub seen_enough : (books : PlainBooks) (asked : Act) → effects_of (shown_by (view_of books asked)) asked ≡ effects_of (shown books) asked
seen_enough = Seeing.seen_enough

-- and so does what the act is decided by
pub needed_enough : (books : PlainBooks) (asked : Act) → effects_of (shown_by (needed_of books asked)) asked ≡ effects_of (shown books) asked
needed_enough = Seeing.needed_enough

-- that counts no more tickets than the books have
pub needed_few : (books : PlainBooks) (asked : Act) → (needed_of books asked).tickets ≤ length books.tickets
needed_few = Seeing.needed_few

-- an act that the length of its list refuses is refused, whatever is seen
pub refused_by_length : (seen : Seen) (asked : Act) (refusal : Refusal) → length_refusal asked ≡ Some refusal
    → effects_of seen asked ≡ record { changes = []; reply = Refused refusal }
refused_by_length = Seeing.refused_by_length

-- the changes, one after the other, give the books after the act
pub applied_are_books_after : (books : PlainBooks) (asked : Act)
    → applied books (effects_of (shown_by (view_of books asked)) asked).changes ≡ books_after books asked
applied_are_books_after = Seeing.applied_is

-- ---- refusals
-- if the first refusal of tests is none, none of them refuses
pub no_test_refuses : (tests : List (Option Refusal)) → first tests ≡ None → AllByRecursion (λ t. t ≡ None) tests
no_test_refuses = Soundness.no_refusal

-- if the first refusal of rows is none, no row is refused
pub no_row_refused : {A : Type 0} (refusal : A → Option Refusal) (rows : List A) → first_of refusal rows ≡ None
    → AllByRecursion (λ row. refusal row ≡ None) rows
no_row_refused = Soundness.all_of

-- no act is refused because its number was used
pub never_reused : (seen : Seen) (asked : Act) → (effects_of seen asked).reply ≢ Refused NumberReused
never_reused = NeverReused.never_reused

-- a serial number that isn't refused is held and payable
pub unrefused_is_payable : (month payee : ℕ) (s : SerialNumber) (o : Option Held) → refusal_of_held month payee s o ≡ None
    → (held : Held) × (o ≡ Some held) × IsPayable month payee held
unrefused_is_payable = Soundness.payable

-- what is held of a serial number is its bond, with its ticket
pub held_is_registered : (tickets : List Ticket) (s : SerialNumber) (o : Option Bond) (held : Held) → option_map (held_as tickets s) o ≡ Some held
    → (o ≡ Some held.bond) × (held.ticket ≡ ticket_of tickets s)
held_is_registered = Soundness.held_bond

-- a day that may be opened has no tickets yet
pub opened_day_is_empty : (books : PlainBooks) (day : ℕ) → IsSound books → refusal_of (shown books) (OpenDay day) ≡ None
    → of_day day books.tickets ≡ []
opened_day_is_empty = Soundness.opens_empty

-- a ticket that isn't refused is made on the open day
pub redeem_on_open_day : (books : PlainBooks) (day payee : ℕ) (ss : List SerialNumber) → refusal_of (shown books) (Redeem day payee ss) ≡ None
    → books.day ≡ Some day
redeem_on_open_day = Soundness.redeem_opened

-- ---- one ticket more
-- a serial number is paid by the ticket that paid it, else by the new one if that names it
pub ticket_of_push : (tickets : List Ticket) (t : Ticket) (q : SerialNumber)
    → ticket_of (tickets ++ t ∷ []) q ≡ option_or (ticket_of tickets q) (cond (names q t) (Some t.ticket) None)
ticket_of_push = Tickets.ticket_of_push

-- a serial number that one of unpaid lines names is unpaid
pub named_unpaid : (tickets : List Ticket) (q : SerialNumber) (lines : List Line) → AllByRecursion (λ line. ticket_of tickets line.serial ≡ None) lines
    → list_any (λ line. same_serial q line.serial) lines ≡ true → ticket_of tickets q ≡ None
named_unpaid = Tickets.unpaid_of

-- the lines paid are those of before, and then the new ticket's
pub paid_lines_push : (tickets : List Ticket) (t : Ticket) → paid_lines (tickets ++ t ∷ []) ≡ paid_lines tickets ++ t.lines
paid_lines_push = Soundness.paid_append

-- ---- one batch more
-- the last closed day is the new batch's
pub last_of_push : (batches : List Batch) (b : Batch) → last_of (batches ++ b ∷ []) ≡ Some b.day
last_of_push = Soundness.last_pushed

-- ---- options
-- optional numbers that compare as the same are equal
pub option_eq-is : (a b : Option ℕ) → option_eq nat_eq a b ≡ true → a ≡ b
option_eq-is = SameActs.coowner_is

-- an option that is told to be some has its value
pub some_from_is_some : {A : Type 0} (o : Option A) → is_some o ≡ true → (x : A) × (o ≡ Some x)
some_from_is_some = Soundness.some_is

-- an option that is told to be none is none
pub none_from_is_none : {A : Type 0} (o : Option A) → is_none o ≡ true → o ≡ None
none_from_is_none = Soundness.none_is

-- if one or the other is none, both are
pub none_from_option_or : {A : Type 0} (x y : Option A) → option_or x y ≡ None → (x ≡ None) × (y ≡ None)
none_from_option_or = Soundness.or_none

-- what is none after a function was none before it
pub none_from_option_map : {A B : Type 0} (f : A → B) (o : Option A) → option_map f o ≡ None → o ≡ None
none_from_option_map = Soundness.mapped_none

-- if a test that would give a value gave none, it failed, and the rest is none
pub none_from_cond : {A : Type 0} (b : Bool) (r : A) (rest : Option A) → cond b (Some r) rest ≡ None → (b ≡ false) × (rest ≡ None)
none_from_cond = Soundness.test_passed
