-- Tellers whose requests are interleaved (this project's rule).
use Rattle.std.specs.Prelude.{◌≡◌, ℕ, ◌+◌, ◌≤◌, false, ◌==◌, nat_lt, List, [], ◌∷◌, ◌++◌, length, map, filter, sum_by, drop, slice_index_or, IsPermutation, ⊤, if◌then◌else◌}
use Rattle.std.specs.List.{AllByRecursion, list_any}
use Rattle.ee_desk_model.specs.declared.acts.Act.{Act}
use Rattle.ee_desk_model.specs.declared.acts.Act.TheVariants.{AddRates, AddBonds, OpenDay, Redeem, CloseDay}
use Rattle.ee_desk_model.specs.declared.refusals.Refusal.{Refusal}
use Rattle.ee_desk_model.specs.declared.refusals.Refusal.TheVariants.{AlreadyPaid}
use Rattle.ee_desk_model.specs.declared.replies.Line.{Line}
use Rattle.ee_desk_model.specs.declared.replies.Reply.{Reply}
use Rattle.ee_desk_model.specs.declared.replies.Reply.TheVariants.{Refused}
use Rattle.ee_desk_model.specs.declared.replies.Reply.TheVariants as reply
use Rattle.ee_desk_model.specs.declared.acts.Request.{Request}
use Rattle.ee_desk_model.specs.Serials.{same_serial}
use Rattle.ee_desk_model.specs.Seen.{open_batch}
use Rattle.ee_desk_model.specs.PlainBooks.{PlainBooks}
use Rattle.ee_desk_model.specs.Views.{serials_of}
use Rattle.ee_desk_model.specs.Paid.{paid_lines}
use Rattle.ee_desk_model.specs.Refusals.{most_tickets}
use Rattle.ee_desk_model.specs.Numbers.{same_number, number_of}
use Rattle.ee_desk_model.specs.Repeats.{Content}
use Rattle.ee_desk_model.specs.Contents.{books_after}
use Rattle.ee_desk_model.specs.Answers.{answer}

-- a request, and the position of its teller
pub record Asked : Type 0 where
  pub teller : ℕ
  pub request : Request

abbrev pub requests : List Asked → List Request
requests merge = map (λ a. a.request) merge

-- a teller's requests in a merge, in order
abbrev pub asked_by : ℕ → List Asked → List Request
asked_by teller merge = requests (filter (λ a. a.teller == teller) merge)

-- the requests of a teller
abbrev pub list_of : List (List Request) → ℕ → List Request
list_of tellers teller = slice_index_or tellers teller []

-- the merge contains each teller's requests in order, and no others
abbrev pub IsMerge : List (List Request) → List Asked → Type 0
IsMerge tellers merge = (teller : ℕ) → asked_by teller merge ≡ list_of tellers teller

abbrev pub IsRedeem : Act → Type 0
IsRedeem (Redeem day payee serials) = ⊤
IsRedeem (AddRates rows) = ⊥
IsRedeem (AddBonds bonds) = ⊥
IsRedeem (OpenDay day) = ⊥
IsRedeem (CloseDay day) = ⊥

-- two requests with different numbers and no serial number in common
abbrev pub AreStrange : Request → Request → Type 0
AreStrange q r = (same_number (number_of q) (number_of r) ≡ false)
    × AllByRecursion (λ serial. list_any (same_serial serial) (serials_of r.act) ≡ false) (serials_of q.act)

abbrev pub AreStrangers : List Request → List Request → Type 0
AreStrangers qs rs = AllByRecursion (λ q. AllByRecursion (AreStrange q) rs) qs

-- tellers that redeem, with no serial number and no request number in two of the lists
pub record AreTellers (tellers : List (List Request)) : Type 0 where
  pub redeem : AllByRecursion (AllByRecursion (λ q. IsRedeem q.act)) tellers
  pub apart : (one other : ℕ) → (one == other) ≡ false → AreStrangers (list_of tellers one) (list_of tellers other)

-- the number of tickets of the open day; 0 if no day is open
abbrev pub open_tickets : PlainBooks → ℕ
open_tickets books = (open_batch books).tickets

-- the answers to requests, each after those before it
abbrev pub told : Content → List Request → List Request → List Reply
told start before [] = []
told start before (q ∷ qs) = answer start before q ∷ told start (before ++ q ∷ []) qs

-- the replies of a merge that go to one teller
abbrev pub for_teller : ℕ → List Asked → List Reply → List Reply
for_teller teller [] replies = []
for_teller teller (a ∷ merge) [] = []
for_teller teller (a ∷ merge) (reply ∷ replies) =
    if a.teller == teller then reply ∷ for_teller teller merge replies else for_teller teller merge replies

abbrev pub replies_to : ℕ → Content → List Asked → List Reply
replies_to teller start merge = for_teller teller merge (told start [] (requests merge))

-- the number of a ticket, if it isn't new
abbrev pub old_number : ℕ → ℕ → ℕ
old_number old ticket = if nat_lt old ticket then 0 else ticket

abbrev pub unnumbered_refusal : ℕ → Refusal → Refusal
unnumbered_refusal old (AlreadyPaid serial ticket) = AlreadyPaid serial (old_number old ticket)
unnumbered_refusal old other = other

-- a reply without the number of a ticket above these
abbrev pub unnumbered : ℕ → Reply → Reply
unnumbered old (reply.Ticket ticket) = reply.Ticket (record ticket { ticket = old_number old ticket.ticket })
unnumbered old (Refused refusal) = Refused (unnumbered_refusal old refusal)
unnumbered old other = other

-- the lines, with their serial numbers and cents, that are paid after the start
abbrev pub new_lines : Content → List Asked → List Line
new_lines start merge = paid_lines (drop (length start.books.tickets) (books_after start (requests merge)).tickets)

-- what doesn't depend on the order
pub record SameForAll (start : Content) (one other : List Asked) : Type 0 where
  pub replies : (teller : ℕ) → map (unnumbered (length start.books.tickets)) (replies_to teller start one)
      ≡ map (unnumbered (length start.books.tickets)) (replies_to teller start other)
  pub paid : IsPermutation (new_lines start one) (new_lines start other)
  pub closes : (q : Request) (day : ℕ) → q.act ≡ CloseDay day → answer start (requests one) q ≡ answer start (requests other) q

-- for any two merges of the same lists, if the open day has room for all tickets
abbrev pub Interleaved : Type 0
Interleaved = (start : Content) (tellers : List (List Request)) (one other : List Asked)
    → AreTellers tellers → IsMerge tellers one → IsMerge tellers other
    → sum_by length tellers + open_tickets start.books ≤ most_tickets
    → SameForAll start one other
