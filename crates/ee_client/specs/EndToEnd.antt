-- From a teller's act to the books and back (this project's rule).
use Rattle.std.specs.Prelude.{◌≡◌, ℕ, ◌≤◌, ◌&&◌, Bool, true, false, ◌==◌, List, Contains, count_by, Some, ⊤}
use Rattle.std.specs.List.{AllByRecursion, list_any}
use Rattle.std.specs.FinMap as finite
use Rattle.ee_desk_model.specs.declared.acts.Act.{Act}
use Rattle.ee_desk_model.specs.declared.acts.Request.{Request}
use Rattle.ee_desk_model.specs.declared.refusals.Refusal.{Refusal}
use Rattle.ee_desk_model.specs.declared.refusals.Refusal.TheVariants.{NumberReused}
use Rattle.ee_desk_model.specs.declared.replies.Reply.{Reply}
use Rattle.ee_desk_model.specs.declared.replies.Reply.TheVariants as reply
use Rattle.ee_desk_model.specs.Acts.{books_after, reply_to}
use Rattle.ee_desk_model.specs.Numbers.{same_number, number_of}
use Rattle.ee_desk_model.specs.Paid.{paid_lines, NoneTwice}
use Rattle.ee_desk_model.specs.PlainBooks.{PlainBooks}
use Rattle.ee_desk_model.specs.Ranges.{IsActInRange}
use Rattle.ee_desk_model.specs.Sound.{IsSound}
use Rattle.ee_desk_model.specs.Repeats.{Content, once}
use Rattle.ee_desk_model.specs.Contents.{content_after}
use Rattle.ee_desk_laws.specs.Stops.{AreDone}
use Rattle.ee_client.specs.declared.journals.Open.{Open}
use Rattle.ee_client.specs.declared.events.Answer.{Answer}
use Rattle.ee_client.specs.declared.events.Answer.TheVariants as answer
use Rattle.ee_client.specs.declared.events.Outcome.{Outcome}
use Rattle.ee_client.specs.declared.events.Outcome.TheVariants.{Done, Refused, NotDone, GivenUp}
use Rattle.ee_client.specs.Desks.{Sending, Shown, Desk, Bank, Happening, answer_in, GoOnward, counter_events, opened}

-- a request with a number under which the act was sent
abbrev pub is_for : List Sending → ℕ → Request → Bool
is_for sent act q = list_any (λ x. (x.act == act) && same_number (number_of x.request) (number_of q)) sent

-- how often the books decided it after the start, of these requests
abbrev pub times : Content → List Request → Desk → ℕ → ℕ
times start done desk act = count_by (is_for desk.sent act) (once start done)

-- the reply that was shown, of this kind, is the one that the books keep under that number, for that act; if the start didn't keep
-- that number, the act was decided once
pub record IsKept (acts : ℕ → ℕ → Act) (start now : Content) (done : List Request) (d : ℕ) (desk : Desk) (shown : Shown) (kind : Answer) : Type 0 where
  pub reply : Reply
  pub shows : shown.reply ≡ Some reply
  pub is : answer_in reply ≡ kind
  pub kept : finite.get now.kept (d, shown.number) ≡ Some (record { act = acts d shown.act; reply = reply })
  pub once : finite.contains_key start.kept (d, shown.number) ≡ false → times start done desk shown.act ≡ 1

-- what is shown is so
abbrev pub IsSo : (ℕ → ℕ → Act) → Content → Content → List Request → ℕ → Desk → Shown → Outcome → Type 0
IsSo acts start now done d desk shown Done = IsKept acts start now done d desk shown answer.Done
IsSo acts start now done d desk shown Refused = IsKept acts start now done d desk shown answer.Refused
IsSo acts start now done d desk shown NotDone = times start done desk shown.act ≡ 0
IsSo acts start now done d desk shown GivenUp = ⊤

pub record Holds (acts : ℕ → ℕ → Act) (start : Content) (happenings : List Happening) (bank : Bank) (done : List Request) : Type 0 where
  pub requests : AreDone (counter_events happenings) done
  pub content : bank.counter.now ≡ content_after start done
  pub at_most_once : (d act : ℕ) → times start done (bank.desk d) act ≤ 1
  pub shown : (d : ℕ) → AllByRecursion (λ s. IsSo acts start bank.counter.now done d (bank.desk d) s s.outcome) (bank.desk d).shown
  -- NumberReused is told of numbers alone that the books kept before the journals began
  pub reused : AllByRecursion (λ t. t.reply ≡ reply.Refused NumberReused → finite.contains_key start.kept (number_of t.request) ≡ true) bank.counter.told
  pub bonds : IsSound start.books → ((d act : ℕ) → IsActInRange (acts d act)) → NoneTwice (paid_lines bank.counter.now.books.tickets)

abbrev pub EndToEnd : Type 0
EndToEnd = (acts : ℕ → ℕ → Act) (start : Content) (most : ℕ) (first : ℕ → ℕ) (happenings : List Happening) (bank : Bank)
    → GoOnward acts (opened start most first) happenings bank → (done : List Request) × Holds acts start happenings bank done

-- a reply
abbrev pub HasReply : Outcome → Type 0
HasReply Done = ⊤
HasReply Refused = ⊤
HasReply NotDone = ⊥
HasReply GivenUp = ⊥

-- the books keep none of a desk's numbers from its journal's first on: the desk has one journal, which wasn't taken back from a copy
abbrev pub IsFresh : Content → ℕ → ℕ → Type 0
IsFresh start d first = (number : ℕ) → first ≤ number → finite.contains_key start.kept (d, number) ≡ false

-- whatever has happened, the open request of such a desk may still have its reply
abbrev pub Settles : Type 0
Settles = (acts : ℕ → ℕ → Act) (start : Content) (most : ℕ) (first : ℕ → ℕ) (happenings : List Happening) (bank : Bank)
    → GoOnward acts (opened start most first) happenings bank
    → (d : ℕ) (o : Open) → (bank.desk d).machine.journal.request ≡ Some o → IsFresh start d (first d)
    → (more : List Happening) × (after : Bank) × (s : Shown) × GoOnward acts bank more after × Contains (after.desk d).shown s × (s.act ≡ o.act) × HasReply s.outcome

-- an act that is refused leaves the books as they are
abbrev pub RefusalsChangeNothing : Type 0
RefusalsChangeNothing = (books : PlainBooks) (asked : Act) (refusal : Refusal) → reply_to books asked ≡ reply.Refused refusal → books_after books asked ≡ books
