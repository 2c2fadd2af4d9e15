-- Journals, events and turns in plain numbers.
use Rattle.std.specs.Prelude.{ℕ, not, ◌==◌, Option, Some, None, unwrap_or, if◌then◌else◌}
use Rattle.ee_client.specs.declared.calls.ClientJournal.{ClientJournal}
use Rattle.ee_client.specs.declared.calls.ClientEvent.{ClientEvent}
use Rattle.ee_client.specs.declared.calls.ClientTurn.{ClientTurn}
use Rattle.ee_client.specs.declared.journals.Open.{Open}
use Rattle.ee_client.specs.declared.journals.Journal.{Journal}
use Rattle.ee_client.specs.declared.events.Answer.{Answer}
use Rattle.ee_client.specs.declared.events.Answer.TheVariants as answer
use Rattle.ee_client.specs.declared.events.Outcome.{Outcome}
use Rattle.ee_client.specs.declared.events.Outcome.TheVariants as outcome
use Rattle.ee_client.specs.declared.events.Event.{Event}
use Rattle.ee_client.specs.declared.events.Event.TheVariants.{Submit, GoOn, Written, Unwritten, Answered, GiveUp, Killed}
use Rattle.ee_client.specs.declared.events.Action.{Action}
use Rattle.ee_client.specs.declared.events.Action.TheVariants.{Write, Send, Show, Wait, Refuse}
use Rattle.ee_client.specs.declared.machines.Phase.{Phase}
use Rattle.ee_client.specs.declared.machines.Phase.TheVariants.{Rest, Writing, Sent, Told}
use Rattle.ee_client.specs.declared.machines.Turn.{Turn}

-- a name that isn't 0
abbrev pub given : ℕ → Option ℕ
given name = if name == 0 then None else Some name

abbrev pub journal_in : ClientJournal → Journal
journal_in j = record {
  next = j.next;
  request = if j.act == 0 then None else Some (record { number = j.number; step = j.step; sent = j.sent; act = j.act; follower = given j.follower });
}

abbrev pub request_out : ℕ → Option Open → ClientJournal
request_out next None = record { next = next; number = 0; step = 0; sent = 0; act = 0; follower = 0 }
request_out next (Some o) = record { next = next; number = o.number; step = o.step; sent = o.sent; act = o.act; follower = unwrap_or o.follower 0 }

abbrev pub journal_out : Journal → ClientJournal
journal_out j = request_out j.next j.request

abbrev pub answer_with : ℕ → Answer
answer_with detail =
    if detail == 1 then answer.Done
    else if detail == 2 then answer.Refused
    else if detail == 3 then answer.Reused
    else if detail == 4 then answer.Fault
    else answer.Nothing

abbrev pub event_in : ClientEvent → Event
event_in event =
    if event.kind == 1 then Submit event.act (given event.follower)
    else if event.kind == 2 then GoOn
    else if event.kind == 3 then Written
    else if event.kind == 4 then Unwritten
    else if event.kind == 5 then Answered event.number (answer_with event.detail)
    else if event.kind == 6 then GiveUp
    else Killed (not (event.detail == 0))

abbrev pub outcome_number : Outcome → ℕ
outcome_number outcome.Done = 1
outcome_number outcome.Refused = 2
outcome_number outcome.NotDone = 3
outcome_number outcome.GivenUp = 4

abbrev pub written_out : ClientJournal → Phase → ClientJournal
written_out journal (Writing j told) = journal_out j
written_out journal Rest = journal
written_out journal Sent = journal
written_out journal (Told outcome) = journal

-- its action, and what the journal holds and is to hold
abbrev pub action_out : Action → ClientJournal → ClientJournal → ClientTurn
action_out Wait now written = record { action = 0; number = 0; act = 0; outcome = 0; journal = now; written = written }
action_out (Write j) now written = record { action = 1; number = 0; act = 0; outcome = 0; journal = now; written = written }
action_out (Send number act) now written = record { action = 2; number = number; act = act; outcome = 0; journal = now; written = written }
action_out (Show number act outcome) now written = record { action = 3; number = number; act = act; outcome = outcome_number outcome; journal = now; written = written }
action_out Refuse now written = record { action = 4; number = 0; act = 0; outcome = 0; journal = now; written = written }

abbrev pub turn_out : Turn → ClientTurn
turn_out t = action_out t.action (journal_out t.machine.journal) (written_out (journal_out t.machine.journal) t.machine.phase)

-- a client that starts with this journal
abbrev pub started : ℕ → Journal → Turn
started most journal = record { machine = record { most = most; journal = journal; phase = Rest }; action = Wait }
