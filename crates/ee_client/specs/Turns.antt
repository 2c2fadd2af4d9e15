-- The rules by which a request gets its one reply (this project's own). The request is written into the journal, with its number,
-- before it is sent. It is sent again under that number until its reply has come. There is one request at a time.
use Rattle.std.specs.Prelude.{ℕ, ◌+◌, ◌*◌, ◌-◌, ◌^◌, min, Bool, true, ◌==◌, nat_le, Option, Some, None, if◌then◌else◌}
use Rattle.ee_client.specs.declared.journals.Open.{Open}
use Rattle.ee_client.specs.declared.journals.Journal.{Journal}
use Rattle.ee_client.specs.declared.events.Answer.{Answer}
use Rattle.ee_client.specs.declared.events.Answer.TheVariants as answer
use Rattle.ee_client.specs.declared.events.Outcome.{Outcome}
use Rattle.ee_client.specs.declared.events.Outcome.TheVariants as outcome
use Rattle.ee_client.specs.declared.events.Event.{Event}
use Rattle.ee_client.specs.declared.events.Event.TheVariants.{Submit, GoOn, Written, Unwritten, Answered, GiveUp, Killed}
use Rattle.ee_client.specs.declared.events.Action.{Action}
use Rattle.ee_client.specs.declared.events.Action.TheVariants.{Write, Send, Show, Wait, Refuse}
use Rattle.ee_client.specs.declared.machines.Phase.{Phase}
use Rattle.ee_client.specs.declared.machines.Phase.TheVariants.{Rest, Writing, Sent, Told}
use Rattle.ee_client.specs.declared.machines.Machine.{Machine}
use Rattle.ee_client.specs.declared.machines.Turn.{Turn}

-- counts stay at the greatest that 64 bits hold
abbrev pub capped : ℕ → ℕ
capped n = min n (2 ^ 64 - 1)

-- ---- what is written
-- a new request takes the next number, and was never sent
abbrev pub with_new : Journal → ℕ → Option ℕ → Journal
with_new j act follower = record { next = j.next + 1; request = Some (record { number = j.next; step = 1; sent = 0; act = act; follower = follower }) }

-- it is counted before it is sent
abbrev pub with_sending : Journal → Open → Journal
with_sending j o = record j { request = Some (record o { sent = capped (o.sent + 1) }) }

-- if another request has its number, it takes a higher one, under which it was never sent: 1 higher, then 2, 4 and so on
abbrev pub with_higher : Open → Journal
with_higher o =
    record { next = o.number + o.step + 1; request = Some (record o { number = o.number + o.step; step = capped (2 * o.step); sent = 0 }) }

abbrev pub without : Journal → Journal
without j = record j { request = None }

-- what follows a request that ended so: only one that was done has a follower
abbrev pub follower_after : Outcome → Open → Option ℕ
follower_after outcome.Done o = o.follower
follower_after outcome.Refused o = None
follower_after outcome.NotDone o = None
follower_after outcome.GivenUp o = None

-- ---- turns
abbrev pub rests : Machine → Phase → Action → Turn
rests m phase action = record { machine = record m { phase = phase }; action = action }

-- `told` is the outcome by which the written journal lacks the request
abbrev pub writes : Machine → Journal → Option Outcome → Turn
writes m j told = rests m (Writing j told) (Write j)

-- if no number is left, nothing is written
abbrev pub writes_new : Machine → Phase → Journal → Option Outcome → Turn
writes_new m phase j told = if nat_le j.next m.most then writes m j told else rests m phase Refuse

abbrev pub shows : Machine → Phase → Open → Outcome → Turn
shows m phase o outcome = rests m phase (Show o.number o.act outcome)

-- a new request, if none is open
abbrev pub submitted : Machine → ℕ → Option ℕ → Phase → Option Open → Turn
submitted m act follower Rest None = writes_new m Rest (with_new m.journal act follower) None
submitted m act follower Rest (Some o) = rests m Rest Refuse
submitted m act follower phase request = rests m phase Refuse

-- what follows a request takes its place, in one step; if nothing does, it is dropped
abbrev pub settles : Machine → Outcome → Option ℕ → Turn
settles m outcome None = writes m (without m.journal) (Some outcome)
settles m outcome (Some act) = writes_new m (Told outcome) (with_new m.journal act None) (Some outcome)

-- the open request is sent again; one whose outcome is there is settled
abbrev pub gone_on : Machine → Phase → Option Open → Turn
gone_on m Rest (Some o) = writes m (with_sending m.journal o) None
gone_on m (Told outcome) (Some o) = settles m outcome (follower_after outcome o)
gone_on m phase request = rests m phase Wait

-- what is shown once a request is dropped: that it wasn't done, or was given up. A reply was shown before
abbrev pub shows_dropped : Machine → Option Open → Option Outcome → Turn
shows_dropped m (Some o) (Some outcome.NotDone) = shows m Rest o outcome.NotDone
shows_dropped m (Some o) (Some outcome.GivenUp) = shows m Rest o outcome.GivenUp
shows_dropped m request told = rests m Rest Wait

-- once the journal is written, a request that was counted is sent; one that wasn't is counted first
abbrev pub after_write : Machine → Option Open → Option Open → Option Outcome → Turn
after_write m before None told = shows_dropped m before told
after_write m before (Some o) told =
    if o.sent == 0 then writes m (with_sending m.journal o) None else rests m Sent (Send o.number o.act)

abbrev pub written : Machine → Phase → Turn
written m (Writing j told) = after_write (record m { journal = j }) m.journal.request j.request told
written m phase = rests m phase Wait

abbrev pub unwritten : Machine → Phase → Turn
unwritten m (Writing j None) = rests m Rest Wait
unwritten m (Writing j (Some outcome)) = rests m (Told outcome) Wait
unwritten m phase = rests m phase Wait

-- a reply is shown. NumberReused moves on. A fault ends a request that was sent once, which is dropped before that is shown; on a
-- later sending it tells nothing about the ones before
abbrev pub answered_to : Machine → Open → Answer → Turn
answered_to m o answer.Done = shows m (Told outcome.Done) o outcome.Done
answered_to m o answer.Refused = shows m (Told outcome.Refused) o outcome.Refused
answered_to m o answer.Reused = writes_new m Rest (with_higher o) None
answered_to m o answer.Fault = if o.sent == 1 then writes m (without m.journal) (Some outcome.NotDone) else rests m Rest Wait
answered_to m o answer.Nothing = rests m Rest Wait

-- an answer to another number is late, and read by nobody
abbrev pub answered : Machine → ℕ → Answer → Phase → Option Open → Turn
answered m number answer Sent (Some o) = if number == o.number then answered_to m o answer else rests m Sent Wait
answered m number answer phase request = rests m phase Wait

-- a request that was never sent isn't done; another may have been
abbrev pub given_up : Machine → Phase → Option Open → Turn
given_up m Rest (Some o) = writes m (without m.journal) (Some (if o.sent == 0 then outcome.NotDone else outcome.GivenUp))
given_up m phase request = rests m phase Refuse

-- back to what is in the journal
abbrev pub killed : Machine → Bool → Phase → Turn
killed m true (Writing j told) = rests (record m { journal = j }) Rest Wait
killed m kept phase = rests m Rest Wait

abbrev pub turn : Machine → Event → Turn
turn m (Submit act follower) = submitted m act follower m.phase m.journal.request
turn m GoOn = gone_on m m.phase m.journal.request
turn m Written = written m m.phase
turn m Unwritten = unwritten m m.phase
turn m (Answered number answer) = answered m number answer m.phase m.journal.request
turn m GiveUp = given_up m m.phase m.journal.request
turn m (Killed kept) = killed m kept m.phase
