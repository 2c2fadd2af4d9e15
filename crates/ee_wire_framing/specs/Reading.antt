-- What a call of `next_message` says about the bytes.
use Rattle.std.specs.Prelude.{◌≡◌, ℕ, ◌≤◌, ◌⊎◌, List, [], ◌++◌, length, slice_range, Option, Some, None, Result, Ok, Err, IfSome, ⊤}
use Rattle.std.specs.Io.KnownBytes.{Keeps, Consumes, IsAtEnd, prepend_known}
use Rattle.ee_wire_framing.specs.declared.FramingFault.{FramingFault}
use Rattle.ee_wire_framing.specs.declared.FramingFault.TheVariants.{Truncated}
use Rattle.ee_wire_framing.specs.declared.buffer.Stop.{Stop}
use Rattle.ee_wire_framing.specs.declared.buffer.Stop.TheVariants as stop
use Rattle.ee_wire_framing.specs.declared.buffer.Message.{Message}
use Rattle.ee_wire_framing.specs.declared.buffer.Next.{Next}
use Rattle.ee_wire_framing.specs.declared.buffer.Next.TheVariants as next
use Rattle.ee_wire_framing.specs.declared.buffer.WireEnd.{WireEnd}
use Rattle.ee_wire_framing.specs.declared.buffer.WireEnd.TheVariants as wire
use Rattle.ee_wire_framing.specs.Stream.{Stream}
use Rattle.ee_wire_framing.specs.Framing as framing
use Rattle.ee_wire_framing.specs.Framing.{BeginsMessage, BeginsFault, EndsWith, end, fault}

abbrev pub Answer : Type 0
Answer = Result Next WireEnd

-- the bytes that are still to be answered: those read, and those to be read
abbrev pub left : Stream → Option (List ℕ) → Option (List ℕ)
left stream remaining = prepend_known stream.held remaining

-- the message whose parts are in these bytes
abbrev pub message_in : List ℕ → Message → framing.Message
message_in bytes m = record {
  method = slice_range bytes m.method.start m.method.end;
  target = slice_range bytes m.target.start m.target.end;
  body = slice_range bytes m.body.start m.body.end;
  closes = m.closes;
}

-- known bytes begin with the message, which is removed
abbrev pub Gives : framing.Message → Option (List ℕ) → Option (List ℕ) → Type 0
Gives m None new = ⊤
Gives m (Some bytes) None = ⊥
Gives m (Some bytes) (Some rest) = BeginsMessage bytes m rest

-- if these were all the bytes, the stream would end here, or be cut
abbrev pub NeedsMore : List ℕ → Type 0
NeedsMore bytes = EndsWith bytes end ⊎ EndsWith bytes (fault Truncated)

-- what an answer says about the bytes before and after
abbrev pub Answers : Stream → Option (List ℕ) → Answer → Stream → Option (List ℕ) → Type 0
Answers old before (Ok (next.Message m)) new after = Gives (message_in new.shown m) (left old before) (left new after)
Answers old before (Ok next.End) new after = IfSome (left old before) (λ bytes. EndsWith bytes end)
Answers old before (Err (wire.Fault f)) new after = IfSome (left old before) (λ bytes. EndsWith bytes (fault f))
Answers old before (Err wire.ReadFailed) new after = Keeps (left old before) (left new after) × NeedsMore new.held
Answers old before (Err wire.NoMemory) new after = Keeps (left old before) (left new after) × NeedsMore new.held

-- ---- the same for the bytes held, which also applies if nobody knows what the reader will give

-- the maximum number of bytes in one read
abbrev pub most_read : ℕ
most_read = 4096

-- nothing was read beyond the bytes held, or each read except the last left more to be read
abbrev pub AreNeeded : List ℕ → List ℕ → Type 0
AreNeeded held got =
    (got ≡ []) ⊎ ((early : List ℕ) × (last : List ℕ) × (got ≡ early ++ last) × NeedsMore (held ++ early) × (length last ≤ most_read))

-- bytes were read as needed; those held and then these are what is now shown or held
abbrev pub Takes : Stream → Option (List ℕ) → Stream → Option (List ℕ) → Type 0
Takes old before new after =
    (got : List ℕ) × Consumes before after got × (new.shown ++ new.held ≡ old.held ++ got) × AreNeeded old.held got

-- the bytes begin with the fault, whatever follows; or they are cut, and no more come
abbrev pub ShowsFault : List ℕ → Option (List ℕ) → FramingFault → Type 0
ShowsFault bytes after f =
    ((more : List ℕ) → BeginsFault (bytes ++ more) f) ⊎ ((f ≡ Truncated) × BeginsFault bytes f × IsAtEnd after)

-- what the bytes held settle about the answer, if anything; only the bytes of a message are shown
abbrev pub Settles : Answer → Stream → Option (List ℕ) → Type 0
Settles (Ok (next.Message m)) new after = BeginsMessage (new.shown ++ new.held) (message_in new.shown m) new.held
Settles (Ok next.End) new after = (new.shown ≡ []) × EndsWith new.held end × IsAtEnd after
Settles (Err (wire.Fault f)) new after = (new.shown ≡ []) × ShowsFault new.held after f
Settles (Err wire.ReadFailed) new after = (new.shown ≡ []) × NeedsMore new.held
Settles (Err wire.NoMemory) new after = (new.shown ≡ []) × NeedsMore new.held

-- what later calls answer, if that is settled
abbrev pub stop_of : Answer → Option Stop
stop_of (Ok (next.Message m)) = None
stop_of (Ok next.End) = Some stop.End
stop_of (Err (wire.Fault f)) = Some (stop.Fault f)
stop_of (Err wire.ReadFailed) = Some stop.ReadFailed
stop_of (Err wire.NoMemory) = None

abbrev pub answer_of : Stop → Answer
answer_of stop.End = Ok next.End
answer_of (stop.Fault f) = Err (wire.Fault f)
answer_of stop.ReadFailed = Err wire.ReadFailed
