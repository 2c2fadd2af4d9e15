-- Definitions that private contracts alone cite; specs/Reading.antt has the others.
use Rattle.std.specs.Prelude.{◌≡◌, ℕ, ◌<◌, ◌≤◌, ◌⊎◌, List, ◌++◌, length, take, drop, Option, Result, Ok, Err}
use Rattle.std.specs.Io.KnownBytes.{Keeps, Consumes, IsAtEnd}
use Rattle.ee_wire_framing.specs.declared.FramingFault.TheVariants.{Truncated}
use Rattle.ee_wire_framing.specs.declared.buffer.Next.TheVariants as next
use Rattle.ee_wire_framing.specs.declared.buffer.WireEnd.TheVariants as wire
use Rattle.ee_wire_framing.specs.declared.buffer.FillFault.{FillFault}
use Rattle.ee_wire_framing.specs.declared.front.Front.{Front}
use Rattle.ee_wire_framing.specs.declared.front.Front.TheVariants as front
use Rattle.ee_wire_framing.specs.Stream.{Stream}
use Rattle.ee_wire_framing.specs.Framing.{most_head, BeginsMessage, BeginsFault, IsUndecided, HasCutBody, EndsWith, end, fault}
use Rattle.ee_wire_framing.specs.Reading.{Answer, message_in, most_read}

-- ---- the front of the bytes so far

abbrev pub IsFront : List ℕ → Front → Type 0
IsFront bytes (front.Message m len) =
    (len ≤ length bytes) × BeginsMessage bytes (message_in (take len bytes) m) (drop len bytes)
IsFront bytes (front.Fault f) = (more : List ℕ) → BeginsFault (bytes ++ more) f
IsFront bytes front.More = (IsUndecided bytes × (length bytes < most_head)) ⊎ HasCutBody bytes

-- ---- the end of the bytes

abbrev pub EndsAt : List ℕ → Answer → Type 0
EndsAt bytes (Ok (next.Message m)) = ⊥
EndsAt bytes (Ok next.End) = EndsWith bytes end
EndsAt bytes (Err (wire.Fault f)) = (f ≡ Truncated) × EndsWith bytes (fault f)
EndsAt bytes (Err wire.ReadFailed) = ⊥
EndsAt bytes (Err wire.NoMemory) = ⊥

-- ---- one read

-- n bytes were read, and none only if there are no more; or the read failed, and nothing changed
abbrev pub ReadsMore : Stream → Option (List ℕ) → Result ℕ FillFault → Stream → Option (List ℕ) → Type 0
ReadsMore old before (Ok n) new after =
    (got : List ℕ) × (length got ≡ n) × (new ≡ record old { held = old.held ++ got }) × Consumes before after got
    × (n ≡ 0 → IsAtEnd after) × (n ≤ most_read)
ReadsMore old before (Err e) new after = (new ≡ old) × Keeps before after
