use Rattle.std.proofs.Common.{◌≡◌, [], length, None, ◌-◌}
use Rattle.std.specs.Io.KnownBytes.{Keeps}
use Rattle.ee_wire_framing.specs.Reading.{left, NeedsMore}
use Rattle.ee_wire_framing.proofs.Calls.{HasRead}
use Rattle.ee_wire_framing.proofs.buffer.next_message.Given as goal

abbrev pub invariant-loop-message : goal.invariant-loop-message
invariant-loop-message g l =
    let remaining = g.R.Read.remaining in
    record {
      was_open : l.fn.buffer.ended ≡ None;
      is_open : l.buffer.ended ≡ None;
      shown : l.buffer.shown ≡ [];
      kept : Keeps (left l.fn.buffer (remaining l.fn.reader)) (left l.buffer (remaining l.reader));
      took : HasRead l.fn.buffer.held (remaining l.fn.reader) l.buffer.held (remaining l.reader);
      unread : ¬ (NeedsMore l.fn.buffer.held) → (l.reader ≡ l.fn.reader) × (l.buffer.held ≡ l.fn.buffer.held);
    }

abbrev pub decreases-loop-message : goal.decreases-loop-message
decreases-loop-message g l = 1064960 - length l.buffer.held
