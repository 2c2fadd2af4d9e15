use Rattle.std.proofs.Common.{◌≡◌, ◌↔◌, drop, length}
use Rattle.std.specs.Prelude.{count_by}
use Rattle.ee_desk_model.specs.Paid.{paid_lines}
use Rattle.ee_desk_soundness.specs.Inner.Marks.{is_marked}
use Rattle.ee_desk_soundness.proofs.rows.are_as_many.Given as goal

abbrev pub invariant-loop-ticket : goal.invariant-loop-ticket
invariant-loop-ticket l = (l.left ≡ length (paid_lines (drop l.ticket-index l.tickets))) ↔ (count_by is_marked l.rows ≡ length (paid_lines l.tickets))
