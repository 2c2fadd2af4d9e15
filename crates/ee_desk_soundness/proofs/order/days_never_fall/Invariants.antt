use Rattle.std.proofs.Common.{◌↔◌, ◌≤◌, map, drop}
use Rattle.ee_desk_model.specs.Sound.{day_of}
use Rattle.ee_desk_soundness.specs.Checks.{InOrder}
use Rattle.ee_desk_soundness.proofs.InOrder.{Follows}
use Rattle.ee_desk_soundness.proofs.order.days_never_fall.Given as goal

abbrev pub invariant-loop-ticket : goal.invariant-loop-ticket
invariant-loop-ticket l = Follows ◌≤◌ l.last (map day_of (drop l.ticket-index l.tickets)) ↔ InOrder ◌≤◌ (map day_of l.tickets)
