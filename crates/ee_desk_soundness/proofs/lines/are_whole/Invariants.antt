use Rattle.std.proofs.Common.{◌↔◌, drop}
use Rattle.std.specs.List.{AllByRecursion}
use Rattle.ee_desk_soundness.specs.Inner.Checks.{IsWhole}
use Rattle.ee_desk_soundness.proofs.lines.are_whole.Given as goal

abbrev pub invariant-loop-ticket : goal.invariant-loop-ticket
invariant-loop-ticket l = AllByRecursion IsWhole (drop l.ticket-index l.tickets) ↔ AllByRecursion IsWhole l.tickets
