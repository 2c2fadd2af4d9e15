use Rattle.std.proofs.Common.{◌≡◌, ◌≤◌, ◌*◌, ◌^◌, map, take, sum_by}
use Rattle.ee_desk_model.specs.Seen.{line_for}
use Rattle.ee_desk_model.specs.PlainBooks.{cents_of}
use Rattle.ee_desk_model.specs.Views.{shown_by}
use Rattle.ee_desk_decide.proofs.decisions.ticket_for.Given as goal

abbrev pub invariant-loop-serial : goal.invariant-loop-serial
invariant-loop-serial l = record {
  lines : l.lines.items ≡ map (line_for (shown_by l.view) l.month) (take l.serial-index l.serials);
  total : l.total ≡ sum_by cents_of l.lines.items;
  small : l.total ≤ l.serial-index * 2 ^ 42;
}
