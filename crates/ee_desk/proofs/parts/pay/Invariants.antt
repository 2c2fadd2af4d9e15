use Rattle.std.proofs.Common.{◌≡◌, drop}
use Rattle.std.specs.List.{list_any}
use Rattle.ee_desk_model.specs.Serials.{same_serial}
use Rattle.ee_desk.proofs.parts.pay.Given as goal

abbrev pub invariant-loop-line : goal.invariant-loop-line
invariant-loop-line l = list_any (λ line. same_serial l.serial line.serial) (drop l.line-index l.lines) ≡ list_any (λ line. same_serial l.serial line.serial) l.lines
