use Rattle.std.proofs.Common.{◌≡◌, drop}
use Rattle.ee_desk_model.specs.Refusals as is
use Rattle.ee_desk_model.specs.Views.{shown_by}
use Rattle.ee_desk_decide.proofs.checks.first_unpayable.Given as goal

abbrev pub invariant-loop-serial : goal.invariant-loop-serial
invariant-loop-serial l = is.first_of (is.refusal_of_serial (shown_by l.view) l.month l.payee) (drop l.serial-index l.serials) ≡ is.first_of (is.refusal_of_serial (shown_by l.view) l.month l.payee) l.serials
