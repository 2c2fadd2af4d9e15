use Rattle.std.proofs.Common.{ap, ◌∙◌, arith, rules}
use Rattle.std.proofs.lemmas.Grind.{common_steps}
use Rattle.ee_desk_model.specs.Views.{shown_by}
use Rattle.ee_desk_model.specs.Refusals.{refusal_of_serial}
use Rattle.ee_desk_decide.proofs.Payable.{none_at}
use Rattle.ee_desk_decide.proofs.decisions.ticket_for.Goals as goal

pub line_for-line-requires : goal.line_for-line-requires
line_for-line-requires c =
    ap (λ m. refusal_of_serial (shown_by c.args.view.now) m c.args.payee c.serial-item.result) c.month_of-month.ensures
    ∙ none_at _ c.args.serials.now c.loop-serial.serial-index c.serial-item.result c.requires.payable c.loop-serial-test.true c.serial-item.is

pub loop-serial-preserved : goal.loop-serial-preserved
loop-serial-preserved c = grind (arith, common_steps)

pub loop-serial-init : goal.loop-serial-init
loop-serial-init c = search rules

pub returns : goal.returns
returns c = grind (arith, common_steps)

pub returns-in_err-push : goal.returns-in_err-push
returns-in_err-push c = search rules
