use Rattle.std.proofs.Common.{subst, Result}
use Rattle.ee_cli_actions.specs.declared.faults.Outcome.{Outcome}
use Rattle.ee_cli_actions.specs.declared.faults.RunFault.{RunFault}
use Rattle.ee_cli_actions.specs.Actions.{TellsReply}
use Rattle.ee_cli_actions.proofs.Devices.{unread_of}
use Rattle.ee_cli_actions.proofs.filing.import_into.Goals as goal

pub returns-clause-unread : goal.returns-clause-unread
returns-clause-unread g c = λ cause is code.
    let old = g.W.Write.contents c.args.output.now in
    let new = g.W.Write.contents c.print_answer.new.output in
    unread_of old new (g.R.Source.may_have_failed c.import_file-answer.new.file) c.import_file-answer.result cause
    (subst (λ (r : Result Outcome RunFault). TellsReply old new c.import_file-answer.result r) is c.print_answer.ensures.told) c.import_file-answer.ensures.device code
