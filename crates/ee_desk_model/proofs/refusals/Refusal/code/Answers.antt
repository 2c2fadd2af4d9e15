use Rattle.std.proofs.Common.{rules}
use Rattle.ee_desk_model.proofs.refusals.Refusal.code.Goals as goal

pub returns-in-NotPayee : goal.returns-in-NotPayee
returns-in-NotPayee c = search rules
