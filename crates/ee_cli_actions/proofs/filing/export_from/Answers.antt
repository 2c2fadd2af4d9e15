use Rattle.std.proofs.Common.{rules}
use Rattle.ee_cli_actions.proofs.filing.export_from.Goals as goal

pub returns-in-Ok-clause-exports : goal.returns-in-Ok-clause-exports
returns-in-Ok-clause-exports g c = search rules

pub returns-in-Err-WriteFailed-clause-exports : goal.returns-in-Err-WriteFailed-clause-exports
returns-in-Err-WriteFailed-clause-exports g c = search rules

pub returns-in-Err-Unserved-clause-exports : goal.returns-in-Err-Unserved-clause-exports
returns-in-Err-Unserved-clause-exports g c = search rules
