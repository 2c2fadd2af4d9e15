use Rattle.std.proofs.Common.{rules}
use Rattle.ee_cli_commands.proofs.rows.port_arg.Goals as goal

pub returns-clause-local : goal.returns-clause-local
returns-clause-local c = search rules

pub returns-clause-rule : goal.returns-clause-rule
returns-clause-rule c = search rules
