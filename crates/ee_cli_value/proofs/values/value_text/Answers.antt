use Rattle.std.proofs.Common.{rules}
use Rattle.ee_cli_value.proofs.values.value_text.Goals as goal

pub returns-clause-text : goal.returns-clause-text
returns-clause-text c = search rules
