use Rattle.std.proofs.Common.{rules}
use Rattle.ee_cli_program.proofs.run.refuse_words.Goals as goal

pub returns-else-is_ok-clause-not_text : goal.returns-else-is_ok-clause-not_text
returns-else-is_ok-clause-not_text g c = search rules

pub returns-in_default : goal.returns-in_default
returns-in_default g c = search rules
