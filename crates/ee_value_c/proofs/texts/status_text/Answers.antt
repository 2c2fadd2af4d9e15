use Rattle.std.proofs.Common.{rules}
use Rattle.ee_value_c.proofs.texts.status_text.Goals as goal

pub returns-in-3-clause-text : goal.returns-in-3-clause-text
returns-in-3-clause-text c = search rules
