use Rattle.std.proofs.Common.{rules}
use Rattle.ee_calculator.proofs.notes.Note.as_str.Goals as goal

pub returns-in-Ma-clause-text : goal.returns-in-Ma-clause-text
returns-in-Ma-clause-text c = search rules
