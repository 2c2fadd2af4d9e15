use Rattle.std.proofs.Common.{rules, append_assoc}
use Rattle.ee_calculator.proofs.columns.push_placed.Goals as goal

pub returns-in-Price : goal.returns-in-Price
returns-in-Price c = search (append_assoc, rules)
