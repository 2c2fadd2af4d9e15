use Rattle.std.proofs.Common.{rules}
use Rattle.ee_value_c.specs.Answers.{payment_of}
use Rattle.ee_value.specs.Payment.{is_payment_open}
use Rattle.ee_value_c.proofs.values.payment_of.Goals as goal

pub returns-in-Pays-clause-value : goal.returns-in-Pays-clause-value
unfolding payment_of is_payment_open
returns-in-Pays-clause-value c = search rules
