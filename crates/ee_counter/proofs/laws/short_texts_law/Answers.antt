use Rattle.ee_desk_model.specs.declared.acts.Act.TheVariants as act
use Rattle.ee_desk_model.specs.Numbers.{numbered}
use Rattle.ee_counter.proofs.Fitting.{message_fits, file_fits}
use Rattle.ee_counter.proofs.laws.short_texts_law.Goals as goal

pub returns-clause-messages : goal.returns-clause-messages
returns-clause-messages c = λ d bytes rest m it. message_fits d bytes rest m it

pub returns-clause-rates : goal.returns-clause-rates
returns-clause-rates c = λ d key rows few. file_fits d (numbered key (act.AddRates rows)) few

pub returns-clause-bonds : goal.returns-clause-bonds
returns-clause-bonds c = λ d key rows few. file_fits d (numbered key (act.AddBonds rows)) few
