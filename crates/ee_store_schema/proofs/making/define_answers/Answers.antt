use Rattle.std.proofs.lemmas.Result.{on_ok_weaker}
use Rattle.ee_store_schema.specs.Forms.{first_tables}
use Rattle.ee_store_schema.specs.Inner.Making.{both_tables}
use Rattle.ee_store_schema.proofs.Lemmas.Faults.{each_fault}
use Rattle.ee_store_schema.proofs.TakesLemmas.{takes_answers}
use Rattle.ee_store_schema.proofs.TextLemmas.{adds_answers}
use Rattle.ee_store_schema.proofs.making.define_answers.Goals as goal

pub returns-clause-gained : goal.returns-clause-gained
returns-clause-gained g c clean = on_ok_weaker c.define_table.result (λ gained. gained first_tables both_tables adds_answers) (c.define_table.ensures.gained clean)

pub returns-clause-added : goal.returns-clause-added
returns-clause-added g c clean = on_ok_weaker c.define_table.result (λ added. added first_tables both_tables adds_answers) (c.define_table.ensures.added clean)

pub returns-clause-usable : goal.returns-clause-usable
returns-clause-usable g c clean = each_fault c.define_table.result (λ e usable. usable first_tables both_tables adds_answers) (c.define_table.ensures.usable clean)

pub returns-clause-cause : goal.returns-clause-cause
returns-clause-cause g c = c.define_table.ensures.cause first_tables both_tables adds_answers takes_answers
