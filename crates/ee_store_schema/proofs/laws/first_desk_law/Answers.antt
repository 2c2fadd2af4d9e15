use Rattle.ee_store_schema.proofs.Lemmas.Desks.{first_desk_get, other_desk_get}
use Rattle.ee_store_schema.proofs.laws.first_desk_law.Goals as goal

pub returns-clause-first : goal.returns-clause-first
returns-clause-first c = first_desk_get

pub returns-clause-others : goal.returns-clause-others
returns-clause-others c = other_desk_get
