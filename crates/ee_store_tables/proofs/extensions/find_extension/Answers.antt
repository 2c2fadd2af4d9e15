use Rattle.ee_store_tables.proofs.extensions.find_extension.Goals as goal

pub returns-clause-cause : goal.returns-clause-cause
returns-clause-cause g c clean inside endless rows sees any = tt
