use Rattle.ee_store_tables.proofs.rates.find_rate.Goals as goal

pub returns-clause-cause : goal.returns-clause-cause
returns-clause-cause g c clean inside endless rows sees any = tt
