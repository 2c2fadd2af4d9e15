use Rattle.ee_cli_stores.proofs.stopping.StoppingFilesStores.close.Goals as goal

pub returns-clause-keeps : goal.returns-clause-keeps
returns-clause-keeps g c = (c.stop.ensures.left, λ clean. (c.stop.ensures.was_clean clean, c.stop.ensures.has_numbers clean))
