use Rattle.std.proofs.Common.{refl}
use Rattle.sqlite_disk.specs.Modelled.{start_of}
use Rattle.ee_cli_stores.proofs.files.StoreFilesStores.close.Goals as goal

pub returns-in-Ok-clause-rests : goal.returns-in-Ok-clause-rests
returns-in-Ok-clause-rests g c = (c.in-Ok.ensures.at_rest, c.in-Ok.ensures.history, c.in-Ok.ensures.clean, c.in-Ok.ensures.tested, λ shielded. c.in-Ok.ensures.tested shielded (start_of g.F.Start) (λ f. f.calls.log.events) (record { clean = λ _. refl; fair = λ _. refl; keyed = λ _. refl }))

pub returns-in-Err-clause-keeps : goal.returns-in-Err-clause-keeps
returns-in-Err-clause-keeps g c = ((c.in-Err.ensures.left, c.in-Err.ensures.follows, c.in-Err.ensures.was_clean), c.in-Err.ensures.cause)
