-- Definitions that private contracts alone cite; specs/Served.antt has the others.
use Rattle.ee_desk_model.specs.declared.refusals.Unserved.{Unserved}
use Rattle.ee_desk_model.specs.declared.refusals.Unserved.TheVariants as unserved
use Rattle.ee_store_tables.specs.declared.failures.Failure.{Failure}
use Rattle.ee_store_tables.specs.declared.failures.Failure.TheVariants.{NoMemory, StoreFailed}

abbrev pub unserved_as : Failure → Unserved
unserved_as NoMemory = unserved.NoMemory
unserved_as StoreFailed = unserved.StoreFailed
