use Rattle.std.proofs.Common.{◌*◌, arith}
use Rattle.sqlite.specs.Files.{file_state}
use Rattle.ee_store_tables.proofs.Lemmas.Causes.{room_less}
use Rattle.ee_cli_stores.proofs.Told.{has_cause, is_of_files, is_still, is_told}
use Rattle.ee_cli_stores.proofs.files.StoreFilesStores.open.Goals as goal

pub returns-in-Ok-clause-opened : goal.returns-in-Ok-clause-opened
returns-in-Ok-clause-opened g c clean content holds =
    (c.lines_law.ensures.has _ content c.in-Ok.keeper.conn holds (c.in-Ok.ensures.opened clean), c.in-Ok.ensures.informed)

pub returns-in-Ok-clause-gone : goal.returns-in-Ok-clause-gone
returns-in-Ok-clause-gone g c clean start events left =
    (c.lines_law.ensures.opens start events _ c.in-Ok.keeper.conn left (c.in-Ok.ensures.opened clean), c.in-Ok.ensures.informed)

pub returns-in-Err-clause-told : goal.returns-in-Err-clause-told
returns-in-Err-clause-told g c = is_told c.in-Err.not.cause c.in-Err.not.fault c.fault_of.result c.fault_of.ensures c.in-Err.ensures.told

pub returns-in-Err-clause-refused : goal.returns-in-Err-clause-refused
returns-in-Err-clause-refused g c =
    let not = c.in-Err.not in
    let it = c.in-Err.ensures in
    let left = c.left_of.ensures in
    (not.fault, c.fault_of.ensures, is_of_files not.fault not.rest _ left it.fault, has_cause not.fault _ _ not.cause it.told not.rest _ left it.cause it.left it.nothing, is_still not.fault _ not.rest _ left it.refused it.held)

pub returns-in-Ok-clause-tested : goal.returns-in-Ok-clause-tested
returns-in-Ok-clause-tested g c clean = (c.in-Ok.ensures.opened clean).shielded

pub returns-in-Ok-clause-takes : goal.returns-in-Ok-clause-takes
returns-in-Ok-clause-takes g c clean = λ n room.
    ((c.in-Ok.ensures.opened clean).ready, λ m few. room_less (file_state c.in-Ok.keeper.conn) (501 * m) (501 * n) (omega (arith, few)) room)
