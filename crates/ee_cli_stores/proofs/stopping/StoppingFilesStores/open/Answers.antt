use Rattle.std.proofs.Common.{◌*◌, arith}
use Rattle.sqlite.specs.Files.{file_state, image_of, IsCleanLeft}
use Rattle.ee_store_tables.proofs.Lemmas.Causes.{room_less}
use Rattle.ee_store.specs.Holding.{AreSettled, KeepsHeld}
use Rattle.ee_cli_stores.proofs.Told.{is_still, is_told, of_settled}
use Rattle.ee_cli_stores.proofs.stopping.StoppingFilesStores.open.Goals as goal

pub returns-in-Ok-clause-opened : goal.returns-in-Ok-clause-opened
returns-in-Ok-clause-opened g c clean content holds =
    (c.lines_law.ensures.has _ content c.in-Ok.keeper.conn holds (c.in-Ok.ensures.opened clean), c.in-Ok.ensures.informed)

pub returns-in-Ok-clause-gone : goal.returns-in-Ok-clause-gone
returns-in-Ok-clause-gone g c clean start events left =
    (c.lines_law.ensures.opens start events _ c.in-Ok.keeper.conn left (c.in-Ok.ensures.opened clean), c.in-Ok.ensures.informed)

pub returns-in-Ok-clause-tested : goal.returns-in-Ok-clause-tested
returns-in-Ok-clause-tested g c clean = (c.in-Ok.ensures.opened clean).shielded

pub returns-in-Ok-clause-takes : goal.returns-in-Ok-clause-takes
returns-in-Ok-clause-takes g c clean = λ n room.
    ((c.in-Ok.ensures.opened clean).ready, λ m few. room_less (file_state c.in-Ok.keeper.conn) (501 * m) (501 * n) (omega (arith, few)) room)

pub returns-in-Err-clause-told : goal.returns-in-Err-clause-told
returns-in-Err-clause-told g c = is_told c.in-Err.not.cause c.in-Err.not.fault c.fault_of.result c.fault_of.ensures c.in-Err.ensures.told

pub returns-in-Err-clause-refused : goal.returns-in-Err-clause-refused
returns-in-Err-clause-refused g c settled =
    let not = c.in-Err.not in
    let it = c.in-Err.ensures in
    let held = image_of g.D.Disk c.args.self.files in
    (not.fault, is_still not.fault held not.rest c.left_of.result c.left_of.ensures it.refused (of_settled not.rest (AreSettled g.D.Disk c.args.self.files) IsCleanLeft (KeepsHeld held) settled it.held))
