use Rattle.std.proofs.Common.{Some, None}
use Rattle.ee_store_rows.proofs.ReadValues.{serial_read, serial_fits}
use Rattle.ee_store_rows.proofs.lines.line_with.Goals as goal

pub returns-in_err-serial-clause-read : goal.returns-in_err-serial-clause-read
returns-in_err-serial-clause-read c fits =
    let never = serial_fits c.args.letter c.args.number None c.in_err-serial.ensures fits in
    absurd (cc)

pub returns-clause-shown : goal.returns-clause-shown
returns-clause-shown c =
    let it = serial_read c.args.letter c.args.number (Some c.in_ok-serial.serial) c.in_ok-serial.ensures in
    λ i. record { letter = it.0 i; number = it.1 i; cents = c.args.cents }
