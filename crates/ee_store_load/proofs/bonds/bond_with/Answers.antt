use Rattle.std.proofs.Common.{rules, ◌≡◌}
use Rattle.std.specs.Prelude.{Some, None}
use Rattle.ee_units.specs.Spelling.{serial_at}
use Rattle.ee_store_tables.specs.AsRows.{row_of_bond}
use Rattle.ee_store_load.proofs.BondLemmas.{bond_has_serial, entry_of}
use Rattle.ee_store_load.proofs.bonds.bond_with.Goals as goal

pub returns-in_err-serial-clause-read : goal.returns-in_err-serial-clause-read
returns-in_err-serial-clause-read c is =
    let none : serial_at c.args.key.letter c.args.key.number ≡ None = search rules in
    absurd (bond_has_serial c.args.key.letter c.args.key.number (row_of_bond c.args.numbers) is none)

pub returns-clause-shown : goal.returns-clause-shown
returns-clause-shown c =
    let found : serial_at c.args.key.letter c.args.key.number ≡ Some c.in_ok-serial.serial = search rules in
    entry_of c.args.key.letter c.args.key.number (row_of_bond c.args.numbers) c.in_ok-serial.serial found c.held_from.result c.held_from.ensures.shown
