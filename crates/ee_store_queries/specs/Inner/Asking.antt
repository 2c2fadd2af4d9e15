-- Definitions that private contracts alone cite; specs/Asking.antt has the others.
use Rattle.ee_units.specs.Denoms.{dollars}
use Rattle.ee_calculator.specs.declared.bonds.Bond.{Bond}
use Rattle.ee_store_tables.specs.declared.records.PlacedLine.{PlacedLine}
use Rattle.ee_store_tables.specs.declared.records.UnpaidBond.{UnpaidBond}
use Rattle.ee_store_tables.specs.Rows.{PaidRow}

-- the row of a line, without its place
abbrev pub row_of_placed : PlacedLine → PaidRow
row_of_placed line = record { letter = line.letter; number = line.number; cents = line.cents }

-- the row of an unpaid bond
abbrev pub unpaid_row : Bond → UnpaidBond
unpaid_row bond = record {
  letter = bond.serial.letter;
  number = bond.serial.number;
  denom = dollars bond.denom;
  issued = bond.issued;
  owner = bond.owner;
  coowner = bond.coowner;
}
