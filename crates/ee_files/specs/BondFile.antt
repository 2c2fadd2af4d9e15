-- An inventory file (this project's rule).
use Rattle.std.specs.Prelude.{◌≤◌, ℕ, ◌==◌, List, [], ◌∷◌, Option, Some, None, Result, Ok, Err, IfSome, length, map, option_map, if◌then◌else◌}
use Rattle.std.specs.List.{flat_map}
use Rattle.std.specs.Fmt.{decimal}
use Rattle.csv.specs.Writing.{row_text, default_writer}
use Rattle.csv.specs.Records.{field_at}
use Rattle.ee_units.specs.Spelling.{serial_of, customer_of, issue_of}
use Rattle.ee_units.specs.Denoms.{denom_of, dollars}
use Rattle.ee_units.specs.Texts.{serial_text, month_text}
use Rattle.ee_calculator.specs.declared.bonds.Bond.{Bond}
use Rattle.ee_files.specs.Fields.{Bytes, ◌>>=◌, value_at}
use Rattle.ee_files.specs.Rows.{header_of, rows_of_file}
use Rattle.ee_files.specs.declared.columns.FileColumn.{FileColumn}
use Rattle.ee_files.specs.declared.columns.FileColumn.TheVariants as column
use Rattle.ee_files.specs.declared.faults.FileCode.TheVariants.{WrongFieldCount}
use Rattle.ee_files.specs.declared.faults.FileFault.{FileFault}
use Rattle.ee_units.specs.Limits.{highest_customer, highest_serial, latest_issue_month}

abbrev pub bond_columns : List FileColumn
bond_columns = column.Serial ∷ column.Denom ∷ column.Issued ∷ column.Owner ∷ column.Coowner ∷ []

-- an empty field means no coowner
abbrev pub coowner_of : Bytes → Option (Option ℕ)
coowner_of [] = Some None
coowner_of (b ∷ bs) = option_map Some (customer_of (b ∷ bs))

-- the bond of one record, or its first fault from the left
unfoldable pub bond_entry : ℕ → List Bytes → Result Bond FileFault
bond_entry row fields = if length fields == 5 then (do
  serial ← value_at row column.Serial serial_of (field_at fields 0)
  denom ← value_at row column.Denom denom_of (field_at fields 1)
  issued ← value_at row column.Issued issue_of (field_at fields 2)
  owner ← value_at row column.Owner customer_of (field_at fields 3)
  coowner ← value_at row column.Coowner coowner_of (field_at fields 4)
  Ok (record { serial = serial; denom = denom; issued = issued; owner = owner; coowner = coowner }))
    else Err (record { row = row; code = WrongFieldCount })

-- the bonds of an inventory file, or its first fault
abbrev pub bonds_of_file : Bytes → Result (List Bond) FileFault
bonds_of_file bytes = rows_of_file (bond_columns ∷ []) (λ _. bond_entry) bytes

-- no coowner is written as an empty field
abbrev pub coowner_text : Option ℕ → Bytes
coowner_text None = []
coowner_text (Some c) = decimal c

-- the fields of a bond
abbrev pub bond_fields : Bond → List Bytes
bond_fields b = serial_text b.serial ∷ decimal (dollars b.denom) ∷ month_text b.issued ∷ decimal b.owner ∷ coowner_text b.coowner ∷ []

-- the header, and one line for each bond, in order
unfoldable pub inventory_text : List Bond → Bytes
inventory_text bonds = flat_map (row_text default_writer) (header_of bond_columns ∷ map bond_fields bonds)

-- the ranges of a bond's values
abbrev pub IsBond : Bond → Type 0
IsBond b = ((1 ≤ b.serial.letter) × (b.serial.letter ≤ 26) × (1 ≤ b.serial.number) × (b.serial.number ≤ highest_serial))
    × (b.issued ≤ latest_issue_month) × ((1 ≤ b.owner) × (b.owner ≤ highest_customer))
    × IfSome b.coowner (λ c. (1 ≤ c) × (c ≤ highest_customer))
