-- A rate file (this project's rule).
use Rattle.std.specs.Prelude.{ℕ, ◌==◌, List, [], ◌∷◌, Option, Some, None, option_map, Result, Ok, Err, length, if◌then◌else◌}
use Rattle.csv.specs.Records.{field_at}
use Rattle.ee_units.specs.Spelling.{rate_of, issue_of}
use Rattle.ee_value.specs.Chain.{rates_with}
use Rattle.ee_value.specs.declared.rates.RateRow.{RateRow}
use Rattle.ee_files.specs.Fields.{Bytes, ◌>>=◌, value_at}
use Rattle.ee_files.specs.Rows.{rows_of_file}
use Rattle.ee_files.specs.declared.columns.FileColumn.{FileColumn}
use Rattle.ee_files.specs.declared.columns.FileColumn.TheVariants as column
use Rattle.ee_files.specs.declared.faults.FileCode.TheVariants.{WrongFieldCount}
use Rattle.ee_files.specs.declared.faults.FileFault.{FileFault}

-- the columns of a file that names no extensions
abbrev pub rate_columns : List FileColumn
rate_columns = column.From ∷ column.Rate ∷ []

-- the columns of a file that names extensions
abbrev pub extended_columns : List FileColumn
extended_columns = column.From ∷ column.Rate ∷ column.Extension ∷ []

-- an empty field means no extension
abbrev pub extension_of : Bytes → Option (Option ℕ)
extension_of [] = Some None
extension_of (b ∷ bs) = option_map Some (rate_of (b ∷ bs))

-- the extension of a record, given the number of fields in the header
abbrev pub extension_at : ℕ → ℕ → List Bytes → Result (Option ℕ) FileFault
extension_at width row fields = if width == 3 then value_at row column.Extension extension_of (field_at fields 2) else Ok None

-- the row of one record, given the number of fields in the header, or its first fault from the left
unfoldable pub rate_entry : ℕ → ℕ → List Bytes → Result RateRow FileFault
rate_entry width row fields = if length fields == width then (do
  from ← value_at row column.From issue_of (field_at fields 0)
  rate ← value_at row column.Rate rate_of (field_at fields 1)
  extension ← extension_at width row fields
  Ok (record { from = from; rates = rates_with rate extension }))
    else Err (record { row = row; code = WrongFieldCount })

-- the rows of a rate file, or its first fault
abbrev pub rates_of_file : Bytes → Result (List RateRow) FileFault
rates_of_file bytes = rows_of_file (rate_columns ∷ extended_columns ∷ []) rate_entry bytes
