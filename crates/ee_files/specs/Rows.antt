-- The rows of a file (this project's rule): the records of its bytes by csv's default dialect.
use Rattle.std.specs.Prelude.{ℕ, zero, suc, ◌+◌, Bool, List, [], ◌∷◌, Result, Ok, Err, length, map, nat_lt, if◌then◌else◌}
use Rattle.std.specs.List.{list_any}
use Rattle.std.specs.Cmp.Lexicographic.{pointwise}
use Rattle.std.specs.Str.{bytes_eq}
use Rattle.csv.specs.Reading.{default_config, records, strip_bom}
use Rattle.ee_files.specs.Columns.{column_name}
use Rattle.ee_files.specs.Fields.{Bytes, ◌>>=◌}
use Rattle.ee_files.specs.declared.columns.FileColumn.{FileColumn}
use Rattle.ee_files.specs.declared.faults.FileCode.TheVariants.{BadHeader, FileTooLong}
use Rattle.ee_files.specs.declared.faults.FileFault.{FileFault}

-- the rows of the records from this row on, up to a maximum, or the first fault
unfoldable pub rows_from : {A : Type 0} → (ℕ → List Bytes → Result A FileFault) → ℕ → ℕ → List (List Bytes) → Result (List A) FileFault
rows_from entry row zero rest = Ok []
rows_from entry row (suc most) [] = Ok []
rows_from entry row (suc most) (fields ∷ rest) = do
  first ← entry row fields
  others ← rows_from entry (row + 1) most rest
  Ok (first ∷ others)

-- two records have the same fields
abbrev pub same_fields : List Bytes → List Bytes → Bool
same_fields fields others = pointwise bytes_eq fields others

abbrev pub header_of : List FileColumn → List Bytes
header_of columns = map column_name columns

-- the record is one of the headers
abbrev pub is_header : List (List FileColumn) → List Bytes → Bool
is_header headers fields = list_any (λ columns. same_fields fields (header_of columns)) headers

-- the first 501 rows under one of the headers; the number of fields in the header decides how a record is read; a file
-- without a record has no rows
unfoldable pub rows_of_records : {A : Type 0} → List (List FileColumn) → (ℕ → ℕ → List Bytes → Result A FileFault) → List (List Bytes)
    → Result (List A) FileFault
rows_of_records headers entry [] = Ok []
rows_of_records headers entry (header ∷ rest) =
    if is_header headers header then rows_from (entry (length header)) 2 501 rest else Err (record { row = 1; code = BadHeader })

-- the most bytes of a file, 1 MiB
abbrev pub most_bytes : ℕ
most_bytes = 1048576

-- the rows of a file of at most 1,048,576 bytes; a byte order mark before the first record is dropped
unfoldable pub rows_of_file : {A : Type 0} → List (List FileColumn) → (ℕ → ℕ → List Bytes → Result A FileFault)
    → Bytes → Result (List A) FileFault
rows_of_file headers entry bytes = if nat_lt most_bytes (length bytes) then Err (record { row = 1; code = FileTooLong })
    else rows_of_records headers entry (records default_config (strip_bom bytes))
