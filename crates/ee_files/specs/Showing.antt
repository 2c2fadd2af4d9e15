-- How a field at fault is shown (this project's rule).
use Rattle.std.specs.Prelude.{ℕ, zero, suc, ◌-◌, List, [], ◌∷◌, ◌++◌, Option, Some, None, length, map, take, codes, nat_lt, option_and_then, option_map, if◌then◌else◌}
use Rattle.csv.specs.Reading.{default_config, records, strip_bom}
use Rattle.csv.specs.Records.{field_at}
use Rattle.ee_files.specs.Fields.{Bytes}
use Rattle.ee_files.specs.declared.columns.FileColumn.{FileColumn}
use Rattle.ee_files.specs.declared.columns.FileColumn.TheVariants as column

-- the place of a column in a record of its file
abbrev pub place_of : FileColumn → ℕ
place_of column.From = 0
place_of column.Rate = 1
place_of column.Extension = 2
place_of column.Serial = 0
place_of column.Denom = 1
place_of column.Issued = 2
place_of column.Owner = 3
place_of column.Coowner = 4

-- a byte that isn't printable ASCII is shown as `?`
abbrev pub shown_byte : ℕ → ℕ
shown_byte b = if nat_lt b 32 then 63 else (if nat_lt b 127 then b else 63)

-- the most bytes of a field that are shown
abbrev pub most_shown : ℕ
most_shown = 40

-- the field, or its front and two points if it has more than this many bytes
abbrev pub shown_up_to : ℕ → Bytes → Bytes
shown_up_to most field = if nat_lt most (length field) then map shown_byte (take most field) ++ codes ".." else map shown_byte field

-- the record with this many before it
unfoldable pub record_after : ℕ → List (List Bytes) → Option (List Bytes)
record_after before [] = None
record_after zero (fields ∷ rest) = Some fields
record_after (suc before) (fields ∷ rest) = record_after before rest

-- the field of a column in a record, counted from 1
abbrev pub field_in : List (List Bytes) → ℕ → FileColumn → Option Bytes
field_in records row column = option_and_then (λ fields. field_at fields (place_of column)) (record_after (row - 1) records)

-- the field of a column in a record of a file, as it is shown
abbrev pub shown_in : Bytes → ℕ → FileColumn → Option Bytes
shown_in bytes row column = option_map (shown_up_to most_shown) (field_in (records default_config (strip_bom bytes)) row column)
