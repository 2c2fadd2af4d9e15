-- Definitions that private contracts alone cite; specs/Rows.antt has the others.
use Rattle.std.specs.Prelude.{ℕ, Bool, List, [], unwrap_or}
use Rattle.std.specs.Str.{bytes_eq}
use Rattle.csv.specs.Records.{field_at}
use Rattle.ee_files.specs.Columns.{column_name}
use Rattle.ee_files.specs.Fields.{Bytes}
use Rattle.ee_files.specs.declared.columns.FileColumn.{FileColumn}

-- the field at this position is the column's name
abbrev pub name_at : List Bytes → ℕ → FileColumn → Bool
name_at fields place column = bytes_eq (unwrap_or (field_at fields place) []) (column_name column)
