-- The columns of files (this project's rule).
use Rattle.std.specs.Prelude.{ℕ, List, codes}
use Rattle.ee_files.specs.declared.columns.FileColumn.{FileColumn}
use Rattle.ee_files.specs.declared.columns.FileColumn.TheVariants as column

-- a column's name in a header
abbrev pub column_name : FileColumn → List ℕ
column_name column.From = codes "from"
column_name column.Rate = codes "rate"
column_name column.Extension = codes "extension"
column_name column.Serial = codes "serial"
column_name column.Denom = codes "denom"
column_name column.Issued = codes "issued"
column_name column.Owner = codes "owner"
column_name column.Coowner = codes "coowner"
