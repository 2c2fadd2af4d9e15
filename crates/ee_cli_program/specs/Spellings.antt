-- How a word of a line or a field of a file has to be spelled.
use Rattle.std.specs.Prelude.{List, ℕ, Option, Some, None, codes, if◌then◌else◌}
use Rattle.std.specs.Str.{bytes_eq}
use Rattle.ee_files.specs.declared.columns.FileColumn.{FileColumn}
use Rattle.ee_files.specs.declared.columns.FileColumn.TheVariants as column
use Rattle.ee_cli_program.specs.declared.spellings.Spelling.{Spelling}
use Rattle.ee_cli_program.specs.declared.spellings.Spelling.TheVariants as spelling

-- the form and the range of a value
abbrev pub spelling_text : Spelling → List ℕ
spelling_text spelling.Denom = codes "a denomination is 50, 75, 100, 200, 500, 1000, 5000 or 10000"
spelling_text spelling.Issue = codes "an issue month is 2005-05 to 2099-12, as 2010-05 or 05/2010"
spelling_text spelling.Month = codes "a month is 2005-05 to 2199-12, as 2015-05 or 05/2015"
spelling_text spelling.Rate = codes "a rate is 0 to 20.00 percent, as 3.50"
spelling_text spelling.Serial = codes "a serial number is a letter, 1 to 9999999999 and EE, as L1EE"
spelling_text spelling.Customer = codes "a customer is a number from 1 to 999999999"
spelling_text spelling.Desk = codes "a desk is a number from 0 to 999"

-- the spelling of an argument with this name
abbrev pub spelling_of_argument : List ℕ → Option Spelling
spelling_of_argument name = if bytes_eq name (codes "denom") then Some spelling.Denom
    else (if bytes_eq name (codes "issued") then Some spelling.Issue
    else (if bytes_eq name (codes "month") then Some spelling.Month
    else (if bytes_eq name (codes "rate") then Some spelling.Rate
    else (if bytes_eq name (codes "extension") then Some spelling.Rate
    else (if bytes_eq name (codes "customer") then Some spelling.Customer
    else (if bytes_eq name (codes "desk") then Some spelling.Desk else None))))))

-- the spelling of a column
abbrev pub spelling_of_column : FileColumn → Spelling
spelling_of_column column.From = spelling.Issue
spelling_of_column column.Rate = spelling.Rate
spelling_of_column column.Extension = spelling.Rate
spelling_of_column column.Serial = spelling.Serial
spelling_of_column column.Denom = spelling.Denom
spelling_of_column column.Issued = spelling.Issue
spelling_of_column column.Owner = spelling.Customer
spelling_of_column column.Coowner = spelling.Customer
