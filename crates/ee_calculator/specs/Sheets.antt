-- The text of a sheet (this project's rule). Widths are minimum widths.
use Rattle.std.specs.Prelude.{ℕ, ◌-◌, ◌++◌, List, [], ◌∷◌, Option, Some, None, length, replicate, codes}
use Rattle.std.specs.List.{flat_map}
use Rattle.std.specs.Fmt.{decimal}
use Rattle.ee_units.specs.Denoms.{dollars}
use Rattle.ee_units.specs.Texts.{decimal_text, serial_text, sheet_month_text, rate_text}
use Rattle.ee_calculator.specs.Notes.{note_text}
use Rattle.ee_calculator.specs.declared.rows.Row.{Row}
use Rattle.ee_calculator.specs.declared.columns.Column.{Column}
use Rattle.ee_calculator.specs.declared.columns.Column.TheVariants as column
use Rattle.ee_calculator.specs.declared.sheets.Sheet.{Sheet}

-- the columns from left to right
abbrev pub columns : List Column
columns = column.Serial ∷ column.Series ∷ column.Denom ∷ column.Issued ∷ column.Next ∷ column.Final ∷ column.Price ∷ column.Interest ∷ column.Rate ∷ column.Value ∷ column.Note ∷ []

abbrev pub heading : Column → List ℕ
heading column.Serial = codes "Serial"
heading column.Series = codes "Series"
heading column.Denom = codes "Denom"
heading column.Issued = codes "Issued"
heading column.Next = codes "Next"
heading column.Final = codes "Final"
heading column.Price = codes "Price"
heading column.Interest = codes "Interest"
heading column.Rate = codes "Rate"
heading column.Value = codes "Value"
heading column.Note = codes "Note"

-- padded to a minimum width, by spaces after the text or before it
abbrev pub on_left : ℕ → List ℕ → List ℕ
on_left width text = text ++ replicate (width - length text) 32

abbrev pub on_right : ℕ → List ℕ → List ℕ
on_right width text = replicate (width - length text) 32 ++ text

-- the text in its column: one space separates it from the column before, and an empty note takes no room
abbrev pub placed : Column → List ℕ → List ℕ
placed column.Serial text = on_left 13 text
placed column.Series text = 32 ∷ on_left 6 text
placed column.Denom text = 32 ∷ on_right 6 text
placed column.Issued text = 32 ∷ on_left 7 text
placed column.Next text = 32 ∷ on_left 7 text
placed column.Final text = 32 ∷ on_left 7 text
placed column.Price text = 32 ∷ on_right 12 text
placed column.Interest text = 32 ∷ on_right 14 text
placed column.Rate text = 32 ∷ on_right 6 text
placed column.Value text = 32 ∷ on_right 14 text
placed column.Note [] = []
placed column.Note (b ∷ bs) = 32 ∷ b ∷ bs

-- a line, from the text of each column, with a line feed at its end
unfoldable pub line : (Column → List ℕ) → List ℕ
line cell = flat_map (λ c. placed c (cell c)) columns ++ 10 ∷ []

abbrev pub when_some : {A : Type 0} → (A → List ℕ) → Option A → List ℕ
when_some text None = []
when_some text (Some x) = text x

-- the text of a row in a column
abbrev pub row_cell : Row → Column → List ℕ
row_cell row column.Serial = when_some serial_text row.serial
row_cell row column.Series = codes "EE"
row_cell row column.Denom = decimal (dollars row.denom)
row_cell row column.Issued = sheet_month_text row.issued
row_cell row column.Next = when_some sheet_month_text row.next_accrual
row_cell row column.Final = when_some sheet_month_text row.final_maturity
row_cell row column.Price = decimal_text row.price.0
row_cell row column.Interest = decimal_text row.interest.0
row_cell row column.Rate = when_some rate_text row.rate
row_cell row column.Value = decimal_text row.value.0
row_cell row column.Note = note_text row.note

-- the text of the totals in a column
abbrev pub total_cell : Sheet → Column → List ℕ
total_cell sheet column.Serial = codes "Total"
total_cell sheet column.Price = decimal_text sheet.price.0
total_cell sheet column.Interest = decimal_text sheet.interest.0
total_cell sheet column.Value = decimal_text sheet.value.0
total_cell sheet c = []

-- the heading, one line for each row, and the totals
unfoldable pub sheet_text : Sheet → List ℕ
sheet_text sheet = line heading ++ flat_map (λ r. line (row_cell r)) sheet.rows.items ++ line (total_cell sheet)
