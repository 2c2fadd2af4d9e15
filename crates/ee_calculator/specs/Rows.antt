-- The rows of the calculator: what its columns show under each note (this project's rule, over the
-- columns and notes of TreasuryDirect's Savings Bond Calculator).
use Rattle.std.specs.Prelude.{ℕ, ◌+◌, ◌-◌, ◌*◌, ◌/◌, Option, Some, None}
use Rattle.ee_units.specs.Calendar.{age_of}
use Rattle.ee_value.specs.declared.rates.Rates.{Rates}
use Rattle.ee_value.specs.Chain.{rate_in}
use Rattle.ee_value.specs.Value.{redemption}
use Rattle.ee_calculator.specs.Notes.{note_at}
use Rattle.ee_calculator.specs.declared.notes.Note.{Note}
use Rattle.ee_calculator.specs.declared.notes.Note.TheVariants as note
use Rattle.ee_calculator.specs.declared.rows.Row.{Row}
use Rattle.ee_units.specs.Limits.{unit_price}

-- the columns that depend on the note: months as counts, money in cents
pub record Columns : Type 0 where
  pub next_accrual : Option ℕ
  pub final_maturity : Option ℕ
  pub price : ℕ
  pub interest : ℕ
  pub rate : Option ℕ
  pub value : ℕ
  pub note : Note

-- the value of a bond in a month, from age 12 on: its units times the redemption value of one unit at that age
unfoldable pub value_in : ℕ → ℕ → Rates → ℕ → ℕ
value_in units issued rates month = units * redemption rates (month - issued)

-- the columns, in the order of the table below
abbrev pub columns_with : Note → ℕ → ℕ → ℕ → Option ℕ → Option ℕ → Option ℕ → Columns
columns_with note price interest value rate next last = record {
  next_accrual = next;
  final_maturity = last;
  price = price;
  interest = interest;
  rate = rate;
  value = value;
  note = note;
}

-- what the columns show under each note, given a price, a value, a rate, the next month and the last month of interest:
-- note, price, interest, value, rate, next accrual and final maturity
abbrev pub shown : Note → ℕ → ℕ → ℕ → ℕ → ℕ → Columns
shown note.Ni price value rate next last = columns_with note.Ni 0 0 0 None None None
shown note.Ne price value rate next last = columns_with note.Ne price 0 price (Some rate) (Some next) (Some last)
shown note.P5 price value rate next last = columns_with note.P5 price (value - price) value (Some rate) (Some next) (Some last)
shown note.Plain price value rate next last = columns_with note.Plain price (value - price) value (Some rate) (Some next) (Some last)
shown note.Ma price value rate next last = columns_with note.Ma price (value - price) value None None (Some last)

-- the columns, in a month, of a bond with this number of units: a price of 12.50 dollars a unit, the rate in force in that
-- month, and 30 years of interest
unfoldable pub columns_of : ℕ → ℕ → Rates → ℕ → Columns
columns_of units issued rates month =
    shown (note_at (age_of issued month)) (unit_price * units) (value_in units issued rates month)
    (rate_in rates ((month - issued) / 6)) (month + 1) (issued + 360)

-- the same columns of a row
abbrev pub columns_in : Row → Columns
columns_in row = record {
  next_accrual = row.next_accrual;
  final_maturity = row.final_maturity;
  price = row.price.0;
  interest = row.interest.0;
  rate = row.rate;
  value = row.value.0;
  note = row.note;
}
