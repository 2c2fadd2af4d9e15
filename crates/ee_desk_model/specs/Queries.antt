-- Queries, which don't change the books (this project's rule).
use Rattle.std.specs.Prelude.{◌≡◌, ⊤, ℕ, Bool, ◌&&◌, ◌==◌, List, filter, find, is_none, Option, Some, None, sum_by, map}
use Rattle.std.specs.Option.{option_map}
use Rattle.std.specs.List.{filter_map}
use Rattle.std.specs.FinMap as finite
use Rattle.std.specs.FinMap.{FinMap}
use Rattle.std.specs.Ordering.{nat_cmp}
use Rattle.ee_units.specs.Spelling.{SerialNumber}
use Rattle.ee_units.specs.Denoms.{units_of}
use Rattle.ee_units.specs.Calendar.{period_start}
use Rattle.ee_units.specs.declared.denoms.Denom.{Denom}
use Rattle.ee_value.specs.declared.rates.Rates.{Rates}
use Rattle.ee_calculator.specs.declared.bonds.Bond.{Bond}
use Rattle.ee_calculator.specs.declared.rows.Row.{Row}
use Rattle.ee_calculator.specs.declared.sheets.Sheet.{Sheet}
use Rattle.ee_calculator.specs.Rows.{Columns, columns_in, columns_of}
use Rattle.ee_desk_model.specs.declared.queries.Query.{Query}
use Rattle.ee_desk_model.specs.declared.queries.Query.TheVariants as query
use Rattle.ee_desk_model.specs.declared.queries.Shown.{Shown}
use Rattle.ee_desk_model.specs.declared.queries.Shown.TheVariants as shown
use Rattle.ee_desk_model.specs.declared.replies.Batch.{Batch}
use Rattle.ee_desk_model.specs.declared.replies.Ticket.{Ticket}
use Rattle.ee_desk_model.specs.PlainBooks.{PlainBooks, ticket_of}

abbrev pub ticket_numbered : PlainBooks → ℕ → Option Ticket
ticket_numbered books number = find (λ ticket. ticket.ticket == number) books.tickets

-- the batch of a closed day
abbrev pub batch_on : PlainBooks → ℕ → Option Batch
batch_on books day = find (λ batch. batch.day == day) books.batches

-- the customer owns the bond, and no ticket pays it
abbrev pub is_open_bond : List Ticket → ℕ → Bond → Bool
is_open_bond tickets customer bond = (bond.owner == customer) && is_none (ticket_of tickets bond.serial)

-- the unpaid bonds whose owner is this customer, in order of serial number
abbrev pub bonds_of : PlainBooks → ℕ → List Bond
bonds_of books customer = filter (is_open_bond books.tickets customer) (finite.values books.bonds)

-- everything that a row shows
pub record PlainRow : Type 0 where
  pub serial : Option SerialNumber
  pub denom : Denom
  pub issued : ℕ
  pub columns : Columns

abbrev pub shown_in_row : Row → PlainRow
shown_in_row row = record { serial = row.serial; denom = row.denom; issued = row.issued; columns = columns_in row }

-- the row of a bond in a month, at these rates
abbrev pub plain_row : Option SerialNumber → Denom → ℕ → ℕ → Rates → PlainRow
plain_row serial denom issued month rates =
    record { serial = serial; denom = denom; issued = issued; columns = columns_of (units_of denom) issued rates month }

-- the row of a bond in a month, at the rates of its issue period; None without rates
abbrev pub row_of : FinMap nat_cmp Rates → ℕ → Bond → Option PlainRow
row_of rates month bond =
    option_map (plain_row (Some bond.serial) bond.denom bond.issued month) (finite.get rates (period_start bond.issued))

-- the row of a bond that isn't in the register
abbrev pub quote_of : PlainBooks → Denom → ℕ → ℕ → Option PlainRow
quote_of books denom issued month =
    option_map (plain_row None denom issued month) (finite.get books.rates (period_start issued))

-- everything that a sheet shows: rows, and their sums in cents
pub record PlainSheet : Type 0 where
  pub rows : List PlainRow
  pub price : ℕ
  pub value : ℕ
  pub interest : ℕ

abbrev pub shown_in_sheet : Sheet → PlainSheet
shown_in_sheet sheet = record {
  rows = map shown_in_row sheet.rows.items;
  price = sheet.price.0;
  value = sheet.value.0;
  interest = sheet.interest.0;
}

abbrev pub sheet_of : List PlainRow → PlainSheet
sheet_of rows = record {
  rows = rows;
  price = sum_by (λ row. row.columns.price) rows;
  value = sum_by (λ row. row.columns.value) rows;
  interest = sum_by (λ row. row.columns.interest) rows;
}

-- the sheet of bonds in a month
abbrev pub sheet_in : FinMap nat_cmp Rates → ℕ → List Bond → PlainSheet
sheet_in rates month bonds = sheet_of (filter_map (row_of rates month) bonds)

-- the sheet of a customer's unpaid bonds in a month
abbrev pub inventory : PlainBooks → ℕ → ℕ → PlainSheet
inventory books customer month = sheet_in books.rates month (bonds_of books customer)

-- the sheet, in a month, of the unpaid bonds of an owner
abbrev pub IsInventory : PlainBooks → ℕ → ℕ → Sheet → Type 0
IsInventory books customer month sheet = shown_in_sheet sheet ≡ inventory books customer month

-- the row, in a month, of an unregistered bond; None without rates
abbrev pub IsQuote : PlainBooks → Denom → ℕ → ℕ → Option Row → Type 0
IsQuote books denom issued month row = option_map shown_in_row row ≡ quote_of books denom issued month

-- the answer of the books to a query
abbrev pub ShowsQuery : PlainBooks → Query → Shown → Type 0
ShowsQuery books (query.Inventory customer month) (shown.Sheet sheet) = IsInventory books customer month sheet
ShowsQuery books (query.Bonds customer) (shown.Bonds bonds) = bonds.items ≡ bonds_of books customer
ShowsQuery books (query.Ticket number) (shown.Ticket ticket) = ticket ≡ ticket_numbered books number
ShowsQuery books (query.Batch day) (shown.Batch batch) = batch ≡ batch_on books day
ShowsQuery books (query.Value denom issued month) (shown.Row row) = IsQuote books denom issued month row
ShowsQuery books _ _ = ⊥

-- what is shown is of the kind that the query asks for
abbrev pub IsKind : Query → Shown → Type 0
IsKind (query.Inventory customer month) (shown.Sheet sheet) = ⊤
IsKind (query.Bonds customer) (shown.Bonds bonds) = ⊤
IsKind (query.Ticket number) (shown.Ticket ticket) = ⊤
IsKind (query.Batch day) (shown.Batch batch) = ⊤
IsKind (query.Value denom issued month) (shown.Row row) = ⊤
IsKind _ _ = ⊥
