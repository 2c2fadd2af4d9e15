-- What the store's tables hold, as maps.
use Rattle.std.specs.Prelude.{◌≡◌, ◌≢◌, ◌≤◌, ⊤, ℕ, ◌+◌, ◌^◌, pos, List, [], ◌∷◌, length, Option, Some, None, IsTrue, filter, ◌==◌, ◌&&◌, is_none, IsUtf8}
use Rattle.std.specs.List.{AllByRecursion}
use Rattle.std.specs.declared.cmp.Ordering.{Ordering}
use Rattle.std.specs.Ordering.{nat_cmp}
use Rattle.std.specs.FinMap.{FinMap, get, insert, entries}
use Rattle.sqlite.specs.declared.types.Value.{Value}
use Rattle.sqlite.specs.declared.types.Value.TheVariants.{Null, Int, Text as Words}
use Rattle.sqlite.specs.Order.{Row}
use Rattle.sqlite.specs.Effect.{IsDatabase}
use Rattle.sqlite.specs.Tree.{Trees, rowid}
use Rattle.sqlite.specs.State.{State}
use Rattle.sqlite.specs.Schema.{Schema}
use Rattle.sqlite_catalog.specs.Listing.{IsSound}
use Rattle.ee_store_tables.specs.Tables.{HasCounterTables, KeepsOthers}
use Rattle.ee_store_tables.specs.Keyed.{pair_cmp, HoldsMap, HoldsPairs}

pub record DeskRow : Type 0 where
  pub version : ℕ
  pub day : Option ℕ
  pub last_day : Option ℕ

pub record BondRow : Type 0 where
  pub denom : ℕ
  pub issued : ℕ
  pub owner : ℕ
  pub coowner : Option ℕ
  pub ticket : Option ℕ

pub record TicketRow : Type 0 where
  pub day : ℕ
  pub payee : ℕ
  pub bonds : ℕ
  pub total : ℕ

pub record PaidRow : Type 0 where
  pub letter : ℕ
  pub number : ℕ
  pub cents : ℕ

pub record BatchRow : Type 0 where
  pub tickets : ℕ
  pub bonds : ℕ
  pub total : ℕ

pub record ReplyRow : Type 0 where
  pub act : List ℕ
  pub reply : List ℕ

pub record Rows : Type 0 where
  pub desk : FinMap nat_cmp DeskRow
  pub rates : FinMap nat_cmp ℕ
  pub bonds : FinMap pair_cmp BondRow
  pub tickets : FinMap nat_cmp TicketRow
  pub paid : FinMap pair_cmp PaidRow
  pub batches : FinMap nat_cmp BatchRow
  pub extensions : FinMap nat_cmp ℕ
  pub answers : FinMap pair_cmp ReplyRow

abbrev pub number : ℕ → Value
number n = Int (pos n)

abbrev pub optional : Option ℕ → Value
optional None = Null
optional (Some n) = Int (pos n)

abbrev pub desk_columns : DeskRow → Row
desk_columns d = number d.version ∷ optional d.day ∷ optional d.last_day ∷ []

abbrev pub rate_columns : ℕ → Row
rate_columns r = number r ∷ []

abbrev pub bond_columns : BondRow → Row
bond_columns b = number b.denom ∷ number b.issued ∷ number b.owner ∷ optional b.coowner ∷ optional b.ticket ∷ []

abbrev pub ticket_columns : TicketRow → Row
ticket_columns t = number t.day ∷ number t.payee ∷ number t.bonds ∷ number t.total ∷ []

abbrev pub paid_columns : PaidRow → Row
paid_columns p = number p.letter ∷ number p.number ∷ number p.cents ∷ []

abbrev pub batch_columns : BatchRow → Row
batch_columns b = number b.tickets ∷ number b.bonds ∷ number b.total ∷ []

abbrev pub reply_columns : ReplyRow → Row
reply_columns r = Words r.act ∷ Words r.reply ∷ []

pub record Holds (db : Trees) (rows : Rows) : Type 0 where
  pub desk : HoldsMap desk_columns (db 0) rows.desk
  pub rates : HoldsMap rate_columns (db 1) rows.rates
  pub bonds : HoldsPairs bond_columns (db 2) rows.bonds
  pub tickets : HoldsMap ticket_columns (db 5) rows.tickets
  pub paid : HoldsPairs paid_columns (db 7) rows.paid
  pub batches : HoldsMap batch_columns (db 10) rows.batches
  pub extensions : HoldsMap rate_columns (db 12) rows.extensions
  pub answers : HoldsPairs reply_columns (db 13) rows.answers

-- the trees list the counter's tables, and maybe others', and obey them, as `sqlite` keeps them, and hold these rows
pub record Stores (db : Trees) (rows : Rows) : Type 0 where
  pub schema : Schema
  pub tables : HasCounterTables schema
  pub sound : IsSound schema db
  pub holds : Holds db rows

-- A transaction has begun, over the counter's tables. Others' tables are as the last commit left them. Nothing is said of a
-- store that a failing disk has shut.
abbrev pub IsInside : State → Type 0
IsInside s = IsTrue s.is_open → IsTrue s.in_transaction × HasCounterTables s.now.schema × KeepsOthers s.committed s.now

-- a transaction sees these rows
abbrev pub Sees : State → Rows → Type 0
Sees s rows = IsTrue s.is_open → HasCounterTables s.now.schema × Holds s.now.trees rows

-- the last commit left these rows
abbrev pub Has : State → Rows → Type 0
Has s rows = IsTrue s.is_open → HasCounterTables s.committed.schema × Holds s.committed.trees rows

-- the rowids rise from one, and this many more fit above them
abbrev pub Rises : ℕ → ℕ → List Row → Type 0
Rises low n [] = low + n ≤ 2 ^ 63
Rises low n (r ∷ rows) = (id : ℕ) × (rowid r ≡ Int (pos id)) × (low ≤ id) × Rises (id + 1) n rows

-- this many more rows fit in `bonds`, in `paid` and in `answers`, where a new rowid is one above the last
abbrev pub HasRoomIn : ℕ → Trees → Type 0
HasRoomIn n db = Rises 1 n (db 2) × Rises 1 n (db 7) × Rises 1 n (db 13)

-- what a transaction sees obeys the tables, and has this room
abbrev pub HasRoom : ℕ → State → Type 0
HasRoom n s = IsTrue s.is_open → IsDatabase s.now × HasRoomIn n s.now.trees

-- the texts are UTF-8
abbrev pub IsText : ReplyRow → Type 0
IsText r = IsUtf8 r.act × IsUtf8 r.reply

-- ---- what is written

-- with an entry for a key, unless the key has one
abbrev pub insert_new : {K X : Type 0} {R : K → K → Ordering} → FinMap R X → K → X → Option X → FinMap R X
insert_new m k x None = insert m k x
insert_new m k x (Some old) = m

-- with the open day and the last closed day, if the desk's row exists
abbrev pub day_set : Rows → Option ℕ → Option ℕ → Option DeskRow → Rows
day_set rows day last_day None = rows
day_set rows day last_day (Some desk) = record rows { desk = insert rows.desk 1 (record desk { day = day; last_day = last_day }) }

abbrev pub with_day : Rows → Option ℕ → Option ℕ → Rows
with_day rows day last_day = day_set rows day last_day (get rows.desk 1)

-- with the version in the desk's row, if it exists
abbrev pub with_version_of : FinMap nat_cmp DeskRow → ℕ → Option DeskRow → FinMap nat_cmp DeskRow
with_version_of desk version None = desk
with_version_of desk version (Some row) = insert desk 1 (record row { version = version })

abbrev pub with_version : FinMap nat_cmp DeskRow → ℕ → FinMap nat_cmp DeskRow
with_version desk version = with_version_of desk version (get desk 1)

-- with a rate for a period, unless the period has one
abbrev pub with_rate : Rows → ℕ × ℕ → Rows
with_rate rows rate = record rows { rates = insert_new rows.rates rate.0 rate.1 (get rows.rates rate.0) }

-- with an extension for a period, unless the period has one
abbrev pub with_extension : Rows → ℕ × ℕ → Rows
with_extension rows extension = record rows { extensions = insert_new rows.extensions extension.0 extension.1 (get rows.extensions extension.0) }

-- with a bond under its serial number, unless that has one
abbrev pub with_bond : Rows → (ℕ × ℕ) × BondRow → Rows
with_bond rows bond = record rows { bonds = insert_new rows.bonds bond.0 bond.1 (get rows.bonds bond.0) }

-- with bonds in order, each unless its serial number has one
abbrev pub with_bonds : Rows → List ((ℕ × ℕ) × BondRow) → Rows
with_bonds rows [] = rows
with_bonds rows (bond ∷ bonds) = with_bonds (with_bond rows bond) bonds

abbrev pub with_batch : Rows → ℕ → BatchRow → Rows
with_batch rows day batch = record rows { batches = insert rows.batches day batch }

abbrev pub with_answer : Rows → ℕ × ℕ → ReplyRow → Rows
with_answer rows k reply = record rows { answers = insert rows.answers k reply }

abbrev pub with_ticket : Rows → ℕ → TicketRow → Rows
with_ticket rows n ticket = record rows { tickets = insert rows.tickets n ticket }

abbrev pub with_paid : Rows → ℕ × ℕ → PaidRow → Rows
with_paid rows k line = record rows { paid = insert rows.paid k line }

-- with the bond marked as paid on the ticket, if it is registered
abbrev pub marked_as : Rows → ℕ × ℕ → ℕ → Option BondRow → Rows
marked_as rows k t None = rows
marked_as rows k t (Some bond) = record rows { bonds = insert rows.bonds k (record bond { ticket = Some t }) }

abbrev pub marked : Rows → ℕ × ℕ → ℕ → Rows
marked rows k t = marked_as rows k t (get rows.bonds k)

abbrev pub with_line : Rows → ℕ → ℕ → PaidRow → Rows
with_line rows t place line = marked (with_paid rows (t, place) line) (line.letter, line.number) t

-- with lines added to a ticket, in consecutive places from this one, and their bonds marked
abbrev pub with_lines : Rows → ℕ → ℕ → List PaidRow → Rows
with_lines rows t place [] = rows
with_lines rows t place (line ∷ lines) = with_lines (with_line rows t place line) t (place + 1) lines

-- ---- what may be written

-- the texts fit a row, which takes a billion bytes in all
abbrev pub FitsRow : ReplyRow → Type 0
FitsRow r = length r.act + length r.reply ≤ 900000000

-- no serial number of these bonds is registered, and none is there twice
abbrev pub CanRegisterAll : Rows → List ((ℕ × ℕ) × BondRow) → Type 0
CanRegisterAll rows [] = ⊤
CanRegisterAll rows (bond ∷ bonds) = (get rows.bonds bond.0 ≡ None) × CanRegisterAll (with_bond rows bond) bonds

-- no line pays this bond
abbrev pub IsUnpaid : Rows → ℕ × ℕ → Type 0
IsUnpaid rows k = AllByRecursion (λ e. (e.1.letter, e.1.number) ≢ k) (entries rows.paid)

-- no line has this place on the ticket, and none pays the bond
abbrev pub CanPay : Rows → ℕ → ℕ → PaidRow → Type 0
CanPay rows t place line = (get rows.paid (t, place) ≡ None) × IsUnpaid rows (line.letter, line.number)

-- the same for each line in order, in consecutive places from this one
abbrev pub CanPayAll : Rows → ℕ → ℕ → List PaidRow → Type 0
CanPayAll rows t place [] = ⊤
CanPayAll rows t place (line ∷ lines) = CanPay rows t place line × CanPayAll (with_line rows t place line) t (place + 1) lines

-- ---- what is looked up

-- the tickets of a day, by number
abbrev pub tickets_on : Rows → ℕ → List (ℕ × TicketRow)
tickets_on rows day = filter (λ e. e.1.day == day) (entries rows.tickets)

-- the number of the first entry, if there is one
abbrev pub first_number : {X : Type 0} → List (ℕ × X) → Option ℕ
first_number [] = None
first_number (e ∷ more) = Some e.0

-- the number of the last entry, if there is one
abbrev pub last_number : {X : Type 0} → List (ℕ × X) → Option ℕ
last_number [] = None
last_number (e ∷ []) = Some e.0
last_number (e ∷ f ∷ more) = last_number (f ∷ more)

-- the lines of a ticket, by place
abbrev pub lines_on : Rows → ℕ → List ((ℕ × ℕ) × PaidRow)
lines_on rows ticket = filter (λ e. e.0.0 == ticket) (entries rows.paid)

-- the unpaid bonds of an owner, by serial number
abbrev pub unpaid_of : Rows → ℕ → List ((ℕ × ℕ) × BondRow)
unpaid_of rows owner = filter (λ e. (e.1.owner == owner) && is_none e.1.ticket) (entries rows.bonds)
