-- Definitions that private contracts alone cite; specs/Reading.antt has the others.
use Rattle.std.specs.Prelude.{ℕ, ◌+◌, ◌*◌, ◌-◌, ◌^◌, ◌==◌, ◌&&◌, Bool, nat_lt, nat_le, length, if◌then◌else◌, List, [], ◌∷◌, codes, Option, Some, None, option_and_then, option_map, bytes_eq}
use Rattle.std.specs.Option.{option_or}
use Rattle.std.specs.Char.{is_ascii_digit}
use Rattle.std.specs.List.{list_all}
use Rattle.std.specs.Str.Parse.{digits_value}
use Rattle.json.specs.Json.{Json, Items, no_items, item}
use Rattle.json.specs.Find.{get, as_number, as_str, as_array}
use Rattle.ee_units.specs.Spelling.{◌>>=◌, SerialNumber, in_range, parts_at, number_of, digits_of, rate_of, issue_of, day_of, serial_of}
use Rattle.ee_units.specs.Denoms.{denom_with}
use Rattle.ee_calculator.specs.declared.bonds.Bond.{Bond}
use Rattle.ee_value.specs.Chain.{rates_with}
use Rattle.ee_value.specs.declared.rates.RateRow.{RateRow}
use Rattle.ee_desk_model.specs.declared.acts.Act.{Act}
use Rattle.ee_desk_model.specs.declared.acts.Act.TheVariants as act
use Rattle.ee_desk_model.specs.declared.replies.Line.{Line}
use Rattle.ee_desk_model.specs.declared.replies.Reply.{Reply}
use Rattle.ee_desk_model.specs.declared.replies.Reply.TheVariants as reply
use Rattle.ee_desk_model.specs.declared.refusals.Refusal.{Refusal}
use Rattle.ee_desk_model.specs.declared.refusals.Refusal.TheVariants as refusal
use Rattle.ee_desk_texts.specs.declared.refusals.Named.{Named}
use Rattle.ee_desk_texts.specs.declared.refusals.Named.TheVariants as named
use Rattle.ee_units.specs.Limits.{highest_customer, latest_month}

-- ---- single values

-- whole dollars, a point and two digits, in cents
unfoldable pub cents_of : List ℕ → Option ℕ
cents_of text = do
  parts ← parts_at 46 text
  whole ← number_of 18 (parts.0)
  part ← digits_of 2 (parts.1)
  in_range 0 (2 ^ 64 - 1) (100 * whole + part)

-- one or more digits, and nothing else
unfoldable pub is_whole : List ℕ → Bool
is_whole text = nat_le 1 (length text) && list_all is_ascii_digit text

-- the number that these digits write, below 2^64
unfoldable pub count_of : List ℕ → Option ℕ
count_of text = if is_whole text then (if nat_lt (digits_value 10 text) (2 ^ 64) then Some (digits_value 10 text) else None) else None

-- a text under a key
abbrev pub text_at : List ℕ → Json → Option (List ℕ)
text_at key d = option_and_then as_str (get key d)

-- a number under a key
abbrev pub count_at : List ℕ → Json → Option ℕ
count_at key d = option_and_then as_number (get key d) >>= count_of

abbrev pub customer_at : List ℕ → Json → Option ℕ
customer_at key d = count_at key d >>= in_range 1 highest_customer

abbrev pub day_at : List ℕ → Json → Option ℕ
day_at key d = text_at key d >>= day_of

abbrev pub rate_at : List ℕ → Json → Option ℕ
rate_at key d = text_at key d >>= rate_of

abbrev pub issue_at : List ℕ → Json → Option ℕ
issue_at key d = text_at key d >>= issue_of

abbrev pub serial_at : List ℕ → Json → Option SerialNumber
serial_at key d = text_at key d >>= serial_of

abbrev pub age_at : List ℕ → Json → Option ℕ
age_at key d = count_at key d >>= in_range 0 latest_month

abbrev pub cents_at : List ℕ → Json → Option ℕ
cents_at key d = text_at key d >>= cents_of

-- ---- lists

abbrev pub each : {A : Type 0} → (Json → Option A) → Items → Option (List A)
each row no_items = Some []
each row (item d ds) = row d >>= λ x. each row ds >>= λ xs. Some (x ∷ xs)

abbrev pub items_at : List ℕ → Json → Option Items
items_at key d = option_and_then as_array (get key d)

-- ---- acts

unfoldable pub rate_row_of : Json → Option RateRow
rate_row_of d = do
  from ← issue_at (codes "from") d
  rate ← rate_at (codes "rate") d
  Some (record { from = from; rates = rates_with rate (rate_at (codes "extension") d) })

unfoldable pub bond_with : Option ℕ → Json → Option Bond
bond_with coowner d = do
  denom ← count_at (codes "denom") d >>= denom_with
  issued ← issue_at (codes "issued") d
  owner ← customer_at (codes "owner") d
  serial ← serial_at (codes "serial") d
  Some (record { serial = serial; denom = denom; issued = issued; owner = owner; coowner = coowner })

abbrev pub bond_of : Json → Option Bond
bond_of d = bond_with (customer_at (codes "coowner") d) d

abbrev pub serial_in : Json → Option SerialNumber
serial_in d = as_str d >>= serial_of

unfoldable pub redeem_of : Json → Option Act
redeem_of d = do
  day ← day_at (codes "day") d
  payee ← customer_at (codes "payee") d
  serials ← items_at (codes "serials") d >>= each serial_in
  Some (act.Redeem day payee serials)

abbrev pub add_rates_of : Json → Option Act
add_rates_of d = option_map act.AddRates (items_at (codes "rates") d >>= each rate_row_of)

abbrev pub add_bonds_of : Json → Option Act
add_bonds_of d = option_map act.AddBonds (items_at (codes "bonds") d >>= each bond_of)

abbrev pub open_of : Json → Option Act
open_of d = option_map act.OpenDay (day_at (codes "day") d)

abbrev pub close_of : Json → Option Act
close_of d = option_map act.CloseDay (day_at (codes "day") d)

abbrev pub act_named : List ℕ → Json → Option Act
act_named name d =
    if bytes_eq name (codes "rates") then add_rates_of d
    else if bytes_eq name (codes "bonds") then add_bonds_of d
    else if bytes_eq name (codes "open") then open_of d
    else if bytes_eq name (codes "redeem") then redeem_of d
    else if bytes_eq name (codes "close") then close_of d
    else None

abbrev pub act_of : Json → Option Act
act_of d = text_at (codes "act") d >>= λ name. act_named name d

-- ---- replies

unfoldable pub added_of : Json → Option Reply
added_of d = do
  new ← count_at (codes "new") d
  same ← count_at (codes "same") d
  Some (reply.Added new same)

abbrev pub opened_of : Json → Option Reply
opened_of d = option_map reply.Opened (day_at (codes "opened") d)

unfoldable pub batch_of : Json → Option Reply
batch_of d = do
  bonds ← count_at (codes "bonds") d
  day ← day_at (codes "day") d
  tickets ← count_at (codes "tickets") d
  total ← cents_at (codes "total") d
  Some (reply.Batch (record { day = day; tickets = tickets; bonds = bonds; total = record { 0 = total } }))

unfoldable pub line_of : Json → Option Line
line_of d = do
  paid ← cents_at (codes "paid") d
  serial ← serial_at (codes "serial") d
  Some (record { serial = serial; cents = record { 0 = paid } })

unfoldable pub ticket_of : Json → Option Reply
ticket_of d = do
  day ← day_at (codes "day") d
  payee ← customer_at (codes "payee") d
  ticket ← count_at (codes "ticket") d
  total ← cents_at (codes "total") d
  lines ← items_at (codes "lines") d >>= each line_of
  Some (reply.Ticket (record { ticket = ticket; day = day; payee = payee; lines = lines; total = record { 0 = total } }))

-- what a refusal's JSON names
abbrev pub named_by : Option SerialNumber → Option ℕ → Option ℕ → Option ℕ → Named
named_by (Some serial) (Some ticket) month age = named.Paid serial ticket
named_by (Some serial) None month age = named.Bond serial
named_by None ticket (Some month) age = named.Period month
named_by None ticket None (Some age) = named.Months age
named_by None ticket None None = named.Nothing

abbrev pub named_of : Json → Named
named_of d =
    named_by (serial_at (codes "serial") d) (count_at (codes "ticket") d) (issue_at (codes "month") d) (age_at (codes "month") d)

abbrev pub refusal_of_nothing : ℕ → Option Refusal
refusal_of_nothing code =
    if code == 10 then Some refusal.NumberReused
    else if code == 11 then Some refusal.Empty
    else if code == 12 then Some refusal.TooMany
    else if code == 40 then Some refusal.DayOpen
    else if code == 41 then Some refusal.DayNotLater
    else if code == 42 then Some refusal.NoOpenDay
    else if code == 43 then Some refusal.DayIsOther
    else if code == 44 then Some refusal.DayFull
    else None

abbrev pub refusal_of_month : ℕ → ℕ → Option Refusal
refusal_of_month code month =
    if code == 20 then Some (refusal.NotAnnouncementMonth month)
    else if code == 21 then Some (refusal.RateConflict month)
    else None

abbrev pub refusal_of_serial : ℕ → SerialNumber → Option Refusal
refusal_of_serial code serial =
    if code == 13 then Some (refusal.Repeated serial)
    else if code == 14 then Some (refusal.SameCoowner serial)
    else if code == 30 then Some (refusal.NoRate serial)
    else if code == 31 then Some (refusal.SerialConflict serial)
    else if code == 50 then Some (refusal.UnknownSerial serial)
    else if code == 51 then Some (refusal.NotPayee serial)
    else if code == 53 then Some (refusal.NotIssued serial)
    else if code == 54 then Some (refusal.NotEligible serial)
    else None

abbrev pub refusal_with : ℕ → Named → Option Refusal
refusal_with code named.Nothing = refusal_of_nothing code
refusal_with code (named.Period month) = refusal_of_month code month
refusal_with code (named.Months age) = if code == 22 then Some (refusal.RateUnsettled age) else None
refusal_with code (named.Bond serial) = refusal_of_serial code serial
refusal_with code (named.Paid serial ticket) = if code == 52 then Some (refusal.AlreadyPaid serial ticket) else None

unfoldable pub refused_of : Json → Option Reply
refused_of d = do
  code ← count_at (codes "code") d
  refusal ← refusal_with code (named_of d)
  Some (reply.Refused refusal)

-- the shapes, tried in order
abbrev pub short_reply_of : Json → Option Reply
short_reply_of d = option_or (added_of d) (option_or (opened_of d) (option_or (batch_of d) (refused_of d)))

abbrev pub reply_of : Json → Option Reply
reply_of d = option_or (short_reply_of d) (ticket_of d)
