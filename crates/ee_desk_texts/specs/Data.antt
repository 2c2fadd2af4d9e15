-- Acts and replies as JSON (this project's rule). Keys are in the order of their bytes. Money, rates, months, days and
-- serial numbers are strings; all other numbers are numbers.
use Rattle.std.specs.Prelude.{ℕ, List, map, codes, Option, Some, None}
use Rattle.serde_json.specs.Data.{Data, number, unsigned, string, array, object, Members, no_members, member}
use Rattle.serde_json.specs.View.{items_of}
use Rattle.ee_units.specs.Spelling.{SerialNumber}
use Rattle.ee_units.specs.Texts.{decimal_text, rate_text, month_text, day_text, serial_text}
use Rattle.ee_units.specs.Denoms.{dollars}
use Rattle.ee_calculator.specs.declared.bonds.Bond.{Bond}
use Rattle.ee_desk_model.specs.Codes.{code_of, name_of}
use Rattle.ee_value.specs.Chain.{named_extension}
use Rattle.ee_value.specs.declared.rates.RateRow.{RateRow}
use Rattle.ee_desk_model.specs.declared.acts.Act.{Act}
use Rattle.ee_desk_model.specs.declared.acts.Act.TheVariants as act
use Rattle.ee_desk_model.specs.declared.replies.Line.{Line}
use Rattle.ee_desk_model.specs.declared.replies.Ticket.{Ticket}
use Rattle.ee_desk_model.specs.declared.replies.Batch.{Batch}
use Rattle.ee_desk_model.specs.declared.replies.Reply.{Reply}
use Rattle.ee_desk_model.specs.declared.replies.Reply.TheVariants as reply
use Rattle.ee_desk_model.specs.declared.refusals.Refusal.{Refusal}
use Rattle.ee_desk_model.specs.declared.refusals.Refusal.TheVariants as refusal
use Rattle.ee_desk_texts.specs.declared.refusals.Named.{Named}
use Rattle.ee_desk_texts.specs.declared.refusals.Named.TheVariants as named

-- ---- single values

abbrev pub number_data : ℕ → Data
number_data n = number (unsigned n)

abbrev pub month_data : ℕ → Data
month_data month = string (month_text month)

abbrev pub day_data : ℕ → Data
day_data day = string (day_text day)

abbrev pub rate_data : ℕ → Data
rate_data rate = string (rate_text rate)

abbrev pub serial_data : SerialNumber → Data
serial_data serial = string (serial_text serial)

-- an amount of money in cents: dollars, a point and two digits
abbrev pub cents_data : ℕ → Data
cents_data cents = string (decimal_text cents)

abbrev pub list_data : {A : Type 0} → (A → Data) → List A → Data
list_data row rows = array (items_of (map row rows))

-- ---- acts

-- if the extension equals the fixed rate, its key is missing
abbrev pub with_extension : Option ℕ → Members → Members
with_extension None members = members
with_extension (Some extension) members = member (codes "extension") (rate_data extension) members

-- the rates of a period
abbrev pub rate_row_data : RateRow → Data
rate_row_data row =
    object (with_extension (named_extension row.rates) (member (codes "from") (month_data row.from)
    (member (codes "rate") (rate_data row.rates.fixed) no_members)))

-- without a coowner, the key is missing
abbrev pub with_coowner : Option ℕ → Members → Members
with_coowner None members = members
with_coowner (Some coowner) members = member (codes "coowner") (number_data coowner) members

abbrev pub bond_data : Bond → Data
bond_data bond =
    object (with_coowner bond.coowner (member (codes "denom") (number_data (dollars bond.denom))
    (member (codes "issued") (month_data bond.issued) (member (codes "owner") (number_data bond.owner)
    (member (codes "serial") (serial_data bond.serial) no_members)))))

abbrev pub act_data : Act → Data
act_data (act.AddRates rows) =
    object (member (codes "act") (string (codes "rates")) (member (codes "rates") (list_data rate_row_data rows) no_members))
act_data (act.AddBonds bonds) =
    object (member (codes "act") (string (codes "bonds")) (member (codes "bonds") (list_data bond_data bonds) no_members))
act_data (act.OpenDay day) =
    object (member (codes "act") (string (codes "open")) (member (codes "day") (day_data day) no_members))
act_data (act.Redeem day payee serials) =
    object (member (codes "act") (string (codes "redeem")) (member (codes "day") (day_data day)
    (member (codes "payee") (number_data payee) (member (codes "serials") (list_data serial_data serials) no_members))))
act_data (act.CloseDay day) =
    object (member (codes "act") (string (codes "close")) (member (codes "day") (day_data day) no_members))

-- ---- replies

abbrev pub line_data : Line → Data
line_data line = object (member (codes "paid") (cents_data line.cents.0) (member (codes "serial") (serial_data line.serial) no_members))

abbrev pub ticket_data : Ticket → Data
ticket_data ticket =
    object (member (codes "day") (day_data ticket.day) (member (codes "lines") (list_data line_data ticket.lines)
    (member (codes "payee") (number_data ticket.payee) (member (codes "ticket") (number_data ticket.ticket)
    (member (codes "total") (cents_data ticket.total.0) no_members)))))

abbrev pub batch_data : Batch → Data
batch_data batch =
    object (member (codes "bonds") (number_data batch.bonds) (member (codes "day") (day_data batch.day)
    (member (codes "tickets") (number_data batch.tickets) (member (codes "total") (cents_data batch.total.0) no_members))))

-- what a refusal names
abbrev pub names : Refusal → Named
names refusal.NumberReused = named.Nothing
names refusal.Empty = named.Nothing
names refusal.TooMany = named.Nothing
names (refusal.Repeated serial) = named.Bond serial
names (refusal.SameCoowner serial) = named.Bond serial
names (refusal.NotAnnouncementMonth month) = named.Period month
names (refusal.RateConflict month) = named.Period month
names (refusal.RateUnsettled age) = named.Months age
names (refusal.NoRate serial) = named.Bond serial
names (refusal.SerialConflict serial) = named.Bond serial
names refusal.DayOpen = named.Nothing
names refusal.DayNotLater = named.Nothing
names refusal.NoOpenDay = named.Nothing
names refusal.DayIsOther = named.Nothing
names refusal.DayFull = named.Nothing
names (refusal.UnknownSerial serial) = named.Bond serial
names (refusal.NotPayee serial) = named.Bond serial
names (refusal.AlreadyPaid serial ticket) = named.Paid serial ticket
names (refusal.NotIssued serial) = named.Bond serial
names (refusal.NotEligible serial) = named.Bond serial

-- a refusal's code, its name and what it names; an age is a number under the key `month`
abbrev pub refused_data : ℕ → List ℕ → Named → Data
refused_data code name named.Nothing =
    object (member (codes "code") (number_data code) (member (codes "refused") (string name) no_members))
refused_data code name (named.Period month) =
    object (member (codes "code") (number_data code) (member (codes "month") (month_data month) (member (codes "refused") (string name) no_members)))
refused_data code name (named.Months age) =
    object (member (codes "code") (number_data code) (member (codes "month") (number_data age) (member (codes "refused") (string name) no_members)))
refused_data code name (named.Bond serial) =
    object (member (codes "code") (number_data code) (member (codes "refused") (string name) (member (codes "serial") (serial_data serial) no_members)))
refused_data code name (named.Paid serial ticket) =
    object (member (codes "code") (number_data code) (member (codes "refused") (string name)
    (member (codes "serial") (serial_data serial) (member (codes "ticket") (number_data ticket) no_members))))

abbrev pub refusal_data : Refusal → Data
refusal_data refusal = refused_data (code_of refusal) (name_of refusal) (names refusal)

abbrev pub reply_data : Reply → Data
reply_data (reply.Added new same) =
    object (member (codes "new") (number_data new) (member (codes "same") (number_data same) no_members))
reply_data (reply.Opened day) = object (member (codes "opened") (day_data day) no_members)
reply_data (reply.Ticket ticket) = ticket_data ticket
reply_data (reply.Batch batch) = batch_data batch
reply_data (reply.Refused refusal) = refusal_data refusal
