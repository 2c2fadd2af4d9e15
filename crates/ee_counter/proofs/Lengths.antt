-- The texts of an act and of its reply are bounded by the number of the act's rows.
use Rattle.std.proofs.Common.{◌≡◌, ℕ, zero, suc, ◌+◌, ◌-◌, ◌*◌, ◌/◌, ◌%◌, ◌<◌, ◌≤◌, ◌==◌, Bool, true, false, cond, List, [], ◌∷◌, ◌++◌, length, map, codes, Option, Some, None, refl, arith, lt-ltb}
use Rattle.std.specs.Prelude.{nat_lt}
use Rattle.std.specs.Fmt.{decimal, digit_glyph, digits_onto, digits}
use Rattle.std.specs.Char.{digit_char}
use Rattle.std.proofs.Math.Dec.{lit≤}
use Rattle.std.proofs.lemmas.Bool.{ne_eqb, le-ltb}
use Rattle.std.proofs.lemmas.List.{length-append, length-map}
use Rattle.json.specs.Print.{escape_letter, escape_byte, escape, quoted}
use Rattle.serde_json.specs.Data.{Data, string, object, Members, no_members, member}
use Rattle.serde_json.specs.View.{items_of}
use Rattle.serde_json.specs.Written.{compact_text, items_text, members_text, comma_if}
use Rattle.ee_units.specs.Spelling.{SerialNumber}
use Rattle.ee_units.specs.Denoms.{dollars}
use Rattle.ee_units.specs.Calendar.{year_of, month_of_year, month_of_day, day_of_month}
use Rattle.ee_units.specs.Texts.{two_digits, decimal_text, rate_text, month_text, day_text, serial_text}
use Rattle.ee_value.specs.declared.rates.RateRow.{RateRow}
use Rattle.ee_value.specs.Chain.{named_extension}
use Rattle.ee_calculator.specs.declared.bonds.Bond.{Bond}
use Rattle.ee_desk_model.specs.declared.acts.Act.{Act}
use Rattle.ee_desk_model.specs.declared.acts.Act.TheVariants as act
use Rattle.ee_desk_model.specs.declared.replies.Line.{Line}
use Rattle.ee_desk_model.specs.declared.replies.Ticket.{Ticket}
use Rattle.ee_desk_model.specs.declared.replies.Batch.{Batch}
use Rattle.ee_desk_model.specs.declared.replies.Reply.TheVariants as reply
use Rattle.ee_desk_model.specs.declared.refusals.Refusal.{Refusal}
use Rattle.ee_desk_model.specs.declared.refusals.Refusal.TheVariants as refusal
use Rattle.ee_desk_model.specs.Codes.{code_of, name_of}
use Rattle.ee_desk_model.specs.Effects.{new_rates, new_bonds, unless_refused}
use Rattle.ee_desk_model.specs.Outcomes as outcomes
use Rattle.ee_desk_model.specs.PlainBooks.{PlainBooks}
use Rattle.ee_desk_model.specs.Refusals.{refusal_of}
use Rattle.ee_desk_model.specs.Seen.{Seen, shown, line_for, ticket_for, closing_batch}
use Rattle.ee_desk_texts.specs.declared.refusals.Named.{Named}
use Rattle.ee_desk_texts.specs.declared.refusals.Named.TheVariants as named
use Rattle.ee_desk_texts.specs.Data.{number_data, month_data, day_data, rate_data, serial_data, cents_data, with_extension, rate_row_data, with_coowner, bond_data, line_data, list_data, names, refused_data}
use Rattle.ee_desk_texts.specs.Texts.{act_text, reply_text}
use Rattle.ee_counter.proofs.Sizes.{rows}

-- a bound of the bytes of a value's text, and of the text of an object's members
record Short (d : Data) (n : ℕ) : Type 0 where
  bytes : length (compact_text d) ≤ n

record Shorts (ms : Members) (n : ℕ) : Type 0 where
  bytes : (later : Bool) → length (members_text later ms) ≤ n

-- ---- texts of strings

either_most : (b : Bool) (xs ys : List ℕ) (n : ℕ) → length xs ≤ n → length ys ≤ n → length (cond b xs ys) ≤ n
either_most true xs ys n one other = one
either_most false xs ys n one other = other

byte_most : (x : ℕ) → length (escape_byte x) ≤ 6
unfolding escape_byte
byte_most x =
    either_most (nat_lt 0 (escape_letter x)) (92 ∷ escape_letter x ∷ []) (cond (nat_lt x 32) (92 ∷ 117 ∷ 48 ∷ 48 ∷ digit_char (x / 16) ∷ digit_char (x % 16) ∷ []) (x ∷ [])) 6 (omega arith)
    (either_most (nat_lt x 32) (92 ∷ 117 ∷ 48 ∷ 48 ∷ digit_char (x / 16) ∷ digit_char (x % 16) ∷ []) (x ∷ []) 6 (omega arith) (omega arith))

digit_plain : (x : ℕ) → 48 ≤ x → x ≤ 57 → escape_byte x ≡ x ∷ []
unfolding escape_byte
digit_plain x low high =
    rw (ne_eqb x 34 (λ e. omega (arith, e, low)), ne_eqb x 92 (λ e. omega (arith, e, high)), ne_eqb x 8 (λ e. omega (arith, e, low)), ne_eqb x 12 (λ e. omega (arith, e, low)), ne_eqb x 10 (λ e. omega (arith, e, low)), ne_eqb x 13 (λ e. omega (arith, e, low)), ne_eqb x 9 (λ e. omega (arith, e, low)), le-ltb x 32 (omega (arith, low))) refl

escape_most : (s : List ℕ) → length (escape s) ≤ 6 * length s
escape_most [] = omega arith
escape_most (x ∷ s) = omega (arith, byte_most x, escape_most s, length-append (escape_byte x) (escape s))

escape_append : (xs ys : List ℕ) → length (escape (xs ++ ys)) ≡ length (escape xs) + length (escape ys)
escape_append [] ys = omega arith
escape_append (x ∷ xs) ys =
    omega (arith, escape_append xs ys, length-append (escape_byte x) (escape (xs ++ ys)), length-append (escape_byte x) (escape xs))

string_length : (s : List ℕ) → length (compact_text (string s)) ≡ 2 + length (escape s)
string_length s = omega (arith, length-append (escape s) (34 ∷ []))

word : (s : List ℕ) → length s ≤ 20 → Short (string s) 122
word s few = record { bytes = omega (arith, few, string_length s, escape_most s) }

key_most : (s : List ℕ) → length s ≤ 10 → length (quoted s) ≤ 62
key_most s few = omega (arith, few, escape_most s, length-append (escape s) (34 ∷ []))

-- ---- single values

glyph_plain : (d : ℕ) → d < 10 → length (escape_byte (digit_glyph false d)) ≤ 1
glyph_plain d small = rw (lt-ltb d 10 small) (rw (digit_plain (48 + d) (omega arith) (omega (arith, small))) (omega arith))

either_escaped : (b : Bool) (xs ys : List ℕ) (n : ℕ) → length (escape xs) ≤ n → length (escape ys) ≤ n → length (escape (cond b xs ys)) ≤ n
either_escaped true xs ys n one other = one
either_escaped false xs ys n one other = other

digits_escaped : (k n : ℕ) (acc : List ℕ) → length (escape (digits_onto k 10 false n acc)) ≤ k + length (escape acc)
digits_escaped zero n acc = omega arith
digits_escaped (suc k) n acc =
    let glyph = digit_glyph false (n % 10) in
    let one = glyph_plain (n % 10) (omega arith) in
    let both = length-append (escape_byte glyph) (escape acc) in
    either_escaped (n / 10 == 0) (glyph ∷ acc) (digits_onto k 10 false (n / 10) (glyph ∷ acc)) (suc k + length (escape acc)) (omega (arith, one, both))
    (omega (arith, one, both, digits_escaped k (n / 10) (glyph ∷ acc)))

digits_most : (k n : ℕ) (acc : List ℕ) → length (digits_onto k 10 false n acc) ≤ k + length acc
digits_most zero n acc = omega arith
digits_most (suc k) n acc =
    let glyph = digit_glyph false (n % 10) in
    either_most (n / 10 == 0) (glyph ∷ acc) (digits_onto k 10 false (n / 10) (glyph ∷ acc)) (suc k + length acc) (omega arith) (omega (arith, digits_most k (n / 10) (glyph ∷ acc)))

a_number : (n : ℕ) → Short (number_data n) 64
unfolding digits
a_number n =
    record { bytes = omega (arith, digits_most 64 n []) }

decimal_escaped : (n : ℕ) → length (escape (decimal n)) ≤ 64
unfolding digits
decimal_escaped n = omega (arith, digits_escaped 64 n [])

hundredths_escaped : (n : ℕ) → length (escape (decimal_text n)) ≤ 82
unfolding decimal_text
hundredths_escaped n =
    omega (arith, escape_append (decimal (n / 100)) (46 ∷ two_digits (n % 100)), decimal_escaped (n / 100), escape_most (46 ∷ two_digits (n % 100)))

cents : (n : ℕ) → Short (cents_data n) 102
cents n =
    record { bytes = omega (arith, string_length (decimal_text n), hundredths_escaped n) }

rate : (n : ℕ) → Short (rate_data n) 102
unfolding rate_text
rate n =
    record { bytes = omega (arith, string_length (rate_text n), escape_append (decimal_text n) (37 ∷ []), hundredths_escaped n, escape_most (37 ∷ [])) }

month_escaped : (m : ℕ) → length (escape (month_text m)) ≤ 82
unfolding month_text
month_escaped m =
    omega (arith, escape_append (decimal (year_of m)) (45 ∷ two_digits (month_of_year m)), decimal_escaped (year_of m), escape_most (45 ∷ two_digits (month_of_year m)))

month : (m : ℕ) → Short (month_data m) 102
month m =
    record { bytes = omega (arith, string_length (month_text m), month_escaped m) }

a_day : (n : ℕ) → Short (day_data n) 102
unfolding day_text
a_day n =
    record { bytes = omega (arith, string_length (day_text n), escape_append (month_text (month_of_day n)) (45 ∷ two_digits (day_of_month n)), month_escaped (month_of_day n), escape_most (45 ∷ two_digits (day_of_month n))) }

serial : (s : SerialNumber) → Short (serial_data s) 102
unfolding serial_text
serial s =
    let first = length-append (escape_byte (64 + s.letter)) (escape (decimal s.number ++ codes "EE")) in record { bytes = omega (arith, string_length (serial_text s), first, byte_most (64 + s.letter), escape_append (decimal s.number) (codes "EE"), decimal_escaped s.number, escape_most (69 ∷ 69 ∷ [])) }

-- ---- objects and lists

comma_most : (later : Bool) → length (comma_if later) ≤ 1
comma_most true = omega arith
comma_most false = omega arith

ending : Shorts no_members 1
ending = record { bytes = λ later. omega arith }

a_member : {d : Data} {ms : Members} {one rest : ℕ} (k : List ℕ) → length k ≤ 10 → Short d one → Shorts ms rest → Shorts (member k d ms) (64 + one + rest)
a_member {d} {ms} k short it others = record {
  bytes = λ later. omega (
    arith,
    it.bytes,
    others.bytes true,
    key_most k short,
    comma_most later,
    length-append (comma_if later) (quoted k ++ 58 ∷ (compact_text d ++ members_text true ms)),
    length-append (quoted k) (58 ∷ (compact_text d ++ members_text true ms)),
    length-append (compact_text d) (members_text true ms),
  );
}

an_object : {ms : Members} {n : ℕ} → Shorts ms n → Short (object ms) (suc n)
an_object it = record { bytes = omega (arith, it.bytes false) }

-- a bound of the bytes of each row, and a comma
abbrev many : {A : Type 0} → ℕ → List A → ℕ
many each [] = 0
many each (x ∷ xs) = suc (each + many each xs)

many_rows : {A : Type 0} (xs : List A) → many 718 xs ≡ 719 * length xs
many_rows [] = refl
many_rows (x ∷ xs) = omega (arith, many_rows xs)

many_serials : {A : Type 0} (xs : List A) → many 102 xs ≡ 103 * length xs
many_serials [] = refl
many_serials (x ∷ xs) = omega (arith, many_serials xs)

many_lines : {A : Type 0} (xs : List A) → many 334 xs ≡ 335 * length xs
many_lines [] = refl
many_lines (x ∷ xs) = omega (arith, many_lines xs)

items_most : {A : Type 0} (row : A → Data) (each : ℕ) → ((x : A) → Short (row x) each) → (later : Bool) (xs : List A)
    → length (items_text later (items_of (map row xs))) ≤ 1 + many each xs
items_most row each one later [] = omega arith
items_most row each one later (x ∷ xs) =
    let rest = items_text true (items_of (map row xs)) in
    let first = one x in
    omega (arith, first.bytes, comma_most later, items_most row each one true xs, length-append (comma_if later) (compact_text (row x) ++ rest), length-append (compact_text (row x)) rest)

a_list : {A : Type 0} (row : A → Data) (each : ℕ) → ((x : A) → Short (row x) each) → (xs : List A) → Short (list_data row xs) (2 + many each xs)
a_list row each one xs = record { bytes = omega (arith, items_most row each one false xs) }

-- ---- acts

more : (d : Data) (n m : ℕ) → Short d n → n ≤ m → Short d m
more d n m it le = record { bytes = omega (arith, it.bytes, le) }

abbrev bond_own : Bond → Members
bond_own bond = member (codes "denom") (number_data (dollars bond.denom)) (member (codes "issued") (month_data bond.issued)
    (member (codes "owner") (number_data bond.owner) (member (codes "serial") (serial_data bond.serial) no_members)))

bond_shorts : (bond : Bond) → Shorts (bond_own bond) 589
bond_shorts bond =
    a_member (codes "denom") (lit≤ tt) (a_number (dollars bond.denom))
    (a_member (codes "issued") (lit≤ tt) (month bond.issued)
    (a_member (codes "owner") (lit≤ tt) (a_number bond.owner)
    (a_member (codes "serial") (lit≤ tt) (serial bond.serial) ending)))

coowned : (bond : Bond) (o : Option ℕ) → Short (object (with_coowner o (bond_own bond))) 718
coowned bond None = more _ 590 718 (an_object (bond_shorts bond)) (lit≤ tt)
coowned bond (Some coowner) = an_object (a_member (codes "coowner") (lit≤ tt) (a_number coowner) (bond_shorts bond))

bond_row : (bond : Bond) → Short (bond_data bond) 718
bond_row bond = coowned bond bond.coowner

abbrev rate_own : RateRow → Members
rate_own row = member (codes "from") (month_data row.from) (member (codes "rate") (rate_data row.rates.fixed) no_members)

rate_shorts : (row : RateRow) → Shorts (rate_own row) 333
rate_shorts row = a_member (codes "from") (lit≤ tt) (month row.from) (a_member (codes "rate") (lit≤ tt) (rate row.rates.fixed) ending)

extended : (row : RateRow) (o : Option ℕ) → Short (object (with_extension o (rate_own row))) 718
extended row None = more _ 334 718 (an_object (rate_shorts row)) (lit≤ tt)
extended row (Some extension) = more _ 500 718 (an_object (a_member (codes "extension") (lit≤ tt) (rate extension) (rate_shorts row))) (lit≤ tt)

rate_row : (row : RateRow) → Short (rate_row_data row) 718
rate_row row = extended row (named_extension row.rates)

rates_most : (rows : List RateRow) → length (act_text (act.AddRates rows)) ≤ 600 + 719 * length rows
rates_most rows =
    let it = an_object (a_member (codes "act") (lit≤ tt) (word (codes "rates") (lit≤ tt)) (a_member (codes "rates") (lit≤ tt) (a_list rate_row_data 718 rate_row rows) ending)) in
    omega (arith, it.bytes, many_rows rows)

bonds_most : (bonds : List Bond) → length (act_text (act.AddBonds bonds)) ≤ 600 + 719 * length bonds
bonds_most bonds =
    let it = an_object (a_member (codes "act") (lit≤ tt) (word (codes "bonds") (lit≤ tt)) (a_member (codes "bonds") (lit≤ tt) (a_list bond_data 718 bond_row bonds) ending)) in
    omega (arith, it.bytes, many_rows bonds)

open_most : (day : ℕ) → length (act_text (act.OpenDay day)) ≤ 600
open_most day =
    let it = an_object (a_member (codes "act") (lit≤ tt) (word (codes "open") (lit≤ tt)) (a_member (codes "day") (lit≤ tt) (a_day day) ending)) in
    omega (arith, it.bytes)

close_most : (day : ℕ) → length (act_text (act.CloseDay day)) ≤ 600
close_most day =
    let it = an_object (a_member (codes "act") (lit≤ tt) (word (codes "close") (lit≤ tt)) (a_member (codes "day") (lit≤ tt) (a_day day) ending)) in
    omega (arith, it.bytes)

redeem_most : (day payee : ℕ) (serials : List SerialNumber) → length (act_text (act.Redeem day payee serials)) ≤ 600 + 103 * length serials
redeem_most day payee serials =
    let it = an_object (a_member (codes "act") (lit≤ tt) (word (codes "redeem") (lit≤ tt)) (a_member (codes "day") (lit≤ tt) (a_day day)
    (a_member (codes "payee") (lit≤ tt) (a_number payee) (a_member (codes "serials") (lit≤ tt) (a_list serial_data 102 serial serials) ending)))) in
    omega (arith, it.bytes, many_serials serials)

-- ---- replies

line : (l : Line) → Short (line_data l) 334
line l = an_object (a_member (codes "paid") (lit≤ tt) (cents l.cents.0) (a_member (codes "serial") (lit≤ tt) (serial l.serial) ending))

ticket_most : (ticket : Ticket) → length (reply_text (reply.Ticket ticket)) ≤ 700 + 335 * length ticket.lines
ticket_most ticket =
    let it = an_object (a_member (codes "day") (lit≤ tt) (a_day ticket.day) (a_member (codes "lines") (lit≤ tt) (a_list line_data 334 line ticket.lines)
    (a_member (codes "payee") (lit≤ tt) (a_number ticket.payee) (a_member (codes "ticket") (lit≤ tt) (a_number ticket.ticket)
    (a_member (codes "total") (lit≤ tt) (cents ticket.total.0) ending))))) in
    omega (arith, it.bytes, many_lines ticket.lines)

batch_most : (batch : Batch) → length (reply_text (reply.Batch batch)) ≤ 700
batch_most batch =
    let it = an_object (a_member (codes "bonds") (lit≤ tt) (a_number batch.bonds) (a_member (codes "day") (lit≤ tt) (a_day batch.day)
    (a_member (codes "tickets") (lit≤ tt) (a_number batch.tickets) (a_member (codes "total") (lit≤ tt) (cents batch.total.0) ending)))) in
    omega (arith, it.bytes)

added_most : (new same : ℕ) → length (reply_text (reply.Added new same)) ≤ 700
added_most new same =
    let it = an_object (a_member (codes "new") (lit≤ tt) (a_number new) (a_member (codes "same") (lit≤ tt) (a_number same) ending)) in
    omega (arith, it.bytes)

opened_most : (day : ℕ) → length (reply_text (reply.Opened day)) ≤ 700
opened_most day =
    let it = an_object (a_member (codes "opened") (lit≤ tt) (a_day day) ending) in
    omega (arith, it.bytes)

name_most : (r : Refusal) → length (name_of r) ≤ 20
name_most refusal.NumberReused = lit≤ tt
name_most refusal.Empty = lit≤ tt
name_most refusal.TooMany = lit≤ tt
name_most (refusal.Repeated serial) = lit≤ tt
name_most (refusal.SameCoowner serial) = lit≤ tt
name_most (refusal.NotAnnouncementMonth month) = lit≤ tt
name_most (refusal.RateConflict month) = lit≤ tt
name_most (refusal.RateUnsettled age) = lit≤ tt
name_most (refusal.NoRate serial) = lit≤ tt
name_most (refusal.SerialConflict serial) = lit≤ tt
name_most refusal.DayOpen = lit≤ tt
name_most refusal.DayNotLater = lit≤ tt
name_most refusal.NoOpenDay = lit≤ tt
name_most refusal.DayIsOther = lit≤ tt
name_most refusal.DayFull = lit≤ tt
name_most (refusal.UnknownSerial serial) = lit≤ tt
name_most (refusal.NotPayee serial) = lit≤ tt
name_most (refusal.AlreadyPaid serial ticket) = lit≤ tt
name_most (refusal.NotIssued serial) = lit≤ tt
name_most (refusal.NotEligible serial) = lit≤ tt

refused_most : (code : ℕ) (name : List ℕ) (what : Named) → length name ≤ 20 → length (compact_text (refused_data code name what)) ≤ 700
refused_most code name named.Nothing few =
    let it = an_object (a_member (codes "code") (lit≤ tt) (a_number code) (a_member (codes "refused") (lit≤ tt) (word name few) ending)) in
    omega (arith, it.bytes)
refused_most code name (named.Period from) few =
    let it = an_object (a_member (codes "code") (lit≤ tt) (a_number code) (a_member (codes "month") (lit≤ tt) (month from) (a_member (codes "refused") (lit≤ tt) (word name few) ending))) in
    omega (arith, it.bytes)
refused_most code name (named.Months age) few =
    let it = an_object (a_member (codes "code") (lit≤ tt) (a_number code) (a_member (codes "month") (lit≤ tt) (a_number age) (a_member (codes "refused") (lit≤ tt) (word name few) ending))) in
    omega (arith, it.bytes)
refused_most code name (named.Bond s) few =
    let it = an_object (a_member (codes "code") (lit≤ tt) (a_number code) (a_member (codes "refused") (lit≤ tt) (word name few) (a_member (codes "serial") (lit≤ tt) (serial s) ending))) in
    omega (arith, it.bytes)
refused_most code name (named.Paid s ticket) few =
    let it = an_object (a_member (codes "code") (lit≤ tt) (a_number code) (a_member (codes "refused") (lit≤ tt) (word name few)
    (a_member (codes "serial") (lit≤ tt) (serial s) (a_member (codes "ticket") (lit≤ tt) (a_number ticket) ending)))) in
    omega (arith, it.bytes)

-- how many lines a reply to the act has at most
abbrev lines : Act → ℕ
lines (act.AddRates rates) = 0
lines (act.AddBonds bonds) = 0
lines (act.OpenDay day) = 0
lines (act.Redeem day payee serials) = length serials
lines (act.CloseDay day) = 0

reply_most : (seen : Seen) (a : Act) (o : Option Refusal) → length (reply_text (unless_refused seen a o).reply) ≤ 700 + 335 * lines a
reply_most seen a (Some r) = omega (arith, refused_most (code_of r) (name_of r) (names r) (name_most r))
reply_most seen (act.AddRates rates) None = omega (arith, added_most (length (new_rates seen [] rates)) (length rates - length (new_rates seen [] rates)))
reply_most seen (act.AddBonds bonds) None = omega (arith, added_most (length (new_bonds seen bonds)) (length bonds - length (new_bonds seen bonds)))
reply_most seen (act.OpenDay day) None = omega (arith, opened_most day)
reply_most seen (act.Redeem day payee serials) None =
    omega (arith, ticket_most (ticket_for seen day payee serials), length-map serials (line_for seen (month_of_day day)))
reply_most seen (act.CloseDay day) None = omega (arith, batch_most (closing_batch seen day))

-- ---- both

pub texts_most : (books : PlainBooks) (a : Act) → length (act_text a) + length (reply_text (outcomes.act books a).reply) ≤ 2000 + 719 * rows a
texts_most books (act.AddRates rates) =
    omega (arith, rates_most rates, reply_most (shown books) (act.AddRates rates) (refusal_of (shown books) (act.AddRates rates)))
texts_most books (act.AddBonds bonds) =
    omega (arith, bonds_most bonds, reply_most (shown books) (act.AddBonds bonds) (refusal_of (shown books) (act.AddBonds bonds)))
texts_most books (act.OpenDay day) = omega (arith, open_most day, reply_most (shown books) (act.OpenDay day) (refusal_of (shown books) (act.OpenDay day)))
texts_most books (act.Redeem day payee serials) =
    omega (arith, redeem_most day payee serials, reply_most (shown books) (act.Redeem day payee serials) (refusal_of (shown books) (act.Redeem day payee serials)))
texts_most books (act.CloseDay day) = omega (arith, close_most day, reply_most (shown books) (act.CloseDay day) (refusal_of (shown books) (act.CloseDay day)))
