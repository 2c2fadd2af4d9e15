-- The texts of acts and replies are ASCII.
use Rattle.std.proofs.Common.{◌≡◌, ℕ, suc, ◌+◌, ◌/◌, ◌%◌, ◌<◌, ◌≤◌, ◌^◌, nat_lt, nat_le, Bool, true, false, cond, List, [], ◌∷◌, ◌++◌, map, codes, Option, Some, None, IfSome, refl, sym, subst, arith, lit<, IsUtf8}
use Rattle.std.specs.Prelude.{⊤, IsAscii}
use Rattle.std.specs.List.{AllByRecursion, list_all}
use Rattle.std.proofs.lemmas.Bool.{and_parts, ltb-true, leb-true}
use Rattle.std.specs.Char.{digit_char, is_ascii_digit}
use Rattle.std.specs.Fmt.{decimal}
use Rattle.std.proofs.lemmas.Fmt.{IsAscii-decimal}
use Rattle.std.proofs.lemmas.Str.{IsUtf8-from_ascii}
use Rattle.std.proofs.lemmas.Str.Ascii.{IsAscii-nil, IsAscii-cons}
use Rattle.json.specs.Print.{escape_letter, escape_byte, escape, quoted}
use Rattle.serde_json.specs.Data.{Data, null, boolean, number, string, array, object, Items, no_items, item, Members, no_members, member}
use Rattle.serde_json.specs.View.{items_of}
use Rattle.serde_json.specs.Written.{number_text, compact_text, items_text, members_text, comma_if}
use Rattle.ee_units.specs.Spelling.{SerialNumber}
use Rattle.ee_units.specs.Denoms.{dollars}
use Rattle.ee_units.specs.Calendar.{year_of, month_of_year}
use Rattle.ee_units.specs.Texts.{two_digits, decimal_text, rate_text, month_text, day_text, serial_text}
use Rattle.ee_units.proofs.Lemmas.{day_back, day_of-sound, dollars_small}
use Rattle.ee_value.specs.declared.rates.RateRow.{RateRow}
use Rattle.ee_value.specs.Chain.{named_extension}
use Rattle.ee_value.proofs.Lemmas.{named-le}
use Rattle.ee_calculator.specs.declared.bonds.Bond.{Bond}
use Rattle.ee_desk_model.specs.declared.acts.Act.{Act}
use Rattle.ee_desk_model.specs.declared.acts.Act.TheVariants as act
use Rattle.ee_desk_model.specs.declared.replies.Line.{Line}
use Rattle.ee_desk_model.specs.declared.replies.Ticket.{Ticket}
use Rattle.ee_desk_model.specs.declared.replies.Batch.{Batch}
use Rattle.ee_desk_model.specs.declared.replies.Reply.{Reply}
use Rattle.ee_desk_model.specs.declared.replies.Reply.TheVariants as reply
use Rattle.ee_desk_model.specs.declared.refusals.Refusal.{Refusal}
use Rattle.ee_desk_model.specs.declared.refusals.Refusal.TheVariants as refusal
use Rattle.ee_desk_model.specs.Codes.{code_of, name_of}
use Rattle.ee_desk_model.specs.Sound.{IsDay, IsIssueMonth}
use Rattle.ee_desk_texts.specs.declared.refusals.Named.{Named}
use Rattle.ee_desk_texts.specs.declared.refusals.Named.TheVariants as named
use Rattle.ee_desk_texts.specs.Texts.{act_text, reply_text}
use Rattle.ee_desk_texts.specs.Data.{number_data, month_data, rate_data, serial_data, with_extension, rate_row_data, with_coowner, bond_data, act_data, line_data, ticket_data, batch_data, names, refused_data, reply_data}
use Rattle.ee_desk_model.specs.Ranges.{IsCustomer, IsSerial, BondFits}
use Rattle.ee_desk_texts.specs.Ranges.{RateRowFits, ActFits, LineFits, TicketFits, BatchFits, NamedFits, ReplyFits}
use Rattle.ee_desk_texts.proofs.Back.{code_small}

-- ---- texts of JSON

-- each byte is ASCII
abbrev AreSmall : List ℕ → Type 0
AreSmall bytes = AllByRecursion (λ b. b < 128) bytes

as_ascii : (bytes : List ℕ) → AreSmall bytes → IsAscii bytes
as_ascii [] all = IsAscii-nil
as_ascii (b ∷ bytes) all = IsAscii-cons b bytes all.0 (as_ascii bytes all.1)

of_ascii : (bytes : List ℕ) → IsAscii bytes → AreSmall bytes
of_ascii [] all = tt
of_ascii (b ∷ bytes) all = (all 0, of_ascii bytes (λ i. all (suc i)))

joined : (xs ys : List ℕ) → AreSmall xs → AreSmall ys → AreSmall (xs ++ ys)
joined [] ys one two = two
joined (x ∷ xs) ys one two = (one.0, joined xs ys one.1 two)

tested : (bytes : List ℕ) → list_all (λ b. nat_lt b 128) bytes ≡ true → AreSmall bytes
tested [] all = tt
tested (b ∷ bytes) all = let two = and_parts (nat_lt b 128) _ all in (ltb-true b 128 two.0, tested bytes two.1)

small_if : (b : Bool) (m n : ℕ) → m < 128 → n < 128 → cond b m n < 128
small_if true m n one other = one
small_if false m n one other = other

all_if : (b : Bool) (xs ys : List ℕ) → AreSmall xs → AreSmall ys → AreSmall (cond b xs ys)
all_if true xs ys one other = one
all_if false xs ys one other = other

letter_small : (x : ℕ) → x < 128 → escape_letter x < 128
letter_small x small =
    small_if _ x _ small (small_if _ 98 _ (lit< tt) (small_if _ 102 _ (lit< tt) (small_if _ 110 _ (lit< tt) (small_if _ 114 _ (lit< tt) (small_if _ 116 0 (lit< tt) (lit< tt))))))

digit_small : (d : ℕ) → d < 41 → digit_char d < 128
digit_small d small = small_if (nat_lt d 10) (48 + d) (87 + d) (omega arith) (omega arith)

byte_small : (x : ℕ) → x < 128 → AreSmall (escape_byte x)
unfolding escape_byte
byte_small x small =
    all_if (nat_lt 0 (escape_letter x)) (92 ∷ escape_letter x ∷ []) (cond (nat_lt x 32) (92 ∷ 117 ∷ 48 ∷ 48 ∷ digit_char (x / 16) ∷ digit_char (x % 16) ∷ []) (x ∷ [])) (lit< tt, (letter_small x small, tt))
    (all_if (nat_lt x 32) (92 ∷ 117 ∷ 48 ∷ 48 ∷ digit_char (x / 16) ∷ digit_char (x % 16) ∷ []) (x ∷ [])
    (lit< tt, (lit< tt, (lit< tt, (lit< tt, (digit_small (x / 16) (omega arith), (digit_small (x % 16) (omega arith), tt)))))) (small, tt))

escape_small : (s : List ℕ) → AreSmall s → AreSmall (escape s)
escape_small [] all = tt
escape_small (x ∷ s) all = joined (escape_byte x) (escape s) (byte_small x all.0) (escape_small s all.1)

quoted_small : (s : List ℕ) → AreSmall s → AreSmall (quoted s)
quoted_small s all = (lit< tt, joined (escape s) (34 ∷ []) (escape_small s all) (lit< tt, tt))

comma_small : (later : Bool) → AreSmall (comma_if later)
comma_small true = (lit< tt, tt)
comma_small false = tt

-- data whose numbers and strings are ASCII
abbrev mutual
  IsPlain : Data → Type 0
  IsPlain null = ⊤
  IsPlain (boolean b) = ⊤
  IsPlain (number n) = AreSmall (number_text n)
  IsPlain (string s) = AreSmall s
  IsPlain (array ds) = ArePlain ds
  IsPlain (object ms) = HavePlain ms

  ArePlain : Items → Type 0
  ArePlain no_items = ⊤
  ArePlain (item d ds) = IsPlain d × ArePlain ds

  HavePlain : Members → Type 0
  HavePlain no_members = ⊤
  HavePlain (member k d ms) = AreSmall k × IsPlain d × HavePlain ms

mutual
  text_small : (d : Data) → IsPlain d → AreSmall (compact_text d)
  text_small null plain = tested (110 ∷ 117 ∷ 108 ∷ 108 ∷ []) refl
  text_small (boolean true) plain = tested (116 ∷ 114 ∷ 117 ∷ 101 ∷ []) refl
  text_small (boolean false) plain = tested (102 ∷ 97 ∷ 108 ∷ 115 ∷ 101 ∷ []) refl
  text_small (number n) plain = plain
  text_small (string s) plain = quoted_small s plain
  text_small (array ds) plain = (lit< tt, items_small false ds plain)
  text_small (object ms) plain = (lit< tt, members_small false ms plain)

  items_small : (later : Bool) (ds : Items) → ArePlain ds → AreSmall (items_text later ds)
  items_small later no_items plain = (lit< tt, tt)
  items_small later (item d ds) plain =
      joined (comma_if later) _ (comma_small later) (joined (compact_text d) (items_text true ds) (text_small d plain.0) (items_small true ds plain.1))

  members_small : (later : Bool) (ms : Members) → HavePlain ms → AreSmall (members_text later ms)
  members_small later no_members plain = (lit< tt, tt)
  members_small later (member k d ms) plain =
      joined (comma_if later) _ (comma_small later) (joined (quoted k) _ (quoted_small k plain.0)
      (lit< tt, joined (compact_text d) (members_text true ms) (text_small d plain.1) (members_small true ms plain.2)))

-- ---- single values

number_small : (n : ℕ) → n < 2 ^ 64 → AreSmall (decimal n)
number_small n small = of_ascii (decimal n) (IsAscii-decimal n small)

two_small : (n : ℕ) → n < 100 → AreSmall (two_digits n)
two_small n small = (omega arith, (omega arith, tt))

cents_small : (n : ℕ) → n < 2 ^ 64 → AreSmall (decimal_text n)
unfolding decimal_text
cents_small n small = joined (decimal (n / 100)) _ (number_small (n / 100) (omega (arith, small))) (lit< tt, two_small (n % 100) (omega arith))

rate_small : (r : ℕ) → r ≤ 2000 → AreSmall (rate_text r)
unfolding rate_text
rate_small r few =
    let wide : 2000 < 2 ^ 64 = lit< tt in
    joined (decimal_text r) _ (cents_small r (omega (arith, wide, few))) (lit< tt, tt)

month_small : (m : ℕ) → IsIssueMonth m → AreSmall (month_text m)
unfolding month_text
month_small m few =
    let wide : 3000 < 2 ^ 64 = lit< tt in
    joined (decimal (year_of m)) _ (number_small (year_of m) (omega (arith, wide, few))) (lit< tt, two_small (month_of_year m) (omega arith))

serial_small : (s : SerialNumber) → IsSerial s → AreSmall (serial_text s)
unfolding serial_text
serial_small s fits =
    let wide : 9999999999 < 2 ^ 64 = lit< tt in
    (omega (arith, fits.1), joined (decimal s.number) _ (number_small s.number (omega (arith, wide, fits.3))) (lit< tt, (lit< tt, tt)))

digits_small : (ds : List ℕ) → list_all is_ascii_digit ds ≡ true → AreSmall ds
digits_small [] all = tt
digits_small (d ∷ ds) all =
    let two = and_parts (is_ascii_digit d) _ all in
    let ends = and_parts (nat_le 48 d) (nat_le d 57) two.0 in
    let high : d ≤ 57 = leb-true d 57 ends.1 in
    (omega (arith, high), digits_small ds two.1)

day_small : (n : ℕ) → IsDay n → AreSmall (day_text n)
day_small n fits =
    let it = day_of-sound (day_text n) n (day_back n fits.0 fits.1) in
    subst AreSmall (sym it.parts)
    (joined it.ys _ (digits_small it.ys it.year_is.writes.digits) (lit< tt, joined it.ms _ (digits_small it.ms it.month_is.writes.digits) (lit< tt, digits_small it.ds it.day_is.writes.digits)))

-- ---- acts and replies

customer_plain : (n : ℕ) → IsCustomer n → AreSmall (decimal n)
customer_plain n fits = let wide : 999999999 < 2 ^ 64 = lit< tt in number_small n (omega (arith, wide, fits.1))

list_plain : {A : Type 0} (row : A → Data) (Fits : A → Type 0) → ((x : A) → Fits x → IsPlain (row x)) → (xs : List A) → AllByRecursion Fits xs → ArePlain (items_of (map row xs))
list_plain row Fits one [] all = tt
list_plain row Fits one (x ∷ xs) all = (one x all.0, list_plain row Fits one xs all.1)

rate_row_plain : (row : RateRow) → RateRowFits row → IsPlain (rate_row_data row)
rate_row_plain row fits = by_extension (named_extension row.rates) (named-le row.rates fits.1)
  where
    own : HavePlain (member (codes "from") (month_data row.from) (member (codes "rate") (rate_data row.rates.fixed) no_members))
    own = (tested (codes "from") refl, month_small row.from fits.0, (tested (codes "rate") refl, rate_small row.rates.fixed fits.1.0, tt))

    by_extension : (o : Option ℕ) → IfSome o (λ n. n ≤ 2000) → HavePlain (with_extension o (member (codes "from") (month_data row.from)
        (member (codes "rate") (rate_data row.rates.fixed) no_members)))
    by_extension None small = own
    by_extension (Some extension) small = (tested (codes "extension") refl, rate_small extension small, own)

bond_plain : (bond : Bond) → BondFits bond → IsPlain (bond_data bond)
bond_plain bond fits = by_coowner bond.coowner fits.coowner
  where
    own : HavePlain (member (codes "denom") (number_data (dollars bond.denom)) (member (codes "issued") (month_data bond.issued)
        (member (codes "owner") (number_data bond.owner) (member (codes "serial") (serial_data bond.serial) no_members))))
    own = (tested (codes "denom") refl, number_small (dollars bond.denom) (dollars_small bond.denom), (tested (codes "issued") refl, month_small bond.issued fits.issued, (tested (codes "owner") refl, customer_plain bond.owner fits.owner, (tested (codes "serial") refl, serial_small bond.serial fits.serial, tt))))

    by_coowner : (o : Option ℕ) → IfSome o IsCustomer → HavePlain (with_coowner o (member (codes "denom") (number_data (dollars bond.denom)) (member (codes "issued") (month_data bond.issued)
        (member (codes "owner") (number_data bond.owner) (member (codes "serial") (serial_data bond.serial) no_members)))))
    by_coowner None other = own
    by_coowner (Some coowner) other = (tested (codes "coowner") refl, customer_plain coowner other, own)

act_plain : (a : Act) → ActFits a → IsPlain (act_data a)
act_plain (act.AddRates rows) fits =
    (tested (codes "act") refl, tested (codes "rates") refl, (tested (codes "rates") refl, list_plain rate_row_data RateRowFits rate_row_plain rows fits, tt))
act_plain (act.AddBonds bonds) fits =
    (tested (codes "act") refl, tested (codes "bonds") refl, (tested (codes "bonds") refl, list_plain bond_data BondFits bond_plain bonds fits, tt))
act_plain (act.OpenDay day) fits = (tested (codes "act") refl, tested (codes "open") refl, (tested (codes "day") refl, day_small day fits, tt))
act_plain (act.Redeem day payee serials) fits =
    (tested (codes "act") refl, tested (codes "redeem") refl, (tested (codes "day") refl, day_small day fits.0, (tested (codes "payee") refl, customer_plain payee fits.1, (tested (codes "serials") refl, list_plain serial_data IsSerial serial_small serials fits.2, tt))))
act_plain (act.CloseDay day) fits = (tested (codes "act") refl, tested (codes "close") refl, (tested (codes "day") refl, day_small day fits, tt))

line_plain : (line : Line) → LineFits line → IsPlain (line_data line)
line_plain line fits = (tested (codes "paid") refl, cents_small line.cents.0 fits.1, (tested (codes "serial") refl, serial_small line.serial fits.0, tt))

ticket_plain : (ticket : Ticket) → TicketFits ticket → IsPlain (ticket_data ticket)
ticket_plain ticket fits =
    (tested (codes "day") refl, day_small ticket.day fits.day, (tested (codes "lines") refl, list_plain line_data LineFits line_plain ticket.lines fits.lines, (tested (codes "payee") refl, customer_plain ticket.payee fits.payee, (tested (codes "ticket") refl, number_small ticket.ticket fits.number, (tested (codes "total") refl, cents_small ticket.total.0 fits.total, tt)))))

batch_plain : (batch : Batch) → BatchFits batch → IsPlain (batch_data batch)
batch_plain batch fits =
    (tested (codes "bonds") refl, number_small batch.bonds fits.bonds, (tested (codes "day") refl, day_small batch.day fits.day, (tested (codes "tickets") refl, number_small batch.tickets fits.tickets, (tested (codes "total") refl, cents_small batch.total.0 fits.total, tt))))

refused_plain : (code : ℕ) (name : List ℕ) (n : Named) → code < 2 ^ 64 → AreSmall name → NamedFits n → IsPlain (refused_data code name n)
refused_plain code name named.Nothing c s fits = (tested (codes "code") refl, number_small code c, (tested (codes "refused") refl, s, tt))
refused_plain code name (named.Period month) c s fits =
    (tested (codes "code") refl, number_small code c, (tested (codes "month") refl, month_small month fits, (tested (codes "refused") refl, s, tt)))
refused_plain code name (named.Months age) c s fits =
    let wide : 2335 < 2 ^ 64 = lit< tt in
    (tested (codes "code") refl, number_small code c, (tested (codes "month") refl, number_small age (omega (arith, wide, fits)), (tested (codes "refused") refl, s, tt)))
refused_plain code name (named.Bond serial) c s fits =
    (tested (codes "code") refl, number_small code c, (tested (codes "refused") refl, s, (tested (codes "serial") refl, serial_small serial fits, tt)))
refused_plain code name (named.Paid serial ticket) c s fits =
    (tested (codes "code") refl, number_small code c, (tested (codes "refused") refl, s, (tested (codes "serial") refl, serial_small serial fits.0, (tested (codes "ticket") refl, number_small ticket fits.1, tt))))

name_tested : (r : Refusal) → list_all (λ b. nat_lt b 128) (name_of r) ≡ true
name_tested refusal.NumberReused = refl
name_tested refusal.Empty = refl
name_tested refusal.TooMany = refl
name_tested (refusal.Repeated serial) = refl
name_tested (refusal.SameCoowner serial) = refl
name_tested (refusal.NotAnnouncementMonth month) = refl
name_tested (refusal.RateConflict month) = refl
name_tested (refusal.RateUnsettled age) = refl
name_tested (refusal.NoRate serial) = refl
name_tested (refusal.SerialConflict serial) = refl
name_tested refusal.DayOpen = refl
name_tested refusal.DayNotLater = refl
name_tested refusal.NoOpenDay = refl
name_tested refusal.DayIsOther = refl
name_tested refusal.DayFull = refl
name_tested (refusal.UnknownSerial serial) = refl
name_tested (refusal.NotPayee serial) = refl
name_tested (refusal.AlreadyPaid serial ticket) = refl
name_tested (refusal.NotIssued serial) = refl
name_tested (refusal.NotEligible serial) = refl

reply_plain : (r : Reply) → ReplyFits r → IsPlain (reply_data r)
reply_plain (reply.Added new same) fits = (tested (codes "new") refl, number_small new fits.0, (tested (codes "same") refl, number_small same fits.1, tt))
reply_plain (reply.Opened day) fits = (tested (codes "opened") refl, day_small day fits, tt)
reply_plain (reply.Ticket ticket) fits = ticket_plain ticket fits
reply_plain (reply.Batch batch) fits = batch_plain batch fits
reply_plain (reply.Refused r) fits = refused_plain (code_of r) (name_of r) (names r) (code_small r) (tested (name_of r) (name_tested r)) fits

plain_text : (d : Data) → IsPlain d → IsUtf8 (compact_text d)
plain_text d plain = IsUtf8-from_ascii (compact_text d) (as_ascii (compact_text d) (text_small d plain))

pub act_text-utf8 : (a : Act) → ActFits a → IsUtf8 (act_text a)
act_text-utf8 a fits = plain_text (act_data a) (act_plain a fits)

pub reply_text-utf8 : (r : Reply) → ReplyFits r → IsUtf8 (reply_text r)
reply_text-utf8 r fits = plain_text (reply_data r) (reply_plain r fits)
