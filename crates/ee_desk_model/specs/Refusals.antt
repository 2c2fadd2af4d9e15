-- When an act is refused, in the order of the tests (this project's rule; eligibility: 31 CFR Part 351, payees: 31 CFR Part 353).
use Rattle.std.specs.Prelude.{ℕ, ◌-◌, Bool, false, not, ◌==◌, nat_lt, nat_le, List, [], ◌∷◌, ◌++◌, length, is_some, is_none, find, Option, Some, None, if◌then◌else◌}
use Rattle.std.specs.Option.{option_map, option_or, option_map_or}
use Rattle.std.specs.List.{list_any}
use Rattle.ee_units.specs.Spelling.{SerialNumber}
use Rattle.ee_value.specs.declared.rates.RateRow.{RateRow}
use Rattle.ee_calculator.specs.declared.bonds.Bond.{Bond}
use Rattle.ee_desk_model.specs.declared.changes.Held.{Held}
use Rattle.ee_desk_model.specs.declared.acts.Act.{Act}
use Rattle.ee_desk_model.specs.declared.acts.Act.TheVariants.{AddRates, AddBonds, OpenDay, Redeem, CloseDay}
use Rattle.ee_desk_model.specs.declared.refusals.Refusal.{Refusal}
use Rattle.ee_desk_model.specs.declared.refusals.Refusal.TheVariants.{Empty, TooMany, Repeated, SameCoowner, NotAnnouncementMonth, RateConflict, RateUnsettled, NoRate, SerialConflict, DayOpen, DayNotLater, NoOpenDay, DayIsOther, DayFull, UnknownSerial, NotPayee, AlreadyPaid, NotIssued, NotEligible}
use Rattle.ee_desk_model.specs.Serials.{same_serial}
use Rattle.ee_units.specs.Calendar.{month_of_day, is_announcement}
use Rattle.ee_desk_model.specs.Values.{unsettled, same_rates}
use Rattle.ee_value.specs.declared.rates.Rates.{Rates}
use Rattle.ee_calculator.specs.Bonds.{is_payee, has_coowner}
use Rattle.ee_desk_model.specs.PlainBooks.{same_bond}
use Rattle.ee_desk_model.specs.Seen.{Seen, rate_of}

-- the first refusal of several tests
abbrev pub first : List (Option Refusal) → Option Refusal
first [] = None
first (test ∷ tests) = option_or test (first tests)

abbrev pub when : Bool → Refusal → Option Refusal
when holds refusal = if holds then Some refusal else None

-- the first refusal of several rows
abbrev pub first_of : {A : Type 0} → (A → Option Refusal) → List A → Option Refusal
first_of refusal [] = None
first_of refusal (row ∷ rows) = option_or (refusal row) (first_of refusal rows)

abbrev pub most_rows : ℕ
most_rows = 500

abbrev pub most_serials : ℕ
most_serials = 100

abbrev pub most_tickets : ℕ
most_tickets = 1000

-- the refusal of a list by its length
abbrev pub refusal_of_length : ℕ → ℕ → Option Refusal
refusal_of_length most count = option_or (when (count == 0) Empty) (when (nat_lt most count) TooMany)

-- the refusal of an act by the length of its list, whatever the books are
abbrev pub length_refusal : Act → Option Refusal
length_refusal (AddRates rows) = refusal_of_length most_rows (length rows)
length_refusal (AddBonds bonds) = refusal_of_length most_rows (length bonds)
length_refusal (OpenDay day) = None
length_refusal (Redeem day payee serials) = refusal_of_length most_serials (length serials)
length_refusal (CloseDay day) = None

-- the known rates differ from these
abbrev pub is_other : Option Rates → Rates → Bool
is_other held rates = option_map_or (λ other. not (same_rates other rates)) held false

abbrev pub unannounced : RateRow → Option Refusal
unannounced row = when (not (is_announcement row.from)) (NotAnnouncementMonth row.from)

abbrev pub near : RateRow → Option Refusal
near row = option_map RateUnsettled (unsettled row.rates)

-- the known rates of a month, or else those of an earlier row
abbrev pub known_rate : Seen → List RateRow → ℕ → Option Rates
known_rate seen earlier month =
    option_or (seen.rate month) (option_map (λ row. row.rates) (find (λ row. row.from == month) earlier))

-- the first month with other rates, in the books or in an earlier row
abbrev pub rate_conflict : Seen → List RateRow → List RateRow → Option Refusal
rate_conflict seen earlier [] = None
rate_conflict seen earlier (row ∷ rows) =
    if is_other (known_rate seen earlier row.from) row.rates
    then Some (RateConflict row.from)
    else rate_conflict seen (earlier ++ row ∷ []) rows

abbrev pub tests_of_rates : Seen → List RateRow → List (Option Refusal)
tests_of_rates seen rows =
    refusal_of_length most_rows (length rows)
    ∷ first_of unannounced rows
    ∷ rate_conflict seen [] rows
    ∷ first_of near rows
    ∷ []

-- the first serial number that occurs earlier in the list
abbrev pub repeated : List SerialNumber → List SerialNumber → Option Refusal
repeated earlier [] = None
repeated earlier (serial ∷ serials) =
    if list_any (same_serial serial) earlier then Some (Repeated serial) else repeated (earlier ++ serial ∷ []) serials

abbrev pub repeated_bond : List Bond → List Bond → Option Refusal
repeated_bond earlier [] = None
repeated_bond earlier (bond ∷ bonds) =
    if list_any (λ other. same_serial bond.serial other.serial) earlier then Some (Repeated bond.serial) else repeated_bond (earlier ++ bond ∷ []) bonds

abbrev pub own_coowner : Bond → Option Refusal
own_coowner bond = when (has_coowner bond bond.owner) (SameCoowner bond.serial)

abbrev pub unrated : Seen → Bond → Option Refusal
unrated seen bond = when (is_none (rate_of seen bond)) (NoRate bond.serial)

-- the serial number is registered with other content
abbrev pub is_other_bond : Option Held → Bond → Bool
is_other_bond None bond = false
is_other_bond (Some held) bond = not (same_bond held.bond bond)

abbrev pub bond_conflict : Seen → Bond → Option Refusal
bond_conflict seen bond = when (is_other_bond (seen.held bond.serial) bond) (SerialConflict bond.serial)

abbrev pub tests_of_bonds : Seen → List Bond → List (Option Refusal)
tests_of_bonds seen bonds =
    refusal_of_length most_rows (length bonds)
    ∷ repeated_bond [] bonds
    ∷ first_of own_coowner bonds
    ∷ first_of (unrated seen) bonds
    ∷ first_of (bond_conflict seen) bonds
    ∷ []

abbrev pub tests_of_open : Seen → ℕ → List (Option Refusal)
tests_of_open seen day =
    when (is_some seen.day) DayOpen
    ∷ when (option_map_or (λ closed. nat_le day closed) seen.last_day false) DayNotLater
    ∷ []

-- the day that a request names must be the open day
abbrev pub refusal_of_day : Option ℕ → ℕ → Option Refusal
refusal_of_day None day = Some NoOpenDay
refusal_of_day (Some other) day = when (not (other == day)) DayIsOther

-- the tests of a registered bond, in order
abbrev pub tests_of_held : ℕ → ℕ → SerialNumber → Held → List (Option Refusal)
tests_of_held month payee serial held =
    when (not (is_payee held.bond payee)) (NotPayee serial)
    ∷ option_map (AlreadyPaid serial) held.ticket
    ∷ when (nat_lt month held.bond.issued) (NotIssued serial)
    ∷ when (nat_lt (month - held.bond.issued) 12) (NotEligible serial)
    ∷ []

-- the tests of one serial number
abbrev pub refusal_of_held : ℕ → ℕ → SerialNumber → Option Held → Option Refusal
refusal_of_held month payee serial None = Some (UnknownSerial serial)
refusal_of_held month payee serial (Some held) = first (tests_of_held month payee serial held)

abbrev pub refusal_of_serial : Seen → ℕ → ℕ → SerialNumber → Option Refusal
refusal_of_serial seen month payee serial = refusal_of_held month payee serial (seen.held serial)

abbrev pub tests_of_redeem : Seen → ℕ → ℕ → List SerialNumber → List (Option Refusal)
tests_of_redeem seen day payee serials =
    refusal_of_length most_serials (length serials)
    ∷ repeated [] serials
    ∷ refusal_of_day seen.day day
    ∷ when (nat_le most_tickets seen.day_tickets) DayFull
    ∷ first_of (refusal_of_serial seen (month_of_day day) payee) serials
    ∷ []

-- the tests of an act, in order
abbrev pub tests_of : Seen → Act → List (Option Refusal)
tests_of seen (AddRates rows) = tests_of_rates seen rows
tests_of seen (AddBonds bonds) = tests_of_bonds seen bonds
tests_of seen (OpenDay day) = tests_of_open seen day
tests_of seen (Redeem day payee serials) = tests_of_redeem seen day payee serials
tests_of seen (CloseDay day) = refusal_of_day seen.day day ∷ []

abbrev pub refusal_of : Seen → Act → Option Refusal
refusal_of seen asked = first (tests_of seen asked)
