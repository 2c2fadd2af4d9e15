-- What is written of bonds reads back, and how long it is at most.
use Rattle.std.proofs.Common.{◌≡◌, ◌∙◌, ℕ, zero, suc, ◌+◌, ◌*◌, ◌/◌, ◌%◌, ◌<◌, ◌≤◌, ◌^◌, false, List, [], ◌∷◌, ◌++◌, Option, Some, None, Ok, map, length, refl, ap, arith, lit<, length-append}
use Rattle.std.specs.Prelude.{All, option_map, IfSome, codes, nat_lt}
use Rattle.std.specs.List.{flat_map}
use Rattle.std.specs.Fmt.{decimal}
use Rattle.std.specs.Str.{IsAscii}
use Rattle.std.proofs.lemmas.Str.{IsUtf8-from_ascii, is_utf8-from_IsUtf8, IsAscii-append}
use Rattle.std.proofs.lemmas.Bool.{le-ltb}
use Rattle.std.proofs.lemmas.Str.Ascii.{IsAscii-nil}
use Rattle.std.proofs.lemmas.Fmt.{IsAscii-decimal, decimal_nonempty, length-decimal-le}
use Rattle.csv.specs.Reading.{default_config, records, strip_bom}
use Rattle.csv.specs.Writing.{row_text, default_writer, read_back}
use Rattle.csv.specs.Records.{field_at}
use Rattle.ee_units.specs.Calendar.{year_of, month_of_year}
use Rattle.ee_units.specs.Denoms.{denom_of, dollars}
use Rattle.ee_units.specs.Spelling.{SerialNumber, serial_of, customer_of, issue_of}
use Rattle.ee_units.specs.Texts.{serial_text, month_text}
use Rattle.ee_units.specs.declared.denoms.Denom.{Denom}
use Rattle.ee_units.specs.declared.denoms.Denom.TheVariants as denom
use Rattle.ee_units.proofs.Lemmas.{denom_back, dollars_small, serial_back, issue_back, customer_back}
use Rattle.ee_calculator.specs.declared.bonds.Bond.{Bond}
use Rattle.ee_files.specs.BondFile.{bond_columns, bond_entry, bonds_of_file, bond_fields, inventory_text, coowner_of, coowner_text, IsBond}
use Rattle.ee_files.specs.Fields.{Bytes, field_value}
use Rattle.ee_files.specs.Rows.{header_of, rows_from, rows_of_file, rows_of_records}
use Rattle.ee_files.proofs.RowsRead.{rows_back, rows_long, row_short, total}

read_back-bonds : (bonds : List Bond) → map read_back (map bond_fields bonds) ≡ map bond_fields bonds
read_back-bonds [] = refl
read_back-bonds (b ∷ bs) = ap (λ t. bond_fields b ∷ t) (read_back-bonds bs)

-- a field of ASCII that spells a value
field_back : {A : Type 0} (read : Bytes → Option A) (text : Bytes) (x : A) → IsAscii text → read text ≡ Some x → field_value read (Some text) ≡ Some x
field_back read text x ascii is = rw (is_utf8-from_IsUtf8 text (IsUtf8-from_ascii text ascii)) is

coowner_back : (c : Option ℕ) → IfSome c (λ n. (1 ≤ n) × (n ≤ 999999999)) → coowner_of (coowner_text c) ≡ Some c
coowner_back None h = refl
coowner_back (Some n) h =
    let wide : 9999999999 < 2 ^ 64 = lit< tt in
    some_text (decimal n) (decimal_nonempty n (omega (arith, h.1))) ∙ ap (option_map Some) (customer_back n (h.0) (h.1))
  where
    some_text : (t : List ℕ) → 0 < length t → coowner_of t ≡ option_map Some (customer_of t)
    some_text [] some = absurd (omega (arith, some))
    some_text (b ∷ bs) some = refl

one_ascii : (b : ℕ) → b < 128 → IsAscii (b ∷ [])
one_ascii b small zero = small
one_ascii b small (suc i) = lit< tt

serial_ascii : (s : SerialNumber) → s.letter ≤ 26 → s.number ≤ 9999999999 → IsAscii (serial_text s)
unfolding serial_text
serial_ascii s l n =
    let wide : 9999999999 < 2 ^ 64 = lit< tt in
    IsAscii-append ((64 + s.letter) ∷ []) (decimal s.number ++ codes "EE") (one_ascii (64 + s.letter) (omega (arith, l)))
    (IsAscii-append (decimal s.number) (codes "EE") (IsAscii-decimal s.number (omega (arith, n))) (IsAscii-append (69 ∷ []) (69 ∷ []) (one_ascii 69 (lit< tt)) (one_ascii 69 (lit< tt))))

month_ascii : (m : ℕ) → m ≤ 2335 → IsAscii (month_text m)
unfolding month_text
month_ascii m few =
    let wide : 9999999999 < 2 ^ 64 = lit< tt in
    let a = 48 + month_of_year m / 10 in
    let b = 48 + month_of_year m % 10 in
    IsAscii-append (decimal (year_of m)) (45 ∷ a ∷ b ∷ []) (IsAscii-decimal (year_of m) (omega arith))
    (IsAscii-append (45 ∷ []) (a ∷ b ∷ []) (one_ascii 45 (lit< tt)) (IsAscii-append (a ∷ []) (b ∷ []) (one_ascii a (omega arith)) (one_ascii b (omega arith))))

coowner_ascii : (c : Option ℕ) → IfSome c (λ n. (1 ≤ n) × (n ≤ 999999999)) → IsAscii (coowner_text c)
coowner_ascii None h = IsAscii-nil
coowner_ascii (Some n) h = let wide : 9999999999 < 2 ^ 64 = lit< tt in IsAscii-decimal n (omega (arith, h.1))

entry_back : (row : ℕ) (b : Bond) → IsBond b → bond_entry row (bond_fields b) ≡ Ok b
unfolding bond_entry field_at
entry_back row b h =
    let wide : 9999999999 < 2 ^ 64 = lit< tt in
    rw (
      field_back serial_of (serial_text b.serial) b.serial (serial_ascii b.serial (h.0.1) (h.0.3)) (serial_back b.serial (h.0.0) (h.0.1) (h.0.2) (h.0.3)),
      field_back denom_of (decimal (dollars b.denom)) b.denom (IsAscii-decimal (dollars b.denom) (dollars_small b.denom)) (denom_back b.denom),
      field_back issue_of (month_text b.issued) b.issued (month_ascii b.issued (omega (arith, h.1))) (issue_back b.issued (h.1)),
      field_back customer_of (decimal b.owner) b.owner (IsAscii-decimal b.owner (omega (arith, h.2.1))) (customer_back b.owner (h.2.0) (h.2.1)),
      field_back coowner_of (coowner_text b.coowner) b.coowner (coowner_ascii b.coowner (h.3)) (coowner_back b.coowner (h.3)),
    ) refl

entries_back : (row most : ℕ) (bonds : List Bond) → All IsBond bonds → length bonds ≤ most → rows_from bond_entry row most (map bond_fields bonds) ≡ Ok bonds
unfolding rows_from
entries_back row zero [] h le = refl
entries_back row (suc most) [] h le = refl
entries_back row zero (b ∷ bs) h le = absurd (omega (arith, le))
entries_back row (suc most) (b ∷ bs) h le = rw (entry_back row b (h 0 b (omega arith)), entries_back (row + 1) most bs (λ k d lt. h (suc k) d (omega (arith, lt))) (omega (arith, le))) refl

no_mark : (bonds : List Bond) → strip_bom (inventory_text bonds) ≡ inventory_text bonds
unfolding inventory_text strip_bom
no_mark bonds = refl

all_back : (bonds : List Bond) → records default_config (inventory_text bonds) ≡ header_of bond_columns ∷ map bond_fields bonds
unfolding inventory_text
all_back bonds =
    let rows = header_of bond_columns ∷ map bond_fields bonds in
    rows_back rows (length (flat_map (row_text default_writer) rows) + 1) (omega (arith, rows_long rows)) ∙ ap (λ t. header_of bond_columns ∷ t) (read_back-bonds bonds)

with_header : (bonds : List Bond) → All IsBond bonds → length bonds ≤ 500 → rows_of_records (bond_columns ∷ []) (λ _. bond_entry) (header_of bond_columns ∷ map bond_fields bonds) ≡ Ok bonds
unfolding rows_of_records
with_header bonds h few = entries_back 2 501 bonds h (omega arith)

records_give : (bonds : List Bond) → All IsBond bonds → length bonds ≤ 500 → rows_of_records (bond_columns ∷ []) (λ _. bond_entry) (records default_config (strip_bom (inventory_text bonds))) ≡ Ok bonds
records_give bonds h few =
    ap (λ t. rows_of_records (bond_columns ∷ []) (λ _. bond_entry) (records default_config t)) (no_mark bonds) ∙ ap (rows_of_records (bond_columns ∷ []) (λ _. bond_entry)) (all_back bonds) ∙ with_header bonds h few

dollars_short : (d : Denom) → dollars d < 100000
dollars_short denom.Fifty = lit< tt
dollars_short denom.SeventyFive = lit< tt
dollars_short denom.Hundred = lit< tt
dollars_short denom.TwoHundred = lit< tt
dollars_short denom.FiveHundred = lit< tt
dollars_short denom.Thousand = lit< tt
dollars_short denom.FiveThousand = lit< tt
dollars_short denom.TenThousand = lit< tt

coowner_short : (c : Option ℕ) → IfSome c (λ n. (1 ≤ n) × (n ≤ 999999999)) → length (coowner_text c) ≤ 9
coowner_short None h = omega arith
coowner_short (Some n) h = let wide : 9999999999 < 2 ^ 64 = lit< tt in length-decimal-le 9 n (omega arith) (omega (arith, h.1)) (omega (arith, h.1))

serial_short : (s : SerialNumber) → s.number ≤ 9999999999 → length (serial_text s) ≤ 13
unfolding serial_text
serial_short s n =
    let wide : 9999999999 < 2 ^ 64 = lit< tt in
    omega (arith, length-append (decimal s.number) (codes "EE"), length-decimal-le 10 s.number (omega arith) (omega (arith, n)) (omega (arith, n)))

month_short : (m : ℕ) → m ≤ 1135 → length (month_text m) ≤ 7
unfolding month_text
month_short m few =
    let wide : 9999999999 < 2 ^ 64 = lit< tt in
    omega (arith, length-append (decimal (year_of m)) (45 ∷ (48 + month_of_year m / 10) ∷ (48 + month_of_year m % 10) ∷ []), length-decimal-le 4 (year_of m) (omega arith) (omega arith) (omega arith))

bond_short : (b : Bond) → IsBond b → length (row_text default_writer (bond_fields b)) ≤ 104
bond_short b h =
    let wide : 9999999999 < 2 ^ 64 = lit< tt in
    let sum : total (bond_fields b) ≡ length (serial_text b.serial) + (length (decimal (dollars b.denom)) + (length (month_text b.issued) + (length (decimal b.owner) + (length (coowner_text b.coowner) + 0)))) = refl in
    let five : length (bond_fields b) ≡ 5 = refl in
    omega (arith, sum, five, row_short (bond_fields b), serial_short b.serial (h.0.3), length-decimal-le 5 (dollars b.denom) (omega arith) (dollars_short b.denom) (omega (arith, dollars_short b.denom)), month_short b.issued (h.1), length-decimal-le 9 b.owner (omega arith) (omega (arith, h.2.1)) (omega (arith, h.2.1)), coowner_short b.coowner (h.3))

bonds_short : (bonds : List Bond) → All IsBond bonds → length (flat_map (row_text default_writer) (map bond_fields bonds)) ≤ 104 * length bonds
bonds_short [] h = omega arith
bonds_short (b ∷ bs) h =
    let one : length (b ∷ bs) ≡ suc (length bs) = refl in
    omega (arith, one, bond_short b (h 0 b (omega arith)), bonds_short bs (λ k d lt. h (suc k) d (omega (arith, lt))), length-append (row_text default_writer (bond_fields b)) (flat_map (row_text default_writer) (map bond_fields bs)))

file_short : (bonds : List Bond) → All IsBond bonds → length bonds ≤ 500 → length (inventory_text bonds) ≤ 1048576
unfolding inventory_text
file_short bonds h few =
    let sum : total (header_of bond_columns) ≡ 29 = refl in
    let five : length (header_of bond_columns) ≡ 5 = refl in
    omega (arith, sum, five, few, row_short (header_of bond_columns), bonds_short bonds h, length-append (row_text default_writer (header_of bond_columns)) (flat_map (row_text default_writer) (map bond_fields bonds)))

pub inventory_back : (bonds : List Bond) → All IsBond bonds → length bonds ≤ 500 → bonds_of_file (inventory_text bonds) ≡ Ok bonds
unfolding rows_of_file
inventory_back bonds h few =
    let fits : nat_lt 1048576 (length (inventory_text bonds)) ≡ false = le-ltb _ _ (file_short bonds h few) in
    rw fits (records_give bonds h few)
