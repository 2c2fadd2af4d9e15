-- The rows that csv's writer wrote, read by its reader; and how long their text is at most.
use Rattle.std.proofs.Common.{◌≡◌, ℕ, zero, suc, ◌+◌, ◌*◌, ◌≤◌, List, [], ◌∷◌, ◌++◌, None, map, length, refl, ap, arith, length-append, inl, inr}
use Rattle.std.specs.Prelude.{if◌then◌else◌, ◌==◌}
use Rattle.std.specs.List.{flat_map}
use Rattle.std.proofs.lemmas.Bool.{cases_Bool}
use Rattle.csv.specs.declared.parser.State.TheVariants as st
use Rattle.csv.specs.Reading.{default_config, records_from}
use Rattle.csv.specs.Machine.{next_record}
use Rattle.csv.specs.Writing.{row_text, row_body, field_text, fields_text, escaped, needs_quotes, is_blank, default_writer, read_back}
use Rattle.csv.proofs.RoundTrip.{read-write}
use Rattle.ee_files.specs.Fields.{Bytes}

at_end : next_record default_config st.StartRecord [] [] [] ≡ None
unfolding next_record
at_end = refl

-- with fuel enough, the rows that were written
pub rows_back : (rows : List (List Bytes)) (fuel : ℕ) → length rows ≤ fuel → records_from default_config fuel st.StartRecord (flat_map (row_text default_writer) rows) ≡ map read_back rows
unfolding records_from
rows_back [] zero le = refl
rows_back [] (suc fuel) le = rw at_end refl
rows_back (row ∷ rows) zero le = absurd (omega (arith, le))
rows_back (row ∷ rows) (suc fuel) le =
    rw (read-write row (flat_map (row_text default_writer) rows)) (ap (λ (t : List (List Bytes)). read_back row ∷ t) (rows_back rows fuel (omega (arith, le))))

row_long : (row : List Bytes) → 1 ≤ length (row_text default_writer row)
row_long row = by_end (row_body default_writer row) (if is_blank default_writer row then 34 ∷ 34 ∷ [] else [])
  where
    by_end : (a b : List ℕ) → 1 ≤ length (a ++ (b ++ 10 ∷ []))
    by_end a b = omega (arith, length-append a (b ++ 10 ∷ []), length-append b (10 ∷ []))

-- each row takes a byte at least
pub rows_long : (rows : List (List Bytes)) → length rows ≤ length (flat_map (row_text default_writer) rows)
rows_long [] = omega arith
rows_long (row ∷ rows) =
    let one = row_long row in
    let sum = length-append (row_text default_writer row) (flat_map (row_text default_writer) rows) in
    omega (arith, rows_long rows, one, sum)

-- the bytes of all fields
abbrev pub total : List Bytes → ℕ
total [] = 0
total (f ∷ fs) = length f + total fs

-- quoting at most doubles a field's bytes, and adds two
escaped_short : (field : List ℕ) → length (escaped default_writer field) ≤ 2 * length field
unfolding escaped
escaped_short [] = omega arith
escaped_short (b ∷ rest) = elim (cases_Bool (b == 34)) [
  | inl is ↦ let more = escaped_short rest in rw is (omega (arith, more))
  | inr not ↦ let more = escaped_short rest in rw not (omega (arith, more))
]

field_short : (field : List ℕ) → length (field_text default_writer field) ≤ 2 * length field + 2
field_short field = elim (cases_Bool (needs_quotes default_writer field)) [
  | inl is ↦ rw is (omega (arith, escaped_short field, length-append (escaped default_writer field) (34 ∷ [])))
  | inr not ↦ rw not (omega arith)
]

fields_short : (fields : List Bytes) → length (fields_text default_writer fields) ≤ 2 * total fields + 3 * length fields
unfolding fields_text
fields_short [] = omega arith
fields_short (f ∷ fs) =
    let sum : total (f ∷ fs) ≡ length f + total fs = refl in
    let one : length (f ∷ fs) ≡ suc (length fs) = refl in
    let comma : length (fields_text default_writer (f ∷ fs)) ≡ suc (length (field_text default_writer f ++ fields_text default_writer fs)) = refl in
    omega (arith, sum, one, comma, field_short f, fields_short fs, length-append (field_text default_writer f) (fields_text default_writer fs))

body_short : (fields : List Bytes) → length (row_body default_writer fields) ≤ 2 * total fields + 3 * length fields
body_short [] = omega arith
body_short (f ∷ fs) =
    let sum : total (f ∷ fs) ≡ length f + total fs = refl in
    let one : length (f ∷ fs) ≡ suc (length fs) = refl in
    let same : length (row_body default_writer (f ∷ fs)) ≡ length (field_text default_writer f ++ fields_text default_writer fs) = refl in
    omega (arith, sum, one, same, field_short f, fields_short fs, length-append (field_text default_writer f) (fields_text default_writer fs))

pub row_short : (fields : List Bytes) → length (row_text default_writer fields) ≤ 2 * total fields + 3 * length fields + 3
row_short fields = elim (cases_Bool (is_blank default_writer fields)) [
  | inl is ↦ rw is (omega (arith, body_short fields, length-append (row_body default_writer fields) (34 ∷ 34 ∷ 10 ∷ [])))
  | inr not ↦ rw not (omega (arith, body_short fields, length-append (row_body default_writer fields) (10 ∷ [])))
]
