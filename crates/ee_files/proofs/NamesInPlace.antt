-- A header that is compared name by name, at its places.
use Rattle.std.proofs.Common.{◌≡◌, ℕ, suc, ◌==◌, ◌&&◌, Bool, true, false, List, [], ◌∷◌, length, refl, sym, ap, arith}
use Rattle.std.proofs.Math.Bool.{and-true, and-false, and_assoc}
use Rattle.std.proofs.lemmas.Bool.{ne_eqb}
use Rattle.std.specs.Str.{bytes_eq}
use Rattle.csv.specs.Records.{field_at}
use Rattle.ee_files.specs.BondFile.{bond_columns}
use Rattle.ee_files.specs.Columns.{column_name}
use Rattle.ee_files.specs.Fields.{Bytes}
use Rattle.ee_files.specs.RateFile.{rate_columns, extended_columns}
use Rattle.ee_files.specs.Rows.{header_of, same_fields}
use Rattle.ee_files.specs.Inner.Rows.{name_at}
use Rattle.ee_files.specs.declared.columns.FileColumn.{FileColumn}
use Rattle.ee_files.specs.declared.columns.FileColumn.TheVariants as column

none_of_two : (a b : Bool) → false ≡ a && (b && false)
none_of_two a b = rw (and-false b, and-false a) refl

none_of_three : (a b c : Bool) → false ≡ a && (b && (c && false))
none_of_three a b c = rw (and-false c, and-false b, and-false a) refl

none_of_four : (a b c d : Bool) → false ≡ a && (b && (c && (d && false)))
none_of_four a b c d = rw (and-false d, and-false c, and-false b, and-false a) refl

none_of_five : (a b c d e : Bool) → false ≡ a && (b && (c && (d && (e && false))))
none_of_five a b c d e = rw (and-false e, and-false d, and-false c, and-false b, and-false a) refl

all_five : (a b c d e : Bool) → (a && (b && c)) && (d && e) ≡ a && (b && (c && (d && (e && true))))
all_five a b c d e = rw (and-true e, and_assoc a (b && c) (d && e), and_assoc b c (d && e)) refl

-- whether a field is a column's name
abbrev is : Bytes → FileColumn → Bool
is field column = bytes_eq field (column_name column)

-- more fields than names
not_two : (n : ℕ) → suc (suc (suc n)) == 2 ≡ false
not_two n = ne_eqb _ _ (λ e. omega (arith, e))

not_five : (n : ℕ) → suc (suc (suc (suc (suc (suc n))))) == 5 ≡ false
not_five n = ne_eqb _ _ (λ e. omega (arith, e))

pub two_names : (fields : List Bytes) → (length fields == 2) && (name_at fields 0 column.From && name_at fields 1 column.Rate) ≡ same_fields fields (header_of rate_columns)
unfolding field_at
two_names [] = refl
two_names (x ∷ []) = sym (and-false _)
two_names (x ∷ y ∷ []) = ap (λ t. bytes_eq x (column_name column.From) && t) (sym (and-true _))
two_names (x ∷ y ∷ z ∷ rest) = rw (not_two (length rest)) (none_of_two _ _)

not_three : (n : ℕ) → suc (suc (suc (suc n))) == 3 ≡ false
not_three n = ne_eqb _ _ (λ e. omega (arith, e))

all_three : (a b c : Bool) → a && (b && c) ≡ a && (b && (c && true))
all_three a b c = rw (and-true c) refl

pub three_names : (fields : List Bytes) → (length fields == 3) && (name_at fields 0 column.From && (name_at fields 1 column.Rate && name_at fields 2 column.Extension)) ≡ same_fields fields (header_of extended_columns)
unfolding field_at
three_names [] = refl
three_names (a ∷ []) = sym (and-false _)
three_names (a ∷ b ∷ []) = none_of_two (is a column.From) (is b column.Rate)
three_names (a ∷ b ∷ c ∷ []) = all_three (is a column.From) (is b column.Rate) (is c column.Extension)
three_names (a ∷ b ∷ c ∷ d ∷ rest) = rw (not_three (length rest)) (none_of_three (is a column.From) (is b column.Rate) (is c column.Extension))

pub five_names : (fields : List Bytes) → (length fields == 5) && ((name_at fields 0 column.Serial && (name_at fields 1 column.Denom && name_at fields 2 column.Issued)) && (name_at fields 3 column.Owner && name_at fields 4 column.Coowner)) ≡ same_fields fields (header_of bond_columns)
unfolding field_at
five_names [] = refl
five_names (a ∷ []) = sym (and-false _)
five_names (a ∷ b ∷ []) = none_of_two (is a column.Serial) (is b column.Denom)
five_names (a ∷ b ∷ c ∷ []) = none_of_three (is a column.Serial) (is b column.Denom) (is c column.Issued)
five_names (a ∷ b ∷ c ∷ d ∷ []) = none_of_four (is a column.Serial) (is b column.Denom) (is c column.Issued) (is d column.Owner)
five_names (a ∷ b ∷ c ∷ d ∷ e ∷ []) = all_five (is a column.Serial) (is b column.Denom) (is c column.Issued) (is d column.Owner) (is e column.Coowner)
five_names (a ∷ b ∷ c ∷ d ∷ e ∷ f ∷ rest) = rw (not_five (length rest)) (none_of_five (is a column.Serial) (is b column.Denom) (is c column.Issued) (is d column.Owner) (is e column.Coowner))
