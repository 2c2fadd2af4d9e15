-- What is shown alike is the same.
use Rattle.std.proofs.Common.{◌≡◌, ℕ, pos, List, [], ◌∷◌, map, Some, None, Option, refl, sym, ap, ap₂, ◌∙◌, ℤ}
use Rattle.sqlite.specs.declared.types.Value.{Value}
use Rattle.sqlite.specs.declared.types.Value.TheVariants.{Int}
use Rattle.sqlite.specs.Order.{Row}
use Rattle.sqlite_value.specs.Order.{column}
use Rattle.ee_store_tables.specs.declared.records.TicketSum.{TicketSum}
use Rattle.ee_store_tables.specs.declared.records.PlacedLine.{PlacedLine}
use Rattle.ee_store_tables.specs.declared.records.UnpaidBond.{UnpaidBond}
use Rattle.ee_store_tables.specs.Rows.{optional}
use Rattle.ee_store_tables.specs.AsRows.{sum_columns, placed_columns, unpaid_columns}

-- ---- numbers in values

abbrev pub int_in : Value → ℤ
int_in (Int n) = n
int_in _ = pos 0

abbrev pub natural : ℤ → ℕ
natural (pos n) = n
natural _ = 0

abbrev pub number_in : Value → ℕ
number_in v = natural (int_in v)

abbrev pub optional_in : Value → Option ℕ
optional_in (Int n) = Some (natural n)
optional_in _ = None

pub optional_back : (o : Option ℕ) → optional_in (optional o) ≡ o
optional_back None = refl
optional_back (Some n) = refl

-- ---- lists of what is shown

same_again : {A : Type 0} (show : A → Row) (read : Row → A) → ((a : A) → read (show a) ≡ a) → (xs : List A) → map read (map show xs) ≡ xs
same_again show read back [] = refl
same_again show read back (x ∷ xs) = ap₂ ◌∷◌ (back x) (same_again show read back xs)

shown_once : {A : Type 0} (show : A → Row) (read : Row → A) → ((a : A) → read (show a) ≡ a) → (xs ys : List A) → map show xs ≡ map show ys → xs ≡ ys
shown_once show read back xs ys same = sym (same_again show read back xs) ∙ ap (map read) same ∙ same_again show read back ys

sum_in : Row → TicketSum
sum_in r = record { ticket = number_in (column r 0); bonds = number_in (column r 1); total = number_in (column r 2) }

pub same_sums : (xs ys : List TicketSum) → map sum_columns xs ≡ map sum_columns ys → xs ≡ ys
unfolding sum_in
same_sums = shown_once sum_columns sum_in (λ s. refl)

line_in : Row → PlacedLine
line_in r = record { place = number_in (column r 0); letter = number_in (column r 1); number = number_in (column r 2); cents = number_in (column r 3) }

pub same_lines : (xs ys : List PlacedLine) → map placed_columns xs ≡ map placed_columns ys → xs ≡ ys
unfolding line_in
same_lines = shown_once placed_columns line_in (λ s. refl)

bond_in : Row → UnpaidBond
bond_in r = record {
  letter = number_in (column r 0);
  number = number_in (column r 1);
  denom = number_in (column r 2);
  issued = number_in (column r 3);
  owner = number_in (column r 4);
  coowner = optional_in (column r 5);
}

bond_back : (bond : UnpaidBond) → bond_in (unpaid_columns bond) ≡ bond
unfolding bond_in
bond_back bond = ap (λ o. record bond { coowner = o }) (optional_back bond.coowner)

pub same_bonds : (xs ys : List UnpaidBond) → map unpaid_columns xs ≡ map unpaid_columns ys → xs ≡ ys
same_bonds = shown_once unpaid_columns bond_in bond_back
