-- Rows of tables as finite maps: how they are found and written.
use Rattle.std.proofs.Common.{Bool, Err, Less, List, Ok, Option, Ordering, Result, [], false, filter, map, nat_cmp, pos, ℕ, ℤ, ◌∷◌, ◌≡◌, ◌≢◌, ◌⊎◌}
use Rattle.std.specs.Cmp.{IsTotalOrder}
use Rattle.std.specs.FinMap.{FinMap, IsAntisymmetric, get, insert}
use Rattle.std.specs.FinMap.Entries.{find, is_sorted}
use Rattle.std.specs.List.{AllByRecursion, list_all}
use Rattle.std.specs.Option.{option_to_list}
use Rattle.std.specs.Prelude.{IsPermutation, MatchOption, T, flat_map, if◌then◌else◌, option_map}
use Rattle.sqlite.specs.Cast.{cast}
use Rattle.sqlite.specs.Kind.TheVariants.{Integer}
use Rattle.sqlite.specs.Order.{Row, value_cmp}
use Rattle.sqlite.specs.Program.{overlay}
use Rattle.sqlite.specs.Query.{IsAnswer, Output, output, output_cmp, page}
use Rattle.sqlite.specs.Term.{Term}
use Rattle.sqlite.specs.Tree.{IsAscending, Trees, put_row}
use Rattle.sqlite.specs.declared.types.Value.{Value}
use Rattle.sqlite.specs.declared.types.Value.TheVariants.{Int, Null}
use Rattle.sqlite_rules.specs.Edit.{is_taken}
use Rattle.sqlite_sql.specs.Term.{Env, eval_all, holds}
use Rattle.sqlite_value.specs.declared.keys.Key.{Key}
use Rattle.ee_store_tables.specs.Keyed.{AreRows, HoldsMap, HoldsPairs, ReadAlike, pair_cmp, row_of}
use Rattle.ee_store_tables.specs.Rows.{optional}
use Rattle.ee_store_tables.proofs.ColumnLemmas
use Rattle.ee_store_tables.proofs.HoldsLemmas
use Rattle.ee_store_tables.proofs.KeyedLemmas
use Rattle.ee_store_tables.proofs.OrderLemmas
use Rattle.ee_store_tables.proofs.PairLemmas
use Rattle.ee_store_tables.proofs.ReadLemmas
use Rattle.ee_store_tables.proofs.SameLemmas
use Rattle.ee_store_tables.proofs.SelectLemmas
use Rattle.ee_store_tables.proofs.WriteLemmas
pub use Rattle.ee_store_tables.proofs.Meaning.{by_number, by_column, no_limit, ordered_query}
pub use Rattle.ee_store_tables.proofs.PairLemmas.{tied}
pub use Rattle.ee_store_tables.proofs.SameLemmas.{int_in, natural, number_in, optional_in}

-- ---- queries of one table
-- the rows that a condition keeps, as they are shown
pub rows_that_match : {A B : Type 0} (row : A → Row) (params : Row) (terms : List Term) (test : A → Bool) (show : Env → B) (out : A → B)
    (agrees : (r : Row) (a : A) → ReadAlike r (row a) → list_all (holds (params ∷ r ∷ [])) terms ≡ test a)
    (shows : (r : Row) (a : A) → ReadAlike r (row a) → show (params ∷ r ∷ []) ≡ out a) (rows : List Row) (xs : List A) → AreRows row rows xs
    → map show (flat_map (λ r. if list_all (holds (params ∷ r ∷ [])) terms then (params ∷ r ∷ []) ∷ [] else []) rows) ≡ map out (filter test xs)
rows_that_match = SelectLemmas.matched

-- an ordered query finds exactly the rows that pass its test, in order
pub rows_in_order : {A B : Type 0} (row : A → Row) (key : A → B) (tree : ℕ) (terms project : List Term) (order : List (Term × Key)) (limit : Term)
    (params : Row) (test : B → Bool) (out : B → Output)
    (agrees : (r : Row) (a : A) → ReadAlike r (row a) → list_all (holds (params ∷ r ∷ [])) terms ≡ test (key a))
    (shows : (r : Row) (a : A) → ReadAlike r (row a) → output (ordered_query tree terms project order limit) (params ∷ r ∷ []) ≡ out (key a))
    (db : Trees) (found : List Row) (xs : List A) (expected : List B) → overlay db [] tree ≡ db tree → AreRows row (db tree) xs
    → IsPermutation (map key xs) expected
    → IsAscending (λ a b. output_cmp (ordered_query tree terms project order limit) (out a) (out b) ≡ Less) (filter test expected)
    → IsAnswer (ordered_query tree terms project order limit) (overlay db []) params found
    → found ≡ page (ordered_query tree terms project order limit) params (map (λ (o : Output). o.1) (map out (filter test expected)))
rows_in_order = OrderLemmas.in_order

-- a query by number finds exactly the row of the key, if there is one
pub found_by_number : {X : Type 0} (columns : X → Row) (tree : ℕ) (project : List Term) (n : ℕ) (more : Row) (show : ℕ × X → Row)
    (shows : (r : Row) (e : ℕ × X) → ReadAlike r (row_of columns (pos e.0, e)) → eval_all project ((Int (pos n) ∷ more) ∷ r ∷ []) ≡ show e)
    (db : Trees) (m : FinMap nat_cmp X) (found : List Row) → overlay db [] tree ≡ db tree → HoldsMap columns (db tree) m
    → IsAnswer (by_number tree project) (overlay db []) (Int (pos n) ∷ more) found
    → found ≡ option_to_list (option_map (λ x. show (n, x)) (get m n))
found_by_number = ReadLemmas.found_by_number

-- whole numbers compare as rows' values as they do as numbers
pub cmp_pos : (m n : ℕ) → value_cmp (Int (pos m)) (Int (pos n)) ≡ nat_cmp m n
cmp_pos = SelectLemmas.cmp_pos

-- ---- rows that represent a map
-- a new row at its key is the map with that key put in
pub adds_keyed : {X : Type 0} (columns : X → Row) (n : ℕ) (rows : List Row) (m : FinMap nat_cmp X) (h : HoldsMap columns rows m) (x : X)
    → is_taken rows (row_of columns (pos n, (n, x))) ≡ false → HoldsMap columns (put_row (row_of columns (pos n, (n, x))) rows) (insert m n x)
adds_keyed = KeyedLemmas.adds_keyed

-- if each identity is the key, rows are those of the keys
pub keyed_same : {X : Type 0} (columns : X → Row) (rows : List Row) (numbered : List (ℤ × (ℕ × X))) → AllByRecursion (λ p. p.0 ≡ pos p.1.0) numbered
    → AreRows (row_of columns) rows numbered
    → AreRows (λ p. row_of columns (pos p.1.0, p.1)) rows numbered
keyed_same = ReadLemmas.keyed_same

-- rows that stay hold the map that they held
pub kept_map : {X : Type 0} {columns : X → Row} {m : FinMap nat_cmp X} {old new : List Row} → new ≡ old → HoldsMap columns old m → HoldsMap columns new m
kept_map = WriteLemmas.moved

-- so do rows under pairs of numbers
pub kept_pairs : {X : Type 0} (columns : X → Row) {m : FinMap pair_cmp X} {old new : List Row} → new ≡ old → HoldsPairs columns old m → HoldsPairs columns new m
kept_pairs = WriteLemmas.moved_pairs

-- ---- finite maps and lists
-- pairs of numbers have a total order
pub pair_total : IsTotalOrder pair_cmp
pair_total = HoldsLemmas.pair_total

-- pairs that compare alike are one
pub pair_same : IsAntisymmetric pair_cmp
pair_same = HoldsLemmas.pair_same

-- the keys of a map's entries rise
pub keys_rise : {K X : Type 0} (R : K → K → Ordering) (es : List (K × X)) → T (is_sorted R es) → IsAscending (λ e f. R e.0 f.0 ≡ Less) es
keys_rise = OrderLemmas.keys_rise

-- the entry of a key, if there is one, is all that is tied to it
pub tied_entry : {K X : Type 0} (R : K → K → Ordering) (o : IsTotalOrder R) (k : K) → IsAntisymmetric R → (es : List (K × X)) → T (is_sorted R es)
    → filter (tied R o k) es ≡ option_to_list (option_map (λ x. (k, x)) (find R k es))
tied_entry = PairLemmas.tied_entry

-- a list of one element at most has no other order
pub at_most_one : {X : Type 0} (o : Option X) (xs : List X) → IsPermutation (option_to_list o) xs → xs ≡ option_to_list o
at_most_one = HoldsLemmas.at_most_one

-- the first two of a list exchanged are another order of it
pub first_two_exchanged : {X : Type 0} (x y : X) (zs : List X) → IsPermutation (x ∷ y ∷ zs) (y ∷ x ∷ zs)
first_two_exchanged = PairLemmas.exchanged

-- ---- values as they are written
-- a whole number stays as it is in a column of whole numbers
pub cast_int : (n : ℕ) → cast Integer (Int (pos n)) ≡ Int (pos n)
cast_int = WriteLemmas.cast_int

-- an absent value stays absent
pub cast_null : cast Integer Null ≡ Null
cast_null = WriteLemmas.cast_null

-- an optional number is read back from its value
pub optional_back : (o : Option ℕ) → optional_in (optional o) ≡ o
optional_back = SameLemmas.optional_back

-- a value that is told to be no number, or this number, is that of the option
pub reads_optional : (v : Value) (o : Option ℕ) → MatchOption o (v ≡ Null) (λ n. (v ≢ Null) × (v ≡ Int (pos n))) → v ≡ optional o
reads_optional = ColumnLemmas.reads_optional

-- a part that gave a value did not stop on the way
pub went_on : {B E R : Type 0} {b : B} {Stops : E → Type 0} → ((stop : E) × Stops stop × (Ok b ≡ Err stop)) ⊎ R → R
went_on = WriteLemmas.went

-- results that are equal have one value
pub same_ok : {B E : Type 0} {a b : B} → ◌≡◌ {A = Result B E} (Ok a) (Ok b) → a ≡ b
same_ok = WriteLemmas.same_value
