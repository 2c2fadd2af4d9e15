-- Tables that are kept one after another.
use Rattle.std.proofs.Common.{◌≡◌, ℕ, Bool, true, false, cond, ◌||◌, List, [], ◌∷◌, map, Option, Some, None, refl, sym, ap, ◌∙◌}
use Rattle.std.specs.List.{list_any}
use Rattle.std.specs.FinMap as finite
use Rattle.std.specs.FinMap.{FinMap, IsAntisymmetric, entries, find, get-empty, get-insert, get-from_entries, same_map}
use Rattle.std.specs.Ordering.{nat_cmp, eq_by_cmp}
use Rattle.std.specs.Cmp.{IsTotalOrder, nat_cmp_total, then_total, on_total}
use Rattle.std.proofs.lemmas.Map.Lookups.{exact_pairs, exact_unsigned}
use Rattle.std.proofs.lemmas.Map.Views.{tells_apart}
use Rattle.ee_value.specs.declared.rates.Rates.{Rates}
use Rattle.ee_desk_model.specs.PlainBooks.{PlainBooks}
use Rattle.ee_desk_model.specs.UnitTables.{rates_cmp, tables_in}
use Rattle.ee_desk_soundness.specs.Parts.{Parts, parts_of, row_of_entry}
use Rattle.ee_desk_soundness.specs.Checks.{entry_of_row}
use Rattle.ee_store_contents.specs.Contents.{tables_for}
use Rattle.ee_store_contents.proofs.RowsOfBooks.{fuse, undone}

rates_total : IsTotalOrder rates_cmp
rates_total = then_total (on_total (λ (r : Rates). r.fixed) nat_cmp_total) (on_total (λ (r : Rates). r.extension) nat_cmp_total)

rates_exact : IsAntisymmetric rates_cmp
rates_exact a b e = ap (λ (p : ℕ × ℕ). record { fixed = p.0; extension = p.1 }) (exact_pairs nat_cmp nat_cmp exact_unsigned exact_unsigned (a.fixed, a.extension) (b.fixed, b.extension) e)

abbrev pub own : Rates → Rates × Rates
own rates = (rates, rates)

-- these are kept too, one after another
abbrev pub with_each : FinMap rates_cmp Rates → List Rates → FinMap rates_cmp Rates
with_each kept [] = kept
with_each kept (rates ∷ more) = with_each (finite.insert kept rates rates) more

abbrev is_one_of : Rates → List Rates → Bool
is_one_of q all = list_any (eq_by_cmp rates_cmp q) all

found_or : (q r : Rates) (o : Option Rates) (a b : Bool) → eq_by_cmp rates_cmp q r ≡ b → cond a (Some q) (cond b (Some r) o) ≡ cond (b || a) (Some q) o
found_or q r o true true same = refl
found_or q r o true false apart = refl
found_or q r o false true same = ap Some (sym (tells_apart rates_exact q r same))
found_or q r o false false apart = refl

get_with_each : (kept : FinMap rates_cmp Rates) (all : List Rates) (q : Rates) → finite.get (with_each kept all) q ≡ cond (is_one_of q all) (Some q) (finite.get kept q)
get_with_each kept [] q = refl
get_with_each kept (r ∷ all) q =
    get_with_each (finite.insert kept r r) all q
    ∙ ap (cond (is_one_of q all) (Some q)) (get-insert rates_total kept r r q)
    ∙ found_or q r (finite.get kept q) (is_one_of q all) (eq_by_cmp rates_cmp q r) refl

first_or : (q r : Rates) (o : Option Rates) (a b : Bool) → eq_by_cmp rates_cmp q r ≡ b → o ≡ cond a (Some q) None → cond b (Some r) o ≡ cond (b || a) (Some q) None
first_or q r o a true same is = ap Some (sym (tells_apart rates_exact q r same))
first_or q r o a false apart is = is

find_own : (all : List Rates) (q : Rates) → find rates_cmp q (map own all) ≡ cond (is_one_of q all) (Some q) None
find_own [] q = refl
find_own (r ∷ all) q = first_or q r (find rates_cmp q (map own all)) (is_one_of q all) (eq_by_cmp rates_cmp q r) refl (find_own all q)

pub with_all : (all : List Rates) → with_each finite.empty all ≡ tables_in (map own all)
with_all all = same_map rates_total rates_exact (with_each finite.empty all) (tables_in (map own all)) (λ q.
    get_with_each finite.empty all q ∙ ap (cond (is_one_of q all) (Some q)) (get-empty rates_cmp q)
    ∙ sym (get-from_entries rates_total (map own all) q ∙ find_own all q))

-- the tables of what is made of parts are those of their books
pub tables_made : (parts : Parts) (books : PlainBooks) (terms : List (ℕ × Rates)) → parts_of books ≡ parts → terms ≡ map entry_of_row parts.rates
    → tables_in (map own (map (λ e. e.1) terms)) ≡ tables_for books.rates
tables_made parts books terms is made =
    let rows : map row_of_entry (entries books.rates) ≡ parts.rates = ap (λ (p : Parts). p.rates) is in
    let same : terms ≡ entries books.rates = made ∙ ap (map entry_of_row) (sym rows) ∙ undone row_of_entry entry_of_row (λ e. refl) (entries books.rates) in
    ap tables_in (fuse own (λ (e : ℕ × Rates). e.1) (λ e. (e.1, e.1)) (λ e. refl) terms ∙ ap (map (λ (e : ℕ × Rates). (e.1, e.1))) same)
