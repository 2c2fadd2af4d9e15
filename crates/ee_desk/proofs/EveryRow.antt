-- Each bond of an inventory has its row.
use Rattle.std.proofs.Common.{◌≡◌, ℕ, Bool, true, false, true≢false, cond, List, [], ◌∷◌, map, Option, Some, None, refl, sym, ap, ◌∙◌}
use Rattle.std.specs.Prelude.{IsSome}
use Rattle.std.specs.Option.{IfSome, option_map}
use Rattle.std.specs.List.{AllByRecursion, filter, filter_map, cons_option}
use Rattle.std.specs.Map.{values_of}
use Rattle.std.specs.FinMap as finite
use Rattle.std.specs.FinMap.{FinMap}
use Rattle.std.specs.Ordering.{nat_cmp}
use Rattle.ee_units.specs.Spelling.{SerialNumber}
use Rattle.ee_units.specs.Calendar.{period_start}
use Rattle.ee_value.specs.declared.rates.Rates.{Rates}
use Rattle.ee_calculator.specs.declared.bonds.Bond.{Bond}
use Rattle.ee_calculator.specs.declared.rows.Row.{Row}
use Rattle.ee_desk_model.specs.Sound.{IsSound, IsRightBond}
use Rattle.ee_desk_model.specs.PlainBooks.{PlainBooks}
use Rattle.ee_desk_model.specs.Queries.{PlainRow, shown_in_row, row_of, plain_row, is_open_bond, bonds_of}
use Rattle.ee_desk_model.proofs.Lemmas.Maps.{serials_total, serials_exact}
use Rattle.ee_desk_decide.proofs.Lemmas.{all_entries}

abbrev IsRated : FinMap nat_cmp Rates → Bond → Type 0
IsRated rates bond = IsSome (finite.get rates (period_start bond.issued))

rated_if : (rates : FinMap nat_cmp Rates) (serial : SerialNumber) (o : Option Bond) → IfSome o (IsRightBond rates serial) → IfSome o (IsRated rates)
rated_if rates serial None h = tt
rated_if rates serial (Some bond) h = h.rated

abbrev serials_shown : List PlainRow → List (Option SerialNumber)
serials_shown rows = map (λ row. row.serial) rows

abbrev serials_of_bonds : List Bond → List (Option SerialNumber)
serials_of_bonds bonds = map (λ bond. Some bond.serial) bonds

one_row : (month : ℕ) (bond : Bond) (rates : Option Rates) (rows : List PlainRow) → IsSome rates
    → serials_shown (cons_option (option_map (plain_row (Some bond.serial) bond.denom bond.issued month) rates) rows) ≡ Some bond.serial ∷ serials_shown rows
one_row month bond None rows h = absurd (true≢false (sym h))
one_row month bond (Some rates) rows h = refl

rows_among : (rates : FinMap nat_cmp Rates) (month : ℕ) (p : Bond → Bool) (es : List (SerialNumber × Bond)) → AllByRecursion (λ e. IsRated rates e.1) es
    → serials_shown (filter_map (row_of rates month) (filter p (values_of es))) ≡ serials_of_bonds (filter p (values_of es))
rows_among rates month p [] h = refl
rows_among rates month p (e ∷ es) h = chosen (filter p (values_of es)) (p e.1) (rows_among rates month p es h.1)
  where
    chosen : (bonds : List Bond) (b : Bool) → serials_shown (filter_map (row_of rates month) bonds) ≡ serials_of_bonds bonds
        → serials_shown (filter_map (row_of rates month) (cond b (e.1 ∷ bonds) bonds)) ≡ serials_of_bonds (cond b (e.1 ∷ bonds) bonds)
    chosen bonds true is =
        one_row month e.1 (finite.get rates (period_start e.1.issued)) (filter_map (row_of rates month) bonds) h.0 ∙ ap (λ l. Some e.1.serial ∷ l) is
    chosen bonds false is = is

same_serials : (rows : List Row) → map (λ row. row.serial) rows ≡ serials_shown (map shown_in_row rows)
same_serials [] = refl
same_serials (row ∷ rows) = ap (λ l. row.serial ∷ l) (same_serials rows)

-- sound books have rates for each bond, so that no row is left out
pub every_row : (books : PlainBooks) (customer month : ℕ) (rows : List Row) → IsSound books
    → map shown_in_row rows ≡ filter_map (row_of books.rates month) (bonds_of books customer)
    → map (λ row. row.serial) rows ≡ map (λ bond. Some bond.serial) (bonds_of books customer)
every_row books customer month rows sound is =
    same_serials rows ∙ ap serials_shown is
    ∙ rows_among books.rates month (is_open_bond books.tickets customer) (finite.entries books.bonds)
    (all_entries serials_total serials_exact (λ serial bond. IsRated books.rates bond) books.bonds
    (λ serial. rated_if books.rates serial (finite.get books.bonds serial) (sound.bonds serial)))
