-- The rows of bonds on the terms that were found of their periods.
use Rattle.std.proofs.Common.{◌≡◌, ℕ, true, List, Some, ap}
use Rattle.std.specs.Option.{option_map}
use Rattle.std.specs.List.{filter_map, list_any, AllByRecursion}
use Rattle.std.specs.Ordering.{nat_cmp, eq_by_cmp}
use Rattle.std.specs.Cmp.{nat_cmp_total}
use Rattle.std.specs.FinMap as finite
use Rattle.std.specs.FinMap.{FinMap, nat_cmp-IsAntisymmetric}
use Rattle.ee_units.specs.Calendar.{period_start}
use Rattle.ee_value.specs.declared.rates.Rates.{Rates}
use Rattle.ee_calculator.specs.declared.bonds.Bond.{Bond}
use Rattle.ee_desk_model.specs.Queries.{plain_row, row_of}
use Rattle.ee_desk_model.specs.Views.{picked}
use Rattle.ee_desk_model.proofs.Lemmas.Maps.{get_named, all_weaker}
use Rattle.ee_store_books.proofs.Lemmas.Lookups.{same_found}

pub rows_found : (rates : FinMap nat_cmp Rates) (periods : List ℕ) (month : ℕ) (bonds : List Bond)
    → AllByRecursion (λ (bond : Bond). list_any (eq_by_cmp nat_cmp (period_start bond.issued)) periods ≡ true) bonds
    → filter_map (row_of (picked (finite.get rates) periods) month) bonds ≡ filter_map (row_of rates month) bonds
rows_found rates periods month bonds named = same_found _ _ bonds (all_weaker _ _ (λ (bond : Bond) here.
    ap (option_map (plain_row (Some bond.serial) bond.denom bond.issued month)) (get_named nat_cmp_total nat_cmp-IsAntisymmetric (finite.get rates) periods (period_start bond.issued) here))
    bonds named)
