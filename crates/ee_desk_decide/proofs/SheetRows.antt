-- A sheet shows its rows and their sums.
use Rattle.std.proofs.Common.{◌≡◌, ℕ, ◌+◌, List, [], ◌∷◌, map, refl, sym, ◌∙◌}
use Rattle.std.specs.List.{sum_by}
use Rattle.std.proofs.lemmas.List.Sums.{sum_by-cons}
use Rattle.ee_calculator.specs.declared.rows.Row.{Row}
use Rattle.ee_calculator.specs.declared.sheets.Sheet.{Sheet}
use Rattle.ee_desk_model.specs.Queries.{PlainRow, shown_in_row, shown_in_sheet, sheet_of}

sum_shown : (f : Row → ℕ) (g : PlainRow → ℕ) → ((row : Row) → f row ≡ g (shown_in_row row)) → (rows : List Row) → sum_by f rows ≡ sum_by g (map shown_in_row rows)
sum_shown f g same [] = refl
sum_shown f g same (row ∷ rows) =
    sum_by-cons f row rows ∙ (λ i. same row i + sum_shown f g same rows i) ∙ sym (sum_by-cons g (shown_in_row row) (map shown_in_row rows))

pub sheet_is : (sheet : Sheet) (rows : List Row) → sheet.rows.items ≡ rows → sheet.price.0 ≡ sum_by (λ row. row.price.0) rows
    → sheet.value.0 ≡ sum_by (λ row. row.value.0) rows → sheet.interest.0 ≡ sum_by (λ row. row.interest.0) rows → shown_in_sheet sheet ≡ sheet_of (map shown_in_row rows)
sheet_is sheet rows same price value interest = λ i. record {
  rows = map shown_in_row (same i);
  price = (price ∙ sum_shown (λ row. row.price.0) (λ row. row.columns.price) (λ row. refl) rows) i;
  value = (value ∙ sum_shown (λ row. row.value.0) (λ row. row.columns.value) (λ row. refl) rows) i;
  interest = (interest ∙ sum_shown (λ row. row.interest.0) (λ row. row.columns.interest) (λ row. refl) rows) i;
}
