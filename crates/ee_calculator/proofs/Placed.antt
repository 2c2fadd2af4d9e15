-- A text in its column has at most 45 bytes.
use Rattle.std.proofs.Common.{◌≤◌, ◌-◌, ◌∷◌, [], ℕ, List, length, replicate, arith}
use Rattle.std.proofs.lemmas.List.{length-append, length-replicate}
use Rattle.ee_calculator.specs.Sheets.{placed, on_left, on_right}
use Rattle.ee_calculator.specs.declared.columns.Column.{Column}
use Rattle.ee_calculator.specs.declared.columns.Column.TheVariants as column

left_short : (width : ℕ) (text : List ℕ) → width ≤ 14 → length text ≤ 44 → length (on_left width text) ≤ 44
left_short width text narrow short = omega (arith, length-append text (replicate (width - length text) 32), length-replicate {A = ℕ} (width - length text) 32, narrow, short)

right_short : (width : ℕ) (text : List ℕ) → width ≤ 14 → length text ≤ 44 → length (on_right width text) ≤ 44
right_short width text narrow short = omega (arith, length-append (replicate (width - length text) 32) text, length-replicate {A = ℕ} (width - length text) 32, narrow, short)

pub placed_short : (c : Column) (text : List ℕ) → length text ≤ 44 → length (placed c text) ≤ 45
placed_short column.Serial text short = omega (arith, left_short 13 text (omega (arith)) short)
placed_short column.Series text short = omega (arith, left_short 6 text (omega (arith)) short)
placed_short column.Denom text short = omega (arith, right_short 6 text (omega (arith)) short)
placed_short column.Issued text short = omega (arith, left_short 7 text (omega (arith)) short)
placed_short column.Next text short = omega (arith, left_short 7 text (omega (arith)) short)
placed_short column.Final text short = omega (arith, left_short 7 text (omega (arith)) short)
placed_short column.Price text short = omega (arith, right_short 12 text (omega (arith)) short)
placed_short column.Interest text short = omega (arith, right_short 14 text (omega (arith)) short)
placed_short column.Rate text short = omega (arith, right_short 6 text (omega (arith)) short)
placed_short column.Value text short = omega (arith, right_short 14 text (omega (arith)) short)
placed_short column.Note [] short = omega (arith)
placed_short column.Note (b ∷ bs) short = omega (arith, short)
