-- A row by its columns.
use Rattle.std.proofs.Common.{◌≡◌, ◌≢◌, ℕ, pos, [], ◌∷◌, length, Some, None, Option, ap, ◌∙◌, arith}
use Rattle.std.specs.Prelude.{MatchOption}
use Rattle.std.proofs.lemmas.List.{nil_from_length}
use Rattle.sqlite.specs.declared.types.Value.{Value}
use Rattle.sqlite.specs.declared.types.Value.TheVariants.{Null, Int}
use Rattle.sqlite.specs.Order.{Row}
use Rattle.sqlite_value.specs.Order.{column}
use Rattle.ee_store_tables.specs.Rows.{optional}

pub six_columns : (r : Row) (a b c d e f : Value) → length r ≡ 6 → column r 0 ≡ a → column r 1 ≡ b → column r 2 ≡ c → column r 3 ≡ d → column r 4 ≡ e → column r 5 ≡ f → r ≡ a ∷ b ∷ c ∷ d ∷ e ∷ f ∷ []
six_columns [] a b c d e f long p0 p1 p2 p3 p4 p5 = absurd (omega (arith, long))
six_columns (v0 ∷ []) a b c d e f long p0 p1 p2 p3 p4 p5 = absurd (omega (arith, long))
six_columns (v0 ∷ v1 ∷ []) a b c d e f long p0 p1 p2 p3 p4 p5 = absurd (omega (arith, long))
six_columns (v0 ∷ v1 ∷ v2 ∷ []) a b c d e f long p0 p1 p2 p3 p4 p5 = absurd (omega (arith, long))
six_columns (v0 ∷ v1 ∷ v2 ∷ v3 ∷ []) a b c d e f long p0 p1 p2 p3 p4 p5 = absurd (omega (arith, long))
six_columns (v0 ∷ v1 ∷ v2 ∷ v3 ∷ v4 ∷ []) a b c d e f long p0 p1 p2 p3 p4 p5 = absurd (omega (arith, long))
six_columns (v0 ∷ v1 ∷ v2 ∷ v3 ∷ v4 ∷ v5 ∷ r) a b c d e f long p0 p1 p2 p3 p4 p5 =
    ap (λ rest. v0 ∷ v1 ∷ v2 ∷ v3 ∷ v4 ∷ v5 ∷ rest) (nil_from_length r (omega (arith, long)))
    ∙ (λ i. p0 i ∷ p1 i ∷ p2 i ∷ p3 i ∷ p4 i ∷ p5 i ∷ [])

-- NULL is no number
pub reads_optional : (v : Value) (o : Option ℕ) → MatchOption o (v ≡ Null) (λ n. (v ≢ Null) × (v ≡ Int (pos n))) → v ≡ optional o
reads_optional v None h = h
reads_optional v (Some n) h = h.1
