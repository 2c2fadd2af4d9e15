-- A row by its columns.
use Rattle.std.proofs.Common.{◌≡◌, [], ◌∷◌, length, ap, ◌∙◌, arith}
use Rattle.std.proofs.lemmas.List.{nil_from_length}
use Rattle.sqlite.specs.declared.types.Value.{Value}
use Rattle.sqlite_value.specs.Order.{Row, column}

pub seven_columns : (r : Row) (a b c d e f g : Value) → length r ≡ 7 → column r 0 ≡ a → column r 1 ≡ b → column r 2 ≡ c → column r 3 ≡ d → column r 4 ≡ e → column r 5 ≡ f → column r 6 ≡ g
    → r ≡ a ∷ b ∷ c ∷ d ∷ e ∷ f ∷ g ∷ []
seven_columns [] a b c d e f g long p0 p1 p2 p3 p4 p5 p6 = absurd (omega (arith, long))
seven_columns (v0 ∷ []) a b c d e f g long p0 p1 p2 p3 p4 p5 p6 = absurd (omega (arith, long))
seven_columns (v0 ∷ v1 ∷ []) a b c d e f g long p0 p1 p2 p3 p4 p5 p6 = absurd (omega (arith, long))
seven_columns (v0 ∷ v1 ∷ v2 ∷ []) a b c d e f g long p0 p1 p2 p3 p4 p5 p6 = absurd (omega (arith, long))
seven_columns (v0 ∷ v1 ∷ v2 ∷ v3 ∷ []) a b c d e f g long p0 p1 p2 p3 p4 p5 p6 = absurd (omega (arith, long))
seven_columns (v0 ∷ v1 ∷ v2 ∷ v3 ∷ v4 ∷ []) a b c d e f g long p0 p1 p2 p3 p4 p5 p6 = absurd (omega (arith, long))
seven_columns (v0 ∷ v1 ∷ v2 ∷ v3 ∷ v4 ∷ v5 ∷ []) a b c d e f g long p0 p1 p2 p3 p4 p5 p6 = absurd (omega (arith, long))
seven_columns (v0 ∷ v1 ∷ v2 ∷ v3 ∷ v4 ∷ v5 ∷ v6 ∷ r) a b c d e f g long p0 p1 p2 p3 p4 p5 p6 =
    ap (λ rest. v0 ∷ v1 ∷ v2 ∷ v3 ∷ v4 ∷ v5 ∷ v6 ∷ rest) (nil_from_length r (omega (arith, long)))
    ∙ ap (λ v. v ∷ v1 ∷ v2 ∷ v3 ∷ v4 ∷ v5 ∷ v6 ∷ []) p0 ∙ ap (λ v. a ∷ v ∷ v2 ∷ v3 ∷ v4 ∷ v5 ∷ v6 ∷ []) p1 ∙ ap (λ v. a ∷ b ∷ v ∷ v3 ∷ v4 ∷ v5 ∷ v6 ∷ []) p2
    ∙ ap (λ v. a ∷ b ∷ c ∷ v ∷ v4 ∷ v5 ∷ v6 ∷ []) p3 ∙ ap (λ v. a ∷ b ∷ c ∷ d ∷ v ∷ v5 ∷ v6 ∷ []) p4 ∙ ap (λ v. a ∷ b ∷ c ∷ d ∷ e ∷ v ∷ v6 ∷ []) p5 ∙ ap (λ v. a ∷ b ∷ c ∷ d ∷ e ∷ f ∷ v ∷ []) p6
