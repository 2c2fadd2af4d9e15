-- If none of the rows is refused, no single row is.
use Rattle.std.proofs.Common.{◌≡◌, ℕ, zero, suc, ◌<◌, List, [], ◌∷◌, length, get_or, Option, None, arith, ap, ◌∙◌}
use Rattle.ee_desk_model.specs.declared.refusals.Refusal.{Refusal}
use Rattle.ee_desk_model.specs.Refusals.{first_of}
use Rattle.ee_desk_model.proofs.Lemmas.Books.{none_from_option_or}

pub none_at : {A : Type 0} (refusal : A → Option Refusal) (rows : List A) (i : ℕ) (row : A) → first_of refusal rows ≡ None → i < length rows → row ≡ get_or rows i row → refusal row ≡ None
none_at refusal [] i row none h is = absurd (omega (arith, h))
none_at refusal (x ∷ rows) zero row none h is = ap refusal is ∙ (none_from_option_or (refusal x) (first_of refusal rows) none).0
none_at refusal (x ∷ rows) (suc i) row none h is = none_at refusal rows i row (none_from_option_or (refusal x) (first_of refusal rows) none).1 (omega (arith, h)) is
