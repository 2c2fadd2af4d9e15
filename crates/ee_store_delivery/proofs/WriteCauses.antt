-- Why a write fails after another one.
use Rattle.std.proofs.Common.{◌≡◌, List, map, length, Result, IfErr, IsErrAnd, sym, ap, ◌∙◌}
use Rattle.std.proofs.lemmas.List.{length-map}
use Rattle.sqlite.specs.State.{State, HasCleanDisk}
use Rattle.ee_store_tables.specs.declared.failures.Failure.{Failure}
use Rattle.ee_store_tables.specs.Statements.{IsExcused, LeavesNoMore}
use Rattle.ee_store_books.proofs.Lemmas.Lookups.{excused_later, handed_on}

-- a statement failed that came after another one
pub later_failed : {X : Type 0} (old middle new : State) → HasCleanDisk new → LeavesNoMore old middle → LeavesNoMore middle new
    → (r : Result X Failure) (f : Failure) → IsErrAnd r (λ told. told ≡ f) → IsExcused middle new f → IfErr r (IsExcused old new)
later_failed old middle new clean first second r f is h =
    handed_on (IsExcused old new) r f is (excused_later old middle new clean first second f h)

pub same_length : {A B C : Type 0} (f : A → C) (g : B → C) (xs : List A) (ys : List B) → map f xs ≡ map g ys → length xs ≡ length ys
same_length f g xs ys is = sym (length-map xs f) ∙ ap length is ∙ length-map ys g
