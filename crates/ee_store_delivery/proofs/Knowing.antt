-- Terms that are known of books.
use Rattle.std.proofs.Common.{◌≡◌, ℕ, Bool, true, false, cond, refl, sym, ap, ◌∙◌, subst}
use Rattle.std.specs.Prelude.{Option, Some, None, IfSome}
use Rattle.std.specs.Ordering.{nat_cmp, eq_by_cmp}
use Rattle.std.specs.Cmp.{nat_cmp_total}
use Rattle.std.specs.FinMap as finite
use Rattle.std.specs.FinMap.{FinMap, nat_cmp-IsAntisymmetric, get-insert, get-empty}
use Rattle.std.proofs.lemmas.Map.Views.{tells_apart}
use Rattle.ee_value.specs.declared.rates.Rates.{Rates}
use Rattle.ee_desk_model.specs.PlainBooks.{PlainBooks}
use Rattle.ee_store_books.specs.Found.{with_found}
use Rattle.ee_store_delivery.specs.Known.{AreTermsOf}

-- no terms are those of any books
pub no_terms_of : (books : PlainBooks) → AreTermsOf finite.empty books
no_terms_of books period = subst (λ o. IfSome o (λ rates. finite.get books.rates period ≡ Some rates)) (sym (get-empty nat_cmp period)) tt

-- terms that are learned of a period are those of the books
pub learned : (terms : FinMap nat_cmp Rates) (books : PlainBooks) (period : ℕ) (found : Option Rates) → found ≡ finite.get books.rates period
    → AreTermsOf terms books → AreTermsOf (with_found terms period found) books
learned terms books period None is are = are
learned terms books period (Some rates) is are = λ p.
    subst (λ o. IfSome o (λ r. finite.get books.rates p ≡ Some r)) (sym (get-insert nat_cmp_total terms period rates p)) (by_case p (eq_by_cmp nat_cmp p period) refl)
  where
    by_case : (p : ℕ) (b : Bool) → eq_by_cmp nat_cmp p period ≡ b → IfSome (cond b (Some rates) (finite.get terms p)) (λ r. finite.get books.rates p ≡ Some r)
    by_case p true same = ap (finite.get books.rates) (tells_apart nat_cmp-IsAntisymmetric p period same) ∙ sym is
    by_case p false apart = are p
