-- Tables that are kept under their rates.
use Rattle.std.proofs.Common.{◌≡◌, ℕ, Bool, true, false, cond, Option, Some, None, refl, sym, ap, ◌∙◌, subst}
use Rattle.std.specs.Option.{IfSome, option_copied}
use Rattle.std.specs.Borrow.{Bor}
use Rattle.std.specs.FinMap as finite
use Rattle.std.specs.FinMap.{FinMap, get-empty, get-insert, same_map}
use Rattle.std.specs.Ordering.{nat_cmp, eq_by_cmp}
use Rattle.std.specs.Cmp.{IsTotalOrder, nat_cmp_total}
use Rattle.std.proofs.lemmas.Cmp.{on_total, then_total}
use Rattle.std.proofs.lemmas.Map.Lookups.{CmpEqualImpliesEq, exact_pairs, exact_unsigned}
use Rattle.std.proofs.lemmas.Map.Views.{tells_apart}
use Rattle.ee_value.specs.declared.rates.Rates.{Rates}
use Rattle.ee_desk_model.specs.UnitTables.{rates_cmp, AreOwn}

pub rates_total : IsTotalOrder rates_cmp
rates_total = then_total (on_total (λ (r : Rates). r.fixed) nat_cmp_total) (on_total (λ (r : Rates). r.extension) nat_cmp_total)

pub exact_rates : CmpEqualImpliesEq rates_cmp
exact_rates a b h = ap (λ (p : ℕ × ℕ). record { fixed = p.0; extension = p.1 }) (exact_pairs nat_cmp nat_cmp exact_unsigned exact_unsigned (a.fixed, a.extension) (b.fixed, b.extension) h)

-- the kept map is as it was if the rates were there
pub kept_again : (kept : FinMap rates_cmp Rates) (rates : Rates) → finite.get kept rates ≡ Some rates → kept ≡ finite.insert kept rates rates
kept_again kept rates there = same_map rates_total exact_rates _ _ (λ q. by_case q (eq_by_cmp rates_cmp q rates) refl ∙ sym (get-insert rates_total kept rates rates q))
  where
    by_case : (q : Rates) (b : Bool) → eq_by_cmp rates_cmp q rates ≡ b → finite.get kept q ≡ cond (eq_by_cmp rates_cmp q rates) (Some rates) (finite.get kept q)
    by_case q true same = ap (finite.get kept) (tells_apart exact_rates q rates same) ∙ there ∙ sym (ap (λ b. cond b (Some rates) (finite.get kept q)) same)
    by_case q false apart = sym (ap (λ b. cond b (Some rates) (finite.get kept q)) apart)

-- one more stands under itself
pub own_more : (kept : FinMap rates_cmp Rates) (rates : Rates) → AreOwn kept → AreOwn (finite.insert kept rates rates)
own_more kept rates own q = subst (λ o. IfSome o (λ x. x ≡ q)) (sym (get-insert rates_total kept rates rates q)) (by_case (eq_by_cmp rates_cmp q rates) refl)
  where
    by_case : (b : Bool) → eq_by_cmp rates_cmp q rates ≡ b → IfSome (cond b (Some rates) (finite.get kept q)) (λ x. x ≡ q)
    by_case true same = sym (tells_apart exact_rates q rates same)
    by_case false apart = own q

pub none_own : AreOwn finite.empty
none_own q = subst (λ o. IfSome o (λ x. x ≡ q)) (sym (get-empty rates_cmp q)) tt

-- what is said of what is lent
pub copied_if : {A : Type 0} (P : A → Type 0) (o : Option (Bor A)) → IfSome (option_copied o) P → IfSome o (λ x. P x.now)
copied_if P None h = tt
copied_if P (Some x) h = h

-- the terms that are found of some rates are those
pub there : (kept : FinMap rates_cmp Rates) (asked rates : Rates) (found : Option Rates) (own : Rates) → found ≡ Some own → found ≡ finite.get kept asked → IfSome found (λ x. x ≡ asked)
    → asked ≡ rates → finite.get kept rates ≡ Some rates
there kept asked rates found own is value same asks =
    let one : own ≡ rates = subst (λ o. IfSome o (λ x. x ≡ asked)) is same ∙ asks in
    ap (finite.get kept) (sym asks) ∙ sym value ∙ is ∙ ap Some one
