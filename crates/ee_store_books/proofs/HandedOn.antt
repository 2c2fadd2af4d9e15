-- Errors that are handed on, and rates that can be read.
use Rattle.std.proofs.Common.{◌≡◌, ℕ, Option, Some, None, Result, Ok, Err, IfErr, IsErrAnd, sym, subst}
use Rattle.std.proofs.lemmas.Result.{IfErr-weaker}
use Rattle.std.specs.Prelude.{IfSome}
use Rattle.std.specs.Option.{option_map, option_and_then}
use Rattle.std.specs.FinMap as finite
use Rattle.sqlite.specs.State.{State}
use Rattle.ee_value.specs.declared.rates.Rates.{Rates}
use Rattle.ee_value.specs.Chain.{InRange, rates_with, named_extension}
use Rattle.ee_value.proofs.Lemmas.{rates-back}
use Rattle.ee_desk_model.specs.Repeats.{Content}
use Rattle.ee_desk_model.specs.Sound.{IsRightRate}
use Rattle.ee_desk_model.specs.Values.{unsettled}
use Rattle.ee_store_books.specs.Standing.{IsRight}
use Rattle.ee_store_tables.specs.declared.failures.Failure.{Failure}
use Rattle.ee_store_tables.specs.declared.failures.Failure.TheVariants as failure
use Rattle.ee_store_tables.specs.Statements.{IsExcused}

-- ---- errors that are handed on
pub handed_on : {X : Type 0} (P : Failure → Type 0) (r : Result X Failure) (e : Failure) → IsErrAnd r (λ told. told ≡ e) → P e → IfErr r P
handed_on P (Ok x) e is p = tt
handed_on P (Err told) e is p = subst P (sym is) p

-- a statement failed
pub statement_failed : {X : Type 0} (old new : State) (r : Result X Failure) (f : Failure) → IsErrAnd r (λ told. told ≡ f) → IsExcused old new f → IfErr r (IsExcused old new)
statement_failed old new r f is h = handed_on (IsExcused old new) r f is h

-- memory was refused
pub memory_handed_on : {X : Type 0} (old new : State) (r : Result X Failure) (e : Failure) → IsErrAnd r (λ told. told ≡ e) → e ≡ failure.NoMemory → IfErr r (IsExcused old new)
memory_handed_on old new r e is memory = handed_on (IsExcused old new) r e is (subst (IsExcused old new) (sym memory) tt)

pub memory_alone : {X : Type 0} (old new : State) (r : Result X Failure) → IfErr r (λ e. e ≡ failure.NoMemory) → IfErr r (IsExcused old new)
memory_alone old new r h = IfErr-weaker r (λ e. e ≡ failure.NoMemory) (IsExcused old new) (λ e is. subst (IsExcused old new) (sym is) tt) h

-- ---- rates
right_rate : (period : ℕ) (o : Option Rates) → IfSome o (IsRightRate period) → IfSome o (λ rates. InRange rates × (unsettled rates ≡ None))
right_rate period None h = tt
right_rate period (Some rates) h = (h.in_range.1, h.settled)

-- the rates of a right content can be read
pub rates_right : (S : Content) (period : ℕ) → IsRight S → IfSome (finite.get S.books.rates period) (λ rates. InRange rates × (unsettled rates ≡ None))
rates_right S period right = right_rate period (finite.get S.books.rates period) (right.sound.rates period)

-- what was found are such rates
pub rates_read : (terms : Option Rates) (fixed extension : Option ℕ) → fixed ≡ option_map (λ rates. rates.fixed) terms → extension ≡ option_and_then named_extension terms
    → IfSome terms (λ rates. InRange rates × (unsettled rates ≡ None))
    → IfSome fixed (λ fixed. InRange (rates_with fixed extension) × (unsettled (rates_with fixed extension) ≡ None))
rates_read terms fixed extension one other h = subst
    (λ (shown : Option ℕ × Option ℕ). IfSome shown.0 (λ fixed. InRange (rates_with fixed shown.1) × (unsettled (rates_with fixed shown.1) ≡ None)))
    (λ i. (sym one i, sym other i)) (both terms h)
  where
    both : (terms : Option Rates) → IfSome terms (λ rates. InRange rates × (unsettled rates ≡ None))
        → IfSome (option_map (λ (rates : Rates). rates.fixed) terms)
        (λ fixed. InRange (rates_with fixed (option_and_then named_extension terms)) × (unsettled (rates_with fixed (option_and_then named_extension terms)) ≡ None))
    both None h = tt
    both (Some rates) h = subst (λ r. InRange r × (unsettled r ≡ None)) (sym (rates-back rates)) h
