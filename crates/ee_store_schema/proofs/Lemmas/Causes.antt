-- Why a store is told to have failed.
use Rattle.std.proofs.Common.{◌≡◌, ◌≢◌, inl, inr, ℕ, List, length, Bool, true, false, IsTrue, Some, None, Option, Ok, sym, ap, subst, ◌∙◌, append-nil}
use Rattle.std.proofs.lemmas.Bool.{cases_Bool}
use Rattle.sqlite_trees.specs.declared.error.StoreError.{StoreError}
use Rattle.sqlite_trees.specs.declared.error.StoreError.TheVariants.{OutOfMemory, Io, Corrupt, Full, Broken, Unstorable}
use Rattle.sqlite.specs.declared.error.Error.{Error}
use Rattle.sqlite_schema.specs.declared.command.Returning.{Returning}
use Rattle.sqlite_resolve.specs.declared.compiled.Compiled.{Compiled}
use Rattle.sqlite.specs.Tree.{Trees}
use Rattle.sqlite_value.specs.Order.{Row}
use Rattle.sqlite.specs.Effect.{RefusesToRead}
use Rattle.sqlite.specs.Listing.{understood, IsSourceOf}
use Rattle.sqlite.specs.Clock.{timed}
use Rattle.sqlite.specs.State.{State, store_error, HasCleanDisk, Survives, Fails, IsNoStatement, IsNotRun, FailsToShow, FailsToQuery, HasCause as Explains}
use Rattle.sqlite.proofs.StateLemmas.{survives_then}
use Rattle.ee_store_tables.proofs.Lemmas.Causes.{cause_then}
use Rattle.ee_store_schema.specs.declared.faults.OpenFault.{OpenFault}
use Rattle.ee_store_schema.specs.declared.faults.OpenFault.TheVariants.{StoreFailed}
use Rattle.ee_store_schema.specs.Faults.{fault_of, IsExcused}
use Rattle.ee_store_schema.specs.Inner.Asking.{IsOneStatement, NeverRefuses, IsNeverRefused}

pub never_both : (b : Bool) → b ≡ true → b ≡ false → ⊥
never_both b on off = let e = sym on ∙ off in cc

-- ---- from one call to the next

-- a cause of a later call is told of both
pub excused_then : (old middle new : State) {P Q : Trees → Type 0} → Survives old middle P → Survives middle new Q → HasCleanDisk new → (fault : OpenFault) → IsExcused middle new fault → IsExcused old new fault
excused_then old middle new first second clean fault excuse told = cause_then old middle new first second clean (excuse told)

-- two calls that commit nothing are like one
pub then_survives : (old middle new : State) → Survives old middle (λ _. ⊥) → Survives middle new (λ _. ⊥) → Survives old new (λ _. ⊥)
then_survives old middle new = survives_then old middle new _ _ _ (λ _ db h. h) (λ _ db h. h)

-- of a store that was shut nothing else is asked
pub excused_if_open : (old new : State) (fault : OpenFault) → (IsTrue old.is_open → IsExcused old new fault) → IsExcused old new fault
excused_if_open old new fault excuse told = elim (cases_Bool old.is_open) [ inl is_open ↦ excuse is_open told | inr shut ↦ inr shut ]

-- ---- errors that tell of no failure of the store

pub other_fault : (old new : State) (fault : OpenFault) → fault ≢ StoreFailed → IsExcused old new fault
other_fault old new fault other told = absurd (other told)

-- ---- statements

module _ (old new : State) where
  abbrev pub Excuses : Error → Type 0
  Excuses e = IsExcused old new (fault_of e)

  by_cause : {TooBig : Type 0} → ¬ TooBig → (cause : StoreError) → Explains old new TooBig cause → Excuses (store_error cause)
  by_cause none OutOfMemory why told = cc
  by_cause none Io why told = inl why
  by_cause none Corrupt why told = inl why
  by_cause none Full why told = inl why
  by_cause none Broken why told = inr why
  by_cause none Unstorable why told = absurd (none why)

  pub fails_excused : {TooBig : Type 0} → ¬ TooBig → (e : Error) → Fails old new TooBig e → Excuses e
  fails_excused none e h = subst Excuses (sym h.1) (by_cause none h.0 h.2)

  pub no_statement_excused : (text : List ℕ) (params : Row) (e : Error) → IsOneStatement text (length params) (understood old.now.schema text) → IsNoStatement old text params e → Excuses e
  no_statement_excused text params e one (inl h) = other_fault old new _ (λ told. let u = sym (ap fault_of h.2) ∙ told in cc)
  no_statement_excused text params e one (inr (c, is, h)) =
      let it = subst (IsOneStatement text (length params)) is one in
      elim h [ inl more ↦ absurd (more.0 it.0) | inr h ↦ elim h [ inl other ↦ absurd (other.0 it.1) | inr timed ↦ absurd (timed.0 it.3) ] ]

  pub not_run_excused : (text : List ℕ) (params : Row) (e : Error) → IsOneStatement text (length params) (understood old.now.schema text) → IsNotRun old new text params e → Excuses e
  unfolding IsNotRun
  not_run_excused text params e one (inl h) = no_statement_excused text params e one h.0
  not_run_excused text params e one (inr h) = fails_excused (λ none. none) e h

  module _ (text : List ℕ) (params : Row) (never : IsNeverRefused old.now.schema text params) (limit : old.step_limit ≡ None) where
    shows_excused : (c : Compiled) (e : Error) → understood old.now.schema text ≡ Ok c → (what : Option Returning) → what ≡ None → FailsToShow old new text c params e what → Excuses e
    shows_excused c e is None none h =
        let db : h.0 ≡ old.now = subst (λ b. IsSourceOf b old.now h.0) never.unlisted h.1 in
        let refused = subst (λ d. RefusesToRead None c.command d params e) db (subst (λ l. RefusesToRead l c.command h.0 params e) limit h.2) in
        absurd (subst (NeverRefuses old.now.schema params) is never.accepted old.now.trees e refused)
    shows_excused c e is (Some what) none h = absurd cc

    -- a query that these tables never refuse fails for a cause
    pub query_excused : (e : Error) → FailsToQuery text params old new e → Excuses e
    unfolding FailsToQuery
    query_excused e (inl h) = not_run_excused text params e never.statement h
    query_excused e (inr h) =
        let one = subst (IsOneStatement text (length params)) h.1.is never.statement in
        let bare = subst (λ formats. timed params formats h.1.now ≡ params) (sym one.3) (append-nil params) in
        shows_excused h.0 e h.1.is h.0.returning one.2 (subst (λ all. FailsToShow old new text h.0 all e h.0.returning) bare h.2)
