-- A query that the tables understand is never refused because of them.
use Rattle.std.proofs.Common.{◌≡◌, ◌≢◌, ◌<◌, ◌⊎◌, inl, inr, ℕ, List, length, ap, ◌∙◌, Some, None, Option, Ok, Err, Result, IfErr, OnOk, IsErrAnd, sym, subst}
use Rattle.sqlite_trees.specs.declared.error.StoreError.{StoreError}
use Rattle.sqlite_trees.specs.declared.error.StoreError.TheVariants.{OutOfMemory, Io, Corrupt, Full, Broken, Unstorable}
use Rattle.sqlite.specs.declared.error.Error.{Error}
use Rattle.sqlite.specs.declared.error.ErrorCode.TheVariants as code
use Rattle.sqlite.specs.declared.error.Error.TheVariants.{SqliteFailure, InvalidQuery}
use Rattle.sqlite_schema.specs.declared.command.Command.{Command}
use Rattle.sqlite_schema.specs.declared.command.Command.TheVariants.{Select, Rows}
use Rattle.sqlite_schema.specs.declared.command.Returning.{Returning}
use Rattle.sqlite_resolve.specs.declared.compiled.Compiled.{Compiled}
use Rattle.sqlite.specs.declared.types.Value.{Value}
use Rattle.sqlite_value.specs.Order.{Row, column}
use Rattle.sqlite.specs.Effect.{Database, RefusesToRead}
use Rattle.sqlite.specs.Listing.{understood}
use Rattle.sqlite.specs.State.{State, store_error, Fails, IsNoStatement, IsNotRun, FailsToShow, FailsToQuery, IsTooLate}
use Rattle.sqlite.proofs.Callers.{IsPlain}
use Rattle.ee_store_schema.specs.declared.faults.OpenFault.{OpenFault}
use Rattle.ee_store_schema.specs.declared.faults.OpenFault.TheVariants.{Unusable}
use Rattle.ee_store_schema.specs.Faults.{fault_of}

-- ---- it tells of no other tables

abbrev pub IsUsable : Error → Type 0
IsUsable e = fault_of e ≢ Unusable

pub same_error : (e f : Error) → e ≡ f → IsUsable f → IsUsable e
same_error e f is usable = subst IsUsable (sym is) usable

failed : (cause : StoreError) → IsUsable (store_error cause)
failed OutOfMemory h = cc
failed Io h = cc
failed Corrupt h = cc
failed Full h = cc
failed Broken h = cc
failed Unstorable h = cc

pub store_fails : {TooBig : Type 0} (old new : State) (e : Error) → Fails old new TooBig e → IsUsable e
store_fails old new e h = same_error e _ h.1 (failed h.0)

pub no_statement : (s : State) (sql : List ℕ) (params : Row) (e : Error) → IsPlain (understood s.now.schema sql) → IsNoStatement s sql params e → IsUsable e
no_statement s sql params e plain (inl h) = absurd (subst IsPlain h.1 plain)
no_statement s sql params e plain (inr (c, is, inl h)) = same_error e _ h.1 (λ u. cc)
no_statement s sql params e plain (inr (c, is, inr (inl h))) = same_error e _ h.1 (λ u. cc)
no_statement s sql params e plain (inr (c, is, inr (inr h))) = same_error e _ h.1 (λ u. cc)

refuses : (limit : Option ℕ) (command : Command) (db : Database) (params : Row) (e : Error) → RefusesToRead limit command db params e → IsUsable e
refuses limit (Select q names) db params e (inl h) = same_error e _ h.0 (λ u. cc)
refuses limit (Select q names) db params e (inr (inl h)) = same_error e _ h.0 (λ u. cc)
refuses limit (Select q names) db params e (inr (inr h)) = same_error e _ h.0 (λ u. cc)
refuses limit (Rows values width names) db params e h = same_error e _ h.0 (λ u. cc)
refuses limit _ db params e h = same_error e InvalidQuery h (λ u. cc)

shows_none : (old new : State) (sql : List ℕ) (c : Compiled) (params : Row) (e : Error) (what : Option Returning) → what ≡ None → FailsToShow old new sql c params e what → IsUsable e
shows_none old new sql c params e None is h = refuses old.step_limit c.command h.0 params e h.2
shows_none old new sql c params e (Some what) is h = absurd cc

pub query_usable : (old new : State) (sql : List ℕ) (params : Row) (e : Error) → IsPlain (understood old.now.schema sql) → FailsToQuery sql params old new e ⊎ IsTooLate sql params old new e → IsUsable e
unfolding FailsToQuery IsNotRun
query_usable old new sql params e plain (inl (inl (inl h))) = no_statement old sql params e plain h.0
query_usable old new sql params e plain (inl (inl (inr h))) = store_fails old new e h
query_usable old new sql params e plain (inl (inr h)) = shows_none old new sql h.0 _ e h.0.returning (subst IsPlain h.1.is plain).0 h.2
query_usable old new sql params e plain (inr h) = same_error e _ h.4 (λ u. cc)

-- ---- errors that `?` hands on

pub handed_on : {X : Type 0} (P : OpenFault → Type 0) (r : Result X OpenFault) (fault : OpenFault) → IsErrAnd r (λ f. f ≡ fault) → P fault → IfErr r P
handed_on P (Ok x) fault is p = tt
handed_on P (Err f) fault is p = subst P (sym is) p

pub told_as : {X : Type 0} (P : OpenFault → Type 0) (r : Result X OpenFault) (e : Error) → IsErrAnd r (λ fault. fault ≡ fault_of e) → P (fault_of e) → IfErr r P
told_as P r e is p = handed_on P r (fault_of e) is p

-- a value that is there and can be read is read, unless memory is short
pub is_read : (V : Value → Type 0) (row : Row) (at : ℕ) (e : Error) → (e ≢ SqliteFailure code.OutOfMemory → at < length row → ¬ V (column row at)) → at < length row → V (column row at) → fault_of e ≢ Unusable
is_read V row at e kind within reads told = kind (λ short. let u = sym told ∙ ap fault_of short in cc) within reads

-- ---- what holds whatever the result is

pub always : {X E P : Type 0} (r : Result X E) → P → OnOk r P
always (Ok x) p = p
always (Err e) p = tt

-- what follows from two facts of a value, it has
pub two_ok : {X E P Q S : Type 0} (r : Result X E) → (P → Q → S) → OnOk r P → OnOk r Q → OnOk r S
two_ok (Ok x) f p q = f p q
two_ok (Err e) f p q = tt

-- what follows from what an error has, it has
pub each_fault : {X E : Type 0} {P Q : E → Type 0} (r : Result X E) → ((e : E) → P e → Q e) → IfErr r P → IfErr r Q
each_fault (Ok x) f p = tt
each_fault (Err e) f p = f e p

-- and so what follows from two facts
pub two_faults : {X E : Type 0} {P Q S : E → Type 0} (r : Result X E) → ((e : E) → P e → Q e → S e) → IfErr r P → IfErr r Q → IfErr r S
two_faults (Ok x) f p q = tt
two_faults (Err e) f p q = f e p q
