-- Why a statement fails.
use Rattle.std.proofs.Common.{◌≡◌, ◌≢◌, ◌≤◌, ◌⊎◌, inl, inr, ℕ, List, [], length, Bool, true, false, IsTrue, None, Some, Option, Ok, Err, Result, IfErr, refl, sym, ap, subst, ◌∙◌, append-nil, arith, true≢false, ap₂, subst₂}
use Rattle.std.proofs.lemmas.Bool.{cases_Bool}
use Rattle.std.specs.Prelude.{IsSome, is_some, not, ◌&&◌, ◌||◌}
use Rattle.sqlite.specs.Order.{Row}
use Rattle.sqlite.specs.Tree.{Trees}
use Rattle.std.specs.Result.{IsErrAnd}
use Rattle.std.specs.List.{Any}
use Rattle.sqlite.specs.Effect.{IsDatabase, RefusesQuery, RefusesToRead, is_query}
use Rattle.sqlite.specs.Command.{Command}
use Rattle.sqlite.specs.Command.TheVariants.{Select, Insert, InsertOr, Update, Begin, Commit, Rollback, Release, RollbackTo}
use Rattle.sqlite.specs.Listing.{understood, reads_listing, IsSourceOf}
use Rattle.sqlite.specs.Clock.{timed}
use Rattle.sqlite.specs.State as store
use Rattle.sqlite.specs.State.{State, HasCleanDisk, Survives, Fails, IsNotRun, IsNoStatement, IsStatement, IsMisplaced, Escapes, EndsScope, RunsCommand, ExecutesIn, ExecutesInside, FailsToShow, FailsToQuery, IsTooLate, store_error, text_of, shows_rows, is_pragma}
use Rattle.sqlite.specs.Does.{Does}
use Rattle.sqlite.specs.declared.run.Mode.{Mode}
use Rattle.sqlite_schema.specs.declared.schema.Keys.TheVariants.{Enforced}
use Rattle.sqlite.specs.declared.error.Error.{Error}
use Rattle.sqlite.proofs.Callers.{IsPlain, command_of}
use Rattle.sqlite_schema.specs.declared.command.Returning.{Returning}
use Rattle.sqlite_schema.specs.declared.program.Program.{Program}
use Rattle.sqlite_resolve.specs.declared.compiled.Compiled.{Compiled}
use Rattle.sqlite_resolve.specs.declared.error.CompileError.{CompileError}
use Rattle.sqlite_trees.specs.declared.error.StoreError.{StoreError}
use Rattle.sqlite_trees.specs.declared.error.StoreError.TheVariants.{OutOfMemory, Io, Corrupt, Full, Broken, Unstorable}
use Rattle.ee_store_tables.specs.declared.failures.Failure.{Failure}
use Rattle.ee_store_tables.specs.declared.failures.Failure.TheVariants.{NoMemory, StoreFailed}
use Rattle.ee_store_tables.specs.Failures.{failure_of}
use Rattle.sqlite_schema.specs.declared.schema.Constraint.TheVariants.{Unique}
use Rattle.sqlite_schema.specs.Rules.{Keeps}
use Rattle.ee_store_tables.specs.Rows.{Rows, Holds, IsInside, Sees, HasRoom, HasRoomIn}
use Rattle.ee_store_tables.specs.Statements.{HasCause, IsExcused}
use Rattle.ee_store_tables.proofs.Meaning.{IsWhole, returning_of}
use Rattle.ee_store_tables.proofs.KeepLemmas.{clean_before}
use Rattle.sqlite.specs.Schema.{Schema}
use Rattle.ee_store_tables.specs.Tables.{with_others, others_in, AreOthers, HasCounterTables}

module _ (old new : State) where
  pub shut_before : old.is_open ≡ false → (failure : Failure) → IsExcused old new failure
  shut_before shut NoMemory = tt
  shut_before shut StoreFailed = inr shut

  excused : {too_big : Type 0} → ¬ too_big → (cause : StoreError) → store.HasCause old new too_big cause → IsExcused old new (failure_of (store_error cause))
  excused none OutOfMemory h = tt
  excused none Io h = inl h
  excused none Corrupt h = inl h
  excused none Full h = inl h
  excused none Broken h = inr h
  excused none Unstorable h = absurd (none h)

  -- a failure of the store, if no row is too big
  pub store_fails : {too_big : Type 0} → ¬ too_big → (e : Error) → Fails old new too_big e → IsExcused old new (failure_of e)
  store_fails none e h = subst (λ e. IsExcused old new (failure_of e)) (sym h.1) (excused none h.0 h.2)

  module _ (sql : List ℕ) (params : Row) (has : HasCounterTables old.now.schema) (whole : (others : Schema) → IsWhole sql (length params) (understood (with_others others) sql)) where
    known : (r : Result Compiled CompileError) → understood old.now.schema sql ≡ r → IsWhole sql (length params) r
    known r is = subst (IsWhole sql (length params)) (sym (ap (λ s. understood s sql) has.ours) ∙ is) (whole (others_in old.now.schema))

    is_statement : (e : Error) → ¬ IsNoStatement old sql params e
    is_statement e (inl wrong) = known (Err wrong.0) wrong.1
    is_statement e (inr (c, is, inl more)) = let it = known (Ok c) is in more.0 (omega (arith, it.0))
    is_statement e (inr (c, is, inr (inl other))) = other.0 (sym (known (Ok c) is).1)
    is_statement e (inr (c, is, inr (inr clock))) = clock.0 (known (Ok c) is).2

    pub not_run : (e : Error) → IsNotRun old new sql params e → IsExcused old new (failure_of e)
    unfolding IsNotRun
    not_run e (inl wrong) = absurd (is_statement e wrong.0)
    not_run e (inr failed) = store_fails (λ never. never) e failed

-- a query that is accepted, sums up nothing, and has no limit on steps
pub never_refused : {M A O S I : Type 0} → ¬ A → ¬ S → (M × A) ⊎ ((O × S) ⊎ (I × IsSome {T = ℕ} None)) → ⊥
never_refused accepted sums (inl wrong) = accepted wrong.1
never_refused accepted sums (inr (inl many)) = sums many.1
never_refused accepted sums (inr (inr late)) = absurd (let a = late.1 in cc)

pub no_sums : (rows : List Row) → ⊥ ⊎ Any (λ _. ⊥) rows → ⊥
no_sums rows (inl h) = h
no_sums rows (inr h) = h.4

pub never_false : true ≢ false
never_false e = absurd cc

-- a query of the tables that is accepted with these parameters, and sums up nothing
pub record IsAsked (sql : List ℕ) (params : Row) : Type 0 where
  pub query : Program
  pub names : List (List ℕ)
  pub is : (others : Schema) → (command_of (understood (with_others others) sql) ≡ Select query names) × (reads_listing (with_others others) sql ≡ false)
  pub plain : (others : Schema) → IsPlain (understood (with_others others) sql)
  pub whole : (others : Schema) → IsWhole sql (length params) (understood (with_others others) sql)
  pub answered : (others : Schema) (db : Trees) (e : Error) → ¬ RefusesQuery None (record { schema = with_others others; trees = db }) query params e

module _ (sql : List ℕ) (params : Row) (asked : IsAsked sql params) (old new : State) where
  reads : HasCounterTables old.now.schema → old.step_limit ≡ None → (e : Error) → ¬ RefusesQuery old.step_limit old.now asked.query params e
  reads has endless e h =
      asked.answered (others_in old.now.schema) old.now.trees e (subst (λ s. RefusesQuery None (record { schema = s; trees = old.now.trees }) asked.query params e) has.ours (subst (λ limit. RefusesQuery limit old.now asked.query params e) endless h))

  fails_to_read : HasCounterTables old.now.schema → old.step_limit ≡ None → (e : Error) → FailsToQuery sql params old new e → IsExcused old new (failure_of e)
  unfolding FailsToQuery
  fails_to_read has endless e (inl h) = not_run old new sql params has asked.whole e h
  fails_to_read has endless e (inr h) =
      let known = sym h.1.is ∙ ap (λ s. understood s sql) has.ours in
      let bare = subst IsPlain (sym known) (asked.plain (others_in old.now.schema)) in
      let it = rw (bare.1, append-nil params) at (subst (FailsToShow old new sql h.0 (timed params h.0.formats h.1.now) e) bare.0 h.2) in
      let db : it.0 ≡ old.now = subst (λ b. IsSourceOf b old.now it.0) (ap (λ s. reads_listing s sql) has.ours ∙ (asked.is (others_in old.now.schema)).1) it.1 in
      let refused = subst (λ d. RefusesToRead old.step_limit h.0.command d params e) db it.2 in
      absurd (reads has endless e (subst (λ k. RefusesToRead old.step_limit k old.now params e) (ap command_of known ∙ (asked.is (others_in old.now.schema)).0) refused))

  never_late : HasCounterTables old.now.schema → (e : Error) → ¬ IsTooLate sql params old new e
  never_late has e h = let none = (subst IsPlain (sym (ap (λ s. understood s sql) has.ours) ∙ h.1.is) (asked.plain (others_in old.now.schema))).0 in let some : IsSome {T = Returning} None = subst IsSome none h.2 in absurd cc

  fails : IsInside old → old.step_limit ≡ None → (e : Error) → FailsToQuery sql params old new e ⊎ IsTooLate sql params old new e → IsExcused old new (failure_of e)
  fails inside endless e h = elim (cases_Bool old.is_open) [
    | inl is_open ↦ elim h [
      | inl failed ↦ fails_to_read (inside is_open).1 endless e failed
      | inr late ↦ absurd (never_late (inside is_open).1 e late)
    ]
    | inr shut ↦ shut_before old new shut (failure_of e)
  ]

  -- a query of the tables fails if the device does
  pub query_excused : {X : Type 0} → IsInside old → old.step_limit ≡ None → (result : Result X Error) → IfErr result (λ e. FailsToQuery sql params old new e ⊎ IsTooLate sql params old new e) → IfErr result (λ e. IsExcused old new (failure_of e))
  query_excused inside endless (Ok x) h = tt
  query_excused inside endless (Err e) h = fails inside endless e h

pub from_err : {X E : Type 0} {P Q : E → Type 0} (r : Result X E) → IsErrAnd r P → ((e : E) → P e → Q e) → IfErr r Q
from_err (Ok x) h next = tt
from_err (Err e) h next = next e h

-- ---- writes

-- a write of rows, which begins and ends nothing
abbrev pub is_change : Command → Bool
is_change (Insert at from) = true
is_change (InsertOr at way from clauses) = true
is_change (Update at q) = true
is_change _ = false

module _ (command : Command) (change : is_change command ≡ true) where
  other : (k : Command) → is_change k ≡ false → command ≢ k
  other k ends same = true≢false (sym change ∙ ap is_change same ∙ ends)

  placed : (s : State) (e : Error) → ¬ IsMisplaced s command e
  placed s e (inl (_, inl begins)) = other Begin refl begins.0
  placed s e (inl (_, inr (inl commits, _))) = other Commit refl commits
  placed s e (inl (_, inr (inr undoes, _))) = other Rollback refl undoes
  placed s e (inr (_, name, inl release, _)) = other (Release name) refl release
  placed s e (inr (_, name, inr back, _)) = other (RollbackTo name) refl back

  stays : (held : ℕ) (s : State) → ¬ Escapes held s command
  stays held s (inl (inl commits)) = other Commit refl commits
  stays held s (inl (inr undoes)) = other Rollback refl undoes
  stays held s (inr (name, inl release, _)) = other (Release name) refl release
  stays held s (inr (name, inr back, _)) = other (RollbackTo name) refl back

abbrev pub changing : Mode
changing = record { keys = Enforced; in_doubt = false; may_wait = false }

-- a write that never stops over these trees
abbrev pub NeverStops : Schema → Trees → Row → Option Returning → Command → Type 0
NeverStops others db params returning command = (text : List ℕ) (stop : Option Error) → ¬ Does None changing params (record { schema = with_others others; trees = db }) text returning command (Err stop)

module _ (sql : List ℕ) (params : Row) (old new : State) (has : HasCounterTables old.now.schema) (endless : old.step_limit ≡ None) (command : Command) (change : is_change command ≡ true) (returning : Option Returning)
    (never : NeverStops (others_in old.now.schema) old.now.trees params returning command) where
  never_here : (text : List ℕ) (stop : Option Error) → ¬ Does old.step_limit changing params old.now text returning command (Err stop)
  never_here text stop h =
      never text stop (subst (λ s. Does None changing params (record { schema = s; trees = old.now.trees }) text returning command (Err stop)) has.ours (subst (λ limit. Does limit changing params old.now text returning command (Err stop)) endless h))

  run_fails : (c : Compiled) → c.command ≡ command → c.returning ≡ returning → (e : Error) → RunsCommand old new sql c params (Err e) → IsExcused old new (failure_of e)
  run_fails c is shows e (inl (inl misplaced, _)) = absurd (placed command change old e (subst (λ k. IsMisplaced old k e) is misplaced))
  run_fails c is shows e (inl (inr refused, _)) = absurd (never_here _ (Some e) (subst₂ (λ k r. Does old.step_limit changing params old.now (text_of sql c) r k (Err (Some e))) is shows refused.1))
  run_fails c is shows e (inr failed) = store_fails old new (λ h. never_here _ None (subst₂ (λ k r. Does old.step_limit changing params old.now (text_of sql c) r k (Err None)) is shows h)) e failed

-- a write of the tables
pub record IsWritten (sql : List ℕ) (params : Row) (returning : Option Returning) (command : Command) : Type 0 where
  pub is : (others : Schema) → command_of (understood (with_others others) sql) ≡ command
  pub shows : (others : Schema) → returning_of (understood (with_others others) sql) ≡ returning
  pub whole : (others : Schema) → IsWhole sql (length params) (understood (with_others others) sql)
  pub change : is_change command ≡ true

module _ (sql : List ℕ) (params : Row) (returning : Option Returning) (command : Command) (written : IsWritten sql params returning command) (old new : State) (never : NeverStops (others_in old.now.schema) old.now.trees params returning command) where
  formats : (c : Compiled) → understood (with_others (others_in old.now.schema)) sql ≡ Ok c → c.formats ≡ []
  formats c is = (subst (IsWhole sql (length params)) is (written.whole (others_in old.now.schema))).2

  module _ (has : HasCounterTables old.now.schema) (endless : old.step_limit ≡ None) where
    ran : (e : Error) (c : Compiled) (it : IsStatement old sql params c) → RunsCommand old new sql c (timed params c.formats it.now) (Err e) → IsExcused old new (failure_of e)
    ran e c it h =
        let known = sym (ap (λ s. understood s sql) has.ours) ∙ it.is in
        run_fails sql params old new has endless command written.change returning never c (sym (ap command_of known) ∙ written.is (others_in old.now.schema)) (sym (ap returning_of known) ∙ written.shows (others_in old.now.schema)) e
        (rw (formats c known, append-nil params) at h)

    fails_to_execute : returning ≡ None → (e : Error) → ExecutesIn false sql params old new (Err e) → IsExcused old new (failure_of e)
    unfolding ExecutesIn
    fails_to_execute quiet e (inl h) = not_run old new sql params has written.whole e h
    fails_to_execute quiet e (inr h) =
        let known = sym (ap (λ s. understood s sql) has.ours) ∙ h.1.is in
        let silent : shows_rows false h.0 ≡ false = shows_none h.0 (sym (ap command_of known) ∙ written.is (others_in old.now.schema)) (sym (ap returning_of known) ∙ written.shows (others_in old.now.schema) ∙ quiet) in
        ran e h.0 h.1 (rw silent at h.2)
      where
        quiet_change : (k : Command) → is_change k ≡ true → (is_query k || (not false && (is_pragma k || false))) ≡ false
        quiet_change (Insert at from) _ = refl
        quiet_change (InsertOr at way from clauses) _ = refl
        quiet_change (Update at q) _ = refl
        quiet_change _ h = absurd cc

        shows_none : (c : Compiled) → c.command ≡ command → c.returning ≡ None → shows_rows false c ≡ false
        shows_none c is none = ap₂ (λ k r. is_query k || (not false && (is_pragma k || is_some r))) is none ∙ quiet_change command written.change

    fails_inside : returning ≡ None → (e : Error) → ExecutesInside 0 sql params old new (Err e) → IsExcused old new (failure_of e)
    unfolding EndsScope
    fails_inside quiet e (inl h) = fails_to_execute quiet e h.0
    fails_inside quiet e (inr h) =
        let known = sym (ap (λ s. understood s sql) has.ours) ∙ h.0.1.is in
        absurd (stays command written.change 0 old (subst (Escapes 0 old) (sym (ap command_of known) ∙ written.is (others_in old.now.schema)) h.0.2))

-- what the trees obey is unique
pub unique_in : (s : State) → HasCounterTables s.now.schema → IsDatabase s.now → Keeps Unique (with_others (others_in s.now.schema)) s.now.trees
unique_in s has sound = subst (λ schema. Keeps Unique schema s.now.trees) has.ours (sound.obeys.rules Unique)

module _ (sql : List ℕ) (params : Row) (returning : Option Returning) (command : Command) (written : IsWritten sql params returning command) (old new : State) (inside : IsInside old) (endless : old.step_limit ≡ None)
    (stays : IsTrue old.is_open → NeverStops (others_in old.now.schema) old.now.trees params returning command) where
  -- a write that never stops, in a transaction, fails if the device does
  pub stays_excused : returning ≡ None → (e : Error) → (IsTrue old.in_transaction → ExecutesInside 0 sql params old new (Err e)) → IsExcused old new (failure_of e)
  stays_excused quiet e runs = elim (cases_Bool old.is_open) [
    | inl is_open ↦ fails_inside sql params returning command written old new (stays is_open) (inside is_open).1 endless quiet e (runs (inside is_open).0)
    | inr shut ↦ shut_before old new shut (failure_of e)
  ]

module _ (sql : List ℕ) (params : Row) (returning : Option Returning) (command : Command) (written : IsWritten sql params returning command) (old new : State) (count : ℕ) (rows : Rows) (room : HasRoom count old) (sees : Sees old rows)
    (stays : AreOthers (others_in old.now.schema) → Holds old.now.trees rows → Keeps Unique (with_others (others_in old.now.schema)) old.now.trees → HasRoomIn count old.now.trees → NeverStops (others_in old.now.schema) old.now.trees params returning command) (inside : IsInside old) (endless : old.step_limit ≡ None) where
  goes_on : IsTrue old.is_open → NeverStops (others_in old.now.schema) old.now.trees params returning command
  goes_on is_open = let seen = sees is_open in let sound = room is_open in stays seen.0.others seen.1 (unique_in old seen.0 sound.0) sound.1

  -- a write in a transaction fails if the device does
  pub write_excused : returning ≡ None → (e : Error) → (IsTrue old.in_transaction → ExecutesInside 0 sql params old new (Err e)) → IsExcused old new (failure_of e)
  write_excused = stays_excused sql params returning command written old new inside endless goes_on

-- a text without RETURNING
pub shows_nothing : (r : Result Compiled CompileError) → IsPlain r → returning_of r ≡ None
shows_nothing (Ok c) plain = plain.0
shows_nothing (Err e) plain = absurd plain

-- ---- one statement after another

-- the cause of a later failure
pub excused_after : (old middle new : State) → old.faults ≤ middle.faults → IsTrue middle.is_open → (failure : Failure) → IsExcused middle new failure → IsExcused old new failure
excused_after old middle new counts is_open NoMemory h = tt
excused_after old middle new counts is_open StoreFailed (inl more) = inl (omega (arith, counts, more))
excused_after old middle new counts is_open StoreFailed (inr shut) = absurd (true≢false (sym is_open ∙ shut))

-- the same if the store may have been shut before
pub excused_from : {X : Type 0} (old middle new : State) (result : Result X Failure) → old.faults ≤ middle.faults → (IsTrue old.is_open → IsTrue middle.is_open) → IfErr result (IsExcused middle new) → IfErr result (IsExcused old new)
excused_from old middle new (Ok x) counts stays h = tt
excused_from old middle new (Err e) counts stays h = elim (cases_Bool old.is_open) [
  | inl is_open ↦ excused_after old middle new counts (stays is_open) e h
  | inr shut ↦ shut_before old new shut e
]

-- the cause of a failure before
pub excused_before : (old middle new : State) → middle.faults ≤ new.faults → (failure : Failure) → IsExcused old middle failure → IsExcused old new failure
excused_before old middle new counts NoMemory h = tt
excused_before old middle new counts StoreFailed (inl more) = inl (omega (arith, counts, more))
excused_before old middle new counts StoreFailed (inr shut) = inr shut

-- a cause of a later call is one of both
pub cause_then : (old middle new : State) {P Q : Trees → Type 0} → Survives old middle P → Survives middle new Q → HasCleanDisk new → HasCause middle new → HasCause old new
cause_then old middle new first second clean (inl more) = let low = first.counts in inl (omega arith)
cause_then old middle new first second clean (inr shut) = elim (cases_Bool old.is_open) [
  | inl is_open ↦ elim (first.closes (clean_before middle new second clean) is_open) [
    | inl still ↦ absurd (let e = sym still ∙ shut in cc)
    | inr more ↦ let up = second.counts in inl (omega arith)
  ]
  | inr was_shut ↦ inr was_shut
]
