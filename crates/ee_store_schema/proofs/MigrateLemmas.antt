-- The steps of the migration: what they make of the rows, and why they fail.
use Rattle.std.proofs.Common.{◌≡◌, ◌≢◌, ◌+◌, ◌≤◌, ◌^◌, inl, inr, ℕ, false, List, IsTrue, Ok, Err, Result, IfErr, sym, ap, subst, ◌∙◌, arith, true≢false}
use Rattle.std.specs.Prelude.{OnOk}
use Rattle.std.specs.Result.{IsErrAnd}
use Rattle.sqlite.specs.Tree.{Trees}
use Rattle.sqlite_trees.specs.declared.error.StoreError.{StoreError}
use Rattle.sqlite_trees.specs.declared.error.StoreError.TheVariants.{OutOfMemory, Io, Corrupt, Full, Broken, Unstorable}
use Rattle.sqlite.specs.declared.error.Error.{Error}
use Rattle.sqlite.specs.Effect.{Database, IsDatabase}
use Rattle.sqlite.specs.State.{State, Shows, Survives, KeepsCommit, HasCleanDisk, store_error, HasCause as Explains}
use Rattle.sqlite.specs.Steps.{FailsToCommit}
use Rattle.ee_store_tables.specs.Failures.{failure_of}
use Rattle.ee_store_tables.proofs.Lemmas.Transactions.{begun}
use Rattle.ee_store_tables.specs.declared.failures.Failure.{Failure}
use Rattle.ee_store_tables.specs.declared.failures.Failure.TheVariants as failure
use Rattle.ee_store_tables.specs.Statements as statement
use Rattle.ee_store_tables.specs.Tables.{counter_schema, others_in, KeepsOthers}
use Rattle.ee_store_tables.proofs.Lemmas.Others.{none_besides, keeps_none}
use Rattle.ee_store_tables.specs.Keyed.{pair_cmp, stored, HoldsMap}
use Rattle.ee_store_tables.specs.Rows.{Rows, Holds, Has, HasRoom, HasRoomIn, Rises, rate_columns, bond_columns, paid_columns, reply_columns}
use Rattle.ee_store_tables.proofs.Lemmas.Rows.{kept_map, kept_pairs}
use Rattle.ee_store_schema.specs.declared.faults.OpenFault.TheVariants.{WrongVersion, Unusable}
use Rattle.ee_store_schema.specs.Faults.{IsExcused, fault_told}
use Rattle.ee_store_schema.specs.Forms.{first_tables, earliest_tables, HoldsFirst, HoldsEarliest, HadIn}
use Rattle.ee_store_schema.specs.declared.forms.Form.{Form}
use Rattle.ee_store_schema.specs.declared.forms.Form.TheVariants.{Current, First, Earliest}
use Rattle.ee_store_schema.specs.Inner.Making.{GainsTable, ReplacesReplies}
use Rattle.ee_store_schema.specs.declared.answers.StoredAnswer.{StoredAnswer}
use Rattle.ee_store_schema.specs.Migrating.{migrated, become, BondsAndLinesHaveRoom, Lists, AnswersFit, CanBecome}
use Rattle.ee_store_schema.specs.Inner.Migrating.{unanswered, HasPlace}
use Rattle.ee_store_tables.proofs.Lemmas.Causes.{cause_then}
use Rattle.ee_store_schema.proofs.FirstLemmas.{no_map, no_rows}

-- ---- the rows

-- beside a new table of extensions the rows are those of version 1
pub extended : (old new : State) (rows : Rows) → GainsTable earliest_tables first_tables old new → HoldsEarliest old.now.trees rows → HoldsFirst new.now.trees rows
extended old new rows gained held =
    let same = gained.others in
    record {
      desk = kept_map same.0 held.desk;
      rates = kept_map same.1.0 held.rates;
      bonds = kept_pairs bond_columns same.1.1.0 held.bonds;
      tickets = kept_map same.1.1.1.0 held.tickets;
      paid = kept_pairs paid_columns same.1.1.1.1.0 held.paid;
      batches = kept_map same.1.1.1.1.1.0 held.batches;
      answers = record { kept = held.answers.kept; held = kept_map same.1.1.1.1.1.1.0 held.answers.held; first = held.answers.first };
      extensions = subst (HoldsMap rate_columns (new.now.trees 12)) (sym held.none) (no_map rate_columns (new.now.trees 12) gained.empty);
    }

-- with the answers in the place of the replies they are those of version 2, without answers
pub replaced : (old new : State) (rows : Rows) → ReplacesReplies old new → HoldsFirst old.now.trees rows → Holds new.now.trees (unanswered rows)
replaced old new rows replaces held =
    let same = replaces.others in
    record {
      desk = kept_map same.0 held.desk;
      rates = kept_map same.1.0 held.rates;
      bonds = kept_pairs bond_columns same.1.1.0 held.bonds;
      tickets = kept_map same.1.1.1.0 held.tickets;
      paid = kept_pairs paid_columns same.1.1.1.1.0 held.paid;
      batches = kept_map same.1.1.1.1.1.0 held.batches;
      extensions = kept_map same.1.1.1.1.1.1.0 held.extensions;
      answers = no_rows pair_cmp (stored reply_columns) (new.now.trees 13) replaces.empty;
    }

-- ---- failures

-- a failure that `?` hands on
pub passed_on : {X : Type 0} (P : Failure → Type 0) (r : Result X Failure) (failure : Failure) → IsErrAnd r (λ f. f ≡ failure) → P failure → IfErr r P
passed_on P (Ok x) failure is p = tt
passed_on P (Err f) failure is p = subst P (sym is) p

-- a cause of a later call is one of both
pub failure_then : (old middle new : State) {P Q : Trees → Type 0} → Survives old middle P → Survives middle new Q → HasCleanDisk new → (failure : Failure) → statement.IsExcused middle new failure → statement.IsExcused old new failure
failure_then old middle new first second clean failure.NoMemory h = tt
failure_then old middle new first second clean failure.StoreFailed h = cause_then old middle new first second clean h

pub survives_itself : (s : State) → Survives s s (λ _. ⊥)
survives_itself s = record { clean = omega arith; shield = λ h. h; counts = omega arith; limit = λ i. s.step_limit; closes = λ _ h. inl h; crash = λ _ db h. inl h }

-- there is as much place as is asked for in other words
pub same_place : (m n : ℕ) (s : State) → m ≡ n → HasPlace m s → HasPlace n s
same_place m n s same = subst (λ k. HasPlace k s) same

pub same_room : (m n : ℕ) (s : State) → m ≡ n → HasRoom m s → HasRoom n s
same_room m n s same = subst (λ k. HasRoom k s) same

-- the table of answers is empty, and the other tables keep their room
pub replaced_room : (old new : State) → ReplacesReplies old new → (n : ℕ) → BondsAndLinesHaveRoom n old.now.trees → 1 + n ≤ 2 ^ 63 → HasRoom n new
replaced_room old new replaces n room few is_open =
    let same = replaces.others in
    (replaces.sound, (subst (Rises 1 n) (sym same.1.1.0) room.0, subst (Rises 1 n) (sym same.1.1.1.1.0) room.1, subst (Rises 1 n) (sym replaces.empty) few))

-- a new table of extensions takes none of it
pub extended_room : (old new : State) → GainsTable earliest_tables first_tables old new → (n : ℕ) → BondsAndLinesHaveRoom n old.now.trees → BondsAndLinesHaveRoom n new.now.trees
extended_room old new gained n room =
    let same = gained.others in (subst (Rises 1 n) (sym same.1.1.0) room.0, subst (Rises 1 n) (sym same.1.1.1.1.0) room.1)

-- nor does a commit
pub committed_room : (middle new : State) → Shows middle new middle.now middle.now false → (n : ℕ) → HasRoom n middle → HasRoom n new
committed_room middle new shows n room is_open = subst (λ (d : Database). IsDatabase d × HasRoomIn n d.trees) (sym shows.now_is) (room shows.was_open)

-- what holds for each, if the call succeeds, holds for all if it does
pub for_each_ok : {X E A : Type 0} (P : A → Type 0) (r : Result X E) → ((a : A) → OnOk r (P a)) → OnOk r ((a : A) → P a)
for_each_ok P (Ok x) h = h
for_each_ok P (Err e) h = tt

-- ---- the transaction

pub told_never : (failure : Failure) → (fault_told failure ≢ Unusable) × (fault_told failure ≢ WrongVersion)
told_never failure.NoMemory = (λ e. cc, λ e. cc)
told_never failure.StoreFailed = (λ e. cc, λ e. cc)

pub told_excused : (old new : State) (failure : Failure) → statement.IsExcused old new failure → IsExcused old new (fault_told failure)
told_excused old new failure.NoMemory h = λ told. absurd cc
told_excused old new failure.StoreFailed h = λ told. h

-- what a transaction fails for, the store that it was begun on does
pub begun_excused : (old start new : State) → start ≡ begun old → (failure : Failure) → statement.IsExcused start new failure → statement.IsExcused old new failure
begun_excused old start new is failure.NoMemory h = tt
begun_excused old start new is failure.StoreFailed h = subst (λ s. statement.HasCause s new) is h

by_cause : (old new : State) (cause : StoreError) → Explains old new ⊥ cause → statement.IsExcused old new (failure_of (store_error cause))
by_cause old new OutOfMemory h = tt
by_cause old new Io h = inl h
by_cause old new Corrupt h = inl h
by_cause old new Full h = inl h
by_cause old new Broken h = inr h
by_cause old new Unstorable h = absurd h

pub commit_excused : (old new : State) (e : Error) → IsTrue old.in_transaction → FailsToCommit old new e → statement.IsExcused old new (failure_of e)
commit_excused old new e inside (inl h) = subst (λ e. statement.IsExcused old new (failure_of e)) (sym h.1) (by_cause old new h.0 h.2)
commit_excused old new e inside (inr h) = absurd (true≢false (sym inside ∙ h.1))

-- ---- the rows that a store becomes

pub becomes_migrated : (form : Form) (rows : Rows) → form ≢ Current → become form rows ≡ migrated rows
becomes_migrated Current rows earlier = absurd (earlier (λ i. Current))
becomes_migrated First rows earlier = λ i. migrated rows
becomes_migrated Earliest rows earlier = λ i. migrated rows

-- those of the present form stay
pub stays_current : (form : Form) (s : State) (rows : Rows) → form ≡ Current → HadIn form s rows → Has s (become form rows)
stays_current Current s rows is had = had
stays_current First s rows is had = absurd cc
stays_current Earliest s rows is had = absurd cc

-- a store of version 1 that may become version 2 has the replies that are listed, and they fit
pub of_earlier : (form : Form) (all : List StoredAnswer) (s : State) → form ≢ Current → CanBecome form all s → (rows : Rows) × HadIn form s rows × Lists all rows × AnswersFit rows
of_earlier form all s earlier (inl current) = absurd (earlier current)
of_earlier form all s earlier (inr it) = it

-- a store of version 1 has no tables of others, so none are to be kept
pub none_kept : (old new : State) → KeepsCommit old new → (IsTrue old.is_open → others_in old.committed.schema ≡ none_besides) → new.now.schema ≡ counter_schema → IsTrue new.is_open → KeepsOthers new.committed new.now
none_kept old new keeps none ours is_open = keeps_none new.committed new.now (ap (λ (d : Database). others_in d.schema) (keeps.committed is_open) ∙ none (keeps.was_open is_open)) (ap others_in ours)
