-- Lemmas that the proofs of crates above use: transactions, what is seen in them, and why calls there fail.
use Rattle.std.proofs.Common.{◌≡◌, ◌≤◌, ◌<◌, ◌+◌, ℕ, Option, Result, IfErr, IsErrAnd, List, IsTrue, length, take, get_or}
use Rattle.std.specs.Prelude.{Result, IfErr, OnOk}
use Rattle.std.specs.Result.{IsOk}
use Rattle.sqlite.specs.State.{State, HasCleanDisk, IsUnchanged, Survives}
use Rattle.sqlite.specs.Tree.{Trees}
use Rattle.sqlite.specs.Steps.{FailsToCommit}
use Rattle.sqlite.specs.declared.error.Error.{Error}
use Rattle.ee_store_tables.specs.Failures.{failure_of}
use Rattle.ee_store_tables.specs.declared.failures.Failure.{Failure}
use Rattle.ee_store_tables.specs.declared.failures.Failure.TheVariants as failure
use Rattle.ee_store_tables.specs.Rows.{Rows, IsInside, Sees}
use Rattle.ee_store_tables.specs.Statements.{LeavesNoMore, IsExcused}
use Rattle.ee_store_books.specs.Seen.{StaysSeen, StandsFor, HasContent, SeesContent}
use Rattle.ee_desk_model.specs.Repeats.{Content}
use Rattle.ee_store_tables.specs.declared.failures.Failure.TheVariants as failure
use Rattle.std.specs.List.{filter_map, AllByRecursion}
use Rattle.sqlite.specs.Effect.{IsDatabase}
use Rattle.ee_store_books.proofs.ByKeys
use Rattle.ee_store_books.proofs.Causes
use Rattle.ee_store_books.proofs.HandedOn
use Rattle.ee_store_books.proofs.Transactions
pub use Rattle.ee_store_books.proofs.Transactions.{inside_content, sees_content, still_content, committed_content}
pub use Rattle.ee_store_books.proofs.Causes.{excused}
pub use Rattle.ee_store_books.proofs.InTurn.{Stays, nothing_done, done_then}
use Rattle.std.specs.Cmp.{IsTotalOrder}
use Rattle.std.specs.declared.cmp.Ordering.{Ordering}
use Rattle.std.proofs.lemmas.Map.Lookups.{CmpEqualImpliesEq}
use Rattle.ee_desk_model.specs.Views.{picked}
use Rattle.ee_store_books.specs.Found.{with_found}

-- ---- what a call in a transaction leaves

-- an unchanged store shows the rows that it showed, with as much room
pub unchanged_rows : (old new : State) → IsUnchanged old new → (rows : Rows) → Sees old rows → StaysSeen old new rows
unchanged_rows = Causes.unchanged_rows

-- rows that stay seen in two calls stay seen
pub seen_then : (old middle new : State) (rows : Rows) → StaysSeen old middle rows → (Sees middle rows → StaysSeen middle new rows) → StaysSeen old new rows
seen_then = Causes.seen_then

-- two calls leave no more than each
pub leaves_then : (old middle new : State) → LeavesNoMore old middle → LeavesNoMore middle new → LeavesNoMore old new
leaves_then = Causes.leaves_then

-- what a commit makes represents the content
pub stands_when_open : (s : State) (S : Content) → SeesContent s S → IsTrue s.is_open → IsDatabase s.now → StandsFor s.now.trees S
stands_when_open = Transactions.stands_when_open

-- what the last commit left represents the content
pub stands_committed : (s : State) (S : Content) → HasContent s S → IsTrue s.is_open → IsDatabase s.committed → (db : Trees) → db ≡ s.committed.trees → StandsFor db S
stands_committed = Transactions.stands_committed

-- a store that is open has one content at most
pub one_content : (s : State) (one other : Content) → IsTrue s.is_open → HasContent s one → HasContent s other → one ≡ other
one_content = Transactions.one_content

-- ---- why a call fails

-- if a value was given, nothing failed
pub served : {X E : Type 0} (P : E → Type 0) (r : Result X E) → IsOk r → IfErr r P
served = Causes.served

-- what holds anyway holds if a value was given
pub always : {X E Q : Type 0} (r : Result X E) → Q → OnOk r Q
always = ByKeys.always

-- an error that is handed on is the one that was met
pub handed_on : {X : Type 0} (P : Failure → Type 0) (r : Result X Failure) (e : Failure) → IsErrAnd r (λ told. told ≡ e) → P e → IfErr r P
handed_on = HandedOn.handed_on

-- a statement failed
pub statement_failed : {X : Type 0} (old new : State) (r : Result X Failure) (f : Failure) → IsErrAnd r (λ told. told ≡ f) → IsExcused old new f → IfErr r (IsExcused old new)
statement_failed = HandedOn.statement_failed

-- nor if it is handed on
pub memory_handed_on : {X : Type 0} (old new : State) (r : Result X Failure) (e : Failure) → IsErrAnd r (λ told. told ≡ e) → e ≡ failure.NoMemory → IfErr r (IsExcused old new)
memory_handed_on = HandedOn.memory_handed_on

-- want of memory needs no cause
pub memory_alone : {X : Type 0} (old new : State) (r : Result X Failure) → IfErr r (λ e. e ≡ failure.NoMemory) → IfErr r (IsExcused old new)
memory_alone = HandedOn.memory_alone

-- a cause of a later call is one of both
pub excused_later : (old middle new : State) {P Q : Trees → Type 0} → HasCleanDisk new → Survives old middle P → Survives middle new Q → (e : Failure) → IsExcused middle new e → IsExcused old new e
excused_later = Causes.excused_later

-- a cause within an earlier call is one of the whole
pub excused_before : (old middle new : State) → middle.faults ≤ new.faults → (e : Failure) → IsExcused old middle e → IsExcused old new e
excused_before = Causes.excused_before

-- a commit in a transaction fails for a cause
pub commit_excused : (old new : State) → IsInside old → (e : Error) → FailsToCommit old new e → IsExcused old new (failure_of e)
commit_excused = Causes.commit_excused

-- ---- what is found

-- what is found alike in each place
pub same_found : {A B : Type 0} (f g : A → Option B) (xs : List A) → AllByRecursion (λ x. f x ≡ g x) xs → filter_map f xs ≡ filter_map g xs
same_found = ByKeys.same_found

-- one more key of those picked
pub found_next : {K V : Type 0} {R : K → K → Ordering} (o : IsTotalOrder R) (exact : CmpEqualImpliesEq R) (look : K → Option V) (ks : List K) (i : ℕ) (d : K) → i < length ks
    → picked {R = R} look (take (i + 1) ks) ≡ with_found (picked look (take i ks)) (get_or ks i d) (look (get_or ks i d))
found_next = ByKeys.found_next
