-- Why statements fail, and how much room they leave.
use Rattle.std.proofs.Common.{ℕ, ◌+◌, ◌≤◌, ◌^◌, false, IsTrue, [], sym, subst, ◌≡◌}
use Rattle.sqlite.specs.Effect.{Database, IsDatabase}
use Rattle.sqlite.specs.State.{State, HasCleanDisk, Shows, Survives, IsUnchanged}
use Rattle.sqlite.specs.Tree.{Trees}
use Rattle.sqlite_schema.specs.Rules.{Refers}
use Rattle.sqlite_schema.specs.declared.schema.Among.{Among}
use Rattle.ee_store_tables.specs.Tables.{counter_schema}
use Rattle.ee_store_tables.specs.declared.failures.Failure.{Failure}
use Rattle.ee_store_tables.specs.Rows.{Rises, HasRoomIn, HasRoom}
use Rattle.ee_store_tables.specs.Statements.{HasCause, IsExcused}
use Rattle.ee_store_tables.proofs.CauseLemmas
use Rattle.ee_store_tables.proofs.OtherLemmas
use Rattle.ee_store_tables.proofs.OtherLemmas.{none_besides, ours_only}
use Rattle.ee_store_tables.proofs.RoomLemmas
use Rattle.ee_store_tables.proofs.TransactionLemmas.{begun}

-- ---- causes
-- a store that was shut excuses each failure
pub shut_before : (old new : State) → old.is_open ≡ false → (failure : Failure) → IsExcused old new failure
shut_before = CauseLemmas.shut_before

-- the cause of a failure that comes after another statement
pub excused_after : (old middle new : State) → old.faults ≤ middle.faults → IsTrue middle.is_open → (failure : Failure) → IsExcused middle new failure → IsExcused old new failure
excused_after = CauseLemmas.excused_after

-- the cause of a failure that came before another statement
pub excused_before : (old middle new : State) → middle.faults ≤ new.faults → (failure : Failure) → IsExcused old middle failure → IsExcused old new failure
excused_before = CauseLemmas.excused_before

-- a cause of a later call is one of both
pub cause_then : (old middle new : State) {P Q : Trees → Type 0} → Survives old middle P → Survives middle new Q → HasCleanDisk new → HasCause middle new → HasCause old new
cause_then = CauseLemmas.cause_then

-- no table refers to another
pub no_references : (among : Among) (db : Trees) → Refers among counter_schema db
no_references = OtherLemmas.no_references none_besides ours_only

-- ---- room
-- an empty table has room for all rowids but one
pub empty_has_room : (n : ℕ) → 1 + n ≤ 2 ^ 63 → Rises 1 n []
empty_has_room n few = few

-- if less is asked for, there is as much room
pub room_less : (s : State) (m n : ℕ) → m ≤ n → HasRoom n s → HasRoom m s
room_less = RoomLemmas.room_less

-- so it is of trees
pub room_in_less : (db : Trees) (m n : ℕ) → m ≤ n → HasRoomIn n db → HasRoomIn m db
room_in_less db m n less room = (RoomLemmas.rises_less 1 m n less (db 2) room.0, RoomLemmas.rises_less 1 m n less (db 7) room.1, RoomLemmas.rises_less 1 m n less (db 13) room.2)

-- a transaction begins with the room that the trees have
pub begun_room : (old start : State) → start ≡ begun old → (IsTrue old.is_open → IsDatabase old.now) → (n : ℕ) → (IsTrue old.is_open → HasRoomIn n old.now.trees) → HasRoom n start
begun_room old start is sound n room = subst (HasRoom n) (sym is) (λ is_open. (sound is_open, room is_open))

-- a statement that changes nothing leaves it
pub unchanged_room : (old new : State) (n : ℕ) → IsUnchanged old new → HasRoom n old → HasRoom n new
unchanged_room old new n same room _ = let it = room same.0.was_open in subst (λ (d : Database). IsDatabase d × HasRoomIn n d.trees) (sym same.0.now_is) it

-- a commit leaves it in what is committed
pub committed_room : (middle new : State) (n : ℕ) → HasRoom n middle → Shows middle new middle.now middle.now false → IsTrue new.is_open → HasRoomIn n new.committed.trees
committed_room middle new n room shows _ = subst (λ (d : Database). HasRoomIn n d.trees) (sym shows.committed_is) (room shows.was_open).1
