-- The room that a delivery leaves, and when its store is ready.
use Rattle.std.proofs.Common.{◌≡◌, inl, inr, ℕ, ◌+◌, false, IsTrue, sym, ap, ◌∙◌, subst, arith}
use Rattle.sqlite.specs.Effect.{Database, IsDatabase}
use Rattle.sqlite.specs.State.{State, IsRolledBack, KeepsCommit, Shows}
use Rattle.sqlite.specs.Steps.{FailsToCommit}
use Rattle.sqlite.specs.declared.error.Error.{Error}
use Rattle.ee_store_tables.specs.Rows.{IsInside, HasRoomIn, HasRoom}
use Rattle.ee_store_tables.proofs.Lemmas.Transactions.{begun}
use Rattle.ee_store_tables.proofs.Lemmas.Causes.{room_less}
use Rattle.ee_store_books.specs.Causes.{IsReady}

same_room : (old new : State) (n : ℕ) → (IsTrue new.is_open → IsTrue old.is_open × (new.now ≡ old.now)) → HasRoom n old → HasRoom n new
same_room old new n same room is_open = let it = same is_open in subst (λ (d : Database). IsDatabase d × HasRoomIn n d.trees) (sym it.1) (room it.0)

module _ (old start : State) (is : start ≡ begun old) where
  pub begun_with : (n : ℕ) → HasRoom n old → HasRoom n start
  begun_with n room = subst (HasRoom n) (sym is) room

  module _ (settled : IsTrue old.is_open → old.now ≡ old.committed) (middle new : State) where
    -- a transaction that was rolled back leaves the room that there was
    pub rolled_room : KeepsCommit start middle → IsRolledBack middle new → (n : ℕ) → HasRoom (501 + n) old → HasRoom n new
    rolled_room keeps rolled n room =
        same_room old new n (λ is_open.
        let before = rolled.was_open is_open in
        let was_open = subst (λ (s : State). IsTrue s.is_open) is (keeps.was_open before) in
        (was_open, (rolled.undone is_open).0 ∙ keeps.committed before ∙ ap (λ (s : State). s.committed) is ∙ sym (settled was_open)))
        (room_less old n (501 + n) (omega arith) room)

    -- so does a commit that failed
    pub failed_room : IsInside middle → KeepsCommit start middle → (e : Error) → FailsToCommit middle new e → (n : ℕ) → HasRoom (501 + n) old → HasRoom n new
    failed_room inside keeps e (inl fails) n room = rolled_room keeps fails.3 n room
    failed_room inside keeps e (inr (is_late, ended, same)) n room = λ is_open. absurd (let e = sym (inside same.0.was_open).0 ∙ ended in cc)

  pub ready_then : (middle new : State) → new.in_transaction ≡ false → new.step_limit ≡ middle.step_limit → middle.step_limit ≡ start.step_limit → IsReady old → IsReady new
  ready_then middle new ended second first ready = (ended, second ∙ first ∙ ap (λ (s : State). s.step_limit) is ∙ ready.1)

-- a commit leaves the room that the transaction had
pub committed_with : (middle new : State) (n : ℕ) → Shows middle new middle.now middle.now false → HasRoom n middle → HasRoom n new
committed_with middle new n shows room = same_room middle new n (λ _. (shows.was_open, shows.now_is)) room
