use Rattle.std.proofs.Common.{◌≡◌, ◌+◌, ℕ, IsTrue, length, map, drop}
use Rattle.std.specs.FinMap.{FinMap}
use Rattle.sqlite.specs.State.{HasCleanDisk, KeepsCommit, Survives}
use Rattle.sqlite.specs.Held.{state}
use Rattle.ee_store_tables.specs.Keyed.{pair_cmp}
use Rattle.ee_store_tables.specs.Rows.{Rows, ReplyRow, HasRoom, IsInside, Sees}
use Rattle.ee_store_schema.specs.Migrating.{answer_entry}
use Rattle.ee_store_schema.specs.Inner.Migrating.{copied, CanAddAll, HasPlace}
use Rattle.ee_store_schema.proofs.migrating.add_answers.Given as goal

abbrev pub invariant-loop-answer : goal.invariant-loop-answer
invariant-loop-answer g l =
    let old = state g.S.Store l.fn.tx.conn.now in
    let now = state g.S.Store l.tx.conn.now in
    let all = map answer_entry l.fn.answers in
    let left = drop l.answer-index l.fn.answers in
    (l.tx.conn.ghost_name ≡ l.fn.tx.conn.ghost_name) × Survives old now (λ _. ⊥) × (HasCleanDisk now → KeepsCommit old now) × (HasCleanDisk now → IsTrue old.is_open → IsTrue now.is_open) × (HasCleanDisk now → IsInside old → IsInside now)
    × (HasCleanDisk now → (rows : Rows) → Sees old rows → (answers : FinMap pair_cmp ReplyRow) × Sees now (record rows { answers = answers }) × (copied answers (map answer_entry left) ≡ copied rows.answers all)
    × (CanAddAll rows.answers all → CanAddAll answers (map answer_entry left)))
    × (HasCleanDisk now → IsInside old → (n : ℕ) → HasPlace (n + length l.fn.answers) old → HasPlace (n + length left) now)
    × (HasCleanDisk now → IsInside old → (rows : Rows) → Sees old rows → (n : ℕ) → HasRoom (n + length l.fn.answers) old → HasRoom (n + length left) now)
