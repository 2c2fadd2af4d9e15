-- A store that has tables, and what holds whatever the fault is.
use Rattle.std.proofs.Common.{Ok, Err, Result, IfErr, subst}
use Rattle.sqlite.specs.State.{State}
use Rattle.ee_store_schema.specs.Forms.{IsIn, IsOurs}
use Rattle.ee_store_load.specs.Opening.{HasTables}
use Rattle.ee_store_schema.proofs.Lemmas.Forms.{some_tables}

-- the tables of each form are some
pub ours_tables : (s : State) → IsOurs s → HasTables s
ours_tables s ours is_open none = some_tables ours.0 (subst (IsIn ours.0) none (ours.1 is_open))

pub any_fault : {X E : Type 0} {P : E → Type 0} (r : Result X E) → ((e : E) → P e) → IfErr r P
any_fault (Ok x) f = tt
any_fault (Err e) f = f e
