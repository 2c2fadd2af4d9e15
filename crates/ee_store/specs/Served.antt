-- The events of a keeper's calls, and why they fail.
use Rattle.std.specs.Prelude.{◌≡◌, Result, IfErr}
use Rattle.sqlite.specs.State.{State, HasCleanDisk}
use Rattle.ee_desk_model.specs.Repeats.{Content}
use Rattle.ee_desk_laws.specs.Events.{World}
use Rattle.ee_desk_laws.specs.Ties.{Leaves}
use Rattle.ee_desk_model.specs.declared.refusals.Unserved.{Unserved}
use Rattle.ee_desk_model.specs.declared.refusals.Unserved.TheVariants as unserved
use Rattle.ee_store_tables.specs.Statements.{HasCause}
use Rattle.ee_store_books.specs.Seen.{StandsFor, HasContent}
use Rattle.ee_store_books.specs.Causes.{IsReady}

-- the store has the world's content, and a crash leaves what it may leave of the world
abbrev pub FollowsWorld : State → World → Type 0
FollowsWorld s w = HasContent s w.now × Leaves StandsFor s.may_leave w

-- a store that is ready and fails to answer has a cause
abbrev pub ServesOrFails : {X : Type 0} → State → State → Result X Unserved → Type 0
ServesOrFails old new result = HasCleanDisk new → IsReady old → (content : Content) → HasContent old content → IfErr result (λ e. e ≡ unserved.StoreFailed → HasCause old new)
