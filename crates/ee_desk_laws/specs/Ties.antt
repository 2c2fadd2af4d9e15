-- What a keeper's store must satisfy for the events.
use Rattle.std.specs.Prelude.{◌≡◌, ◌⊎◌, true, false, List, [], ◌∷◌, Contains}
use Rattle.std.specs.FinMap as finite
use Rattle.ee_desk_model.specs.declared.acts.Request.{Request}
use Rattle.ee_desk_model.specs.Numbers.{number_of}
use Rattle.ee_desk_model.specs.Repeats.{Content}
use Rattle.ee_desk_laws.specs.Events.{World, Told, Happens, one, decided, unserved}
use Rattle.ee_desk_laws.specs.Events.Event.{Stop_between, Reopen}

-- whatever a disk may hold after a crash represents a content that the world may leave
abbrev pub Leaves : {Disk : Type 0} → (Disk → Content → Type 0) → (Disk → Type 0) → World → Type 0
Leaves Stands may_leave w = (disk : _) → may_leave disk → (left : Content) × Contains w.may left × Stands disk left

-- a reply to a number that wasn't kept: a crash leaves only the new content
abbrev pub LeavesNew : {Disk Store : Type 0} → (Disk → Content → Type 0) → (Store → Disk → Type 0) → Type 0
LeavesNew Stands may_leave = (store : _) (w : World) (q : Request) (told : List Told)
    → finite.contains_key w.now.kept (number_of q) ≡ false
    → ((disk : _) → may_leave store disk → Stands disk (one w.now q))
    → Leaves Stands (may_leave store) (decided w q told)

-- a reply to a kept number: a crash leaves what it could leave before
abbrev pub LeavesKept : {Disk Store : Type 0} → (Disk → Content → Type 0) → (Store → Disk → Type 0) → Type 0
LeavesKept Stands may_leave = (old new : _) (w : World) (q : Request) (told : List Told)
    → finite.contains_key w.now.kept (number_of q) ≡ true
    → ((disk : _) → may_leave new disk → may_leave old disk)
    → Leaves Stands (may_leave old) w → Leaves Stands (may_leave new) (decided w q told)

-- no reply: a crash leaves what it could leave before, or the content with that request decided
abbrev pub LeavesUnserved : {Disk Store : Type 0} → (Disk → Content → Type 0) → (Store → Disk → Type 0) → Type 0
LeavesUnserved Stands may_leave = (old new : _) (w : World) (q : Request)
    → ((disk : _) → may_leave new disk → may_leave old disk ⊎ Stands disk (one w.now q))
    → Leaves Stands (may_leave old) w → Leaves Stands (may_leave new) (unserved w q)

-- a query, which is no event: a crash leaves what it could leave before
abbrev pub LeavesAsBefore : {Disk Store : Type 0} → (Disk → Content → Type 0) → (Store → Disk → Type 0) → Type 0
LeavesAsBefore Stands may_leave = (old new : _) (w : World)
    → ((disk : _) → may_leave new disk → may_leave old disk)
    → Leaves Stands (may_leave old) w → Leaves Stands (may_leave new) w

-- a crash leaves a disk, and a store opened on it leaves what represents the same: a stop and a reopening
abbrev pub LeavesReopened : {Disk Store : Type 0} → (Disk → Content → Type 0) → (Store → Disk → Type 0) → Type 0
LeavesReopened {Disk = Disk} Stands may_leave = (old new : _) (w : World) (found : Disk)
    → may_leave old found
    → ((content : Content) → Stands found content → (disk : Disk) → may_leave new disk → Stands disk content)
    → Leaves Stands (may_leave old) w
    → (v : World) × Happens w (Stop_between ∷ Reopen ∷ []) v × Stands found v.now × Leaves Stands (may_leave new) v
