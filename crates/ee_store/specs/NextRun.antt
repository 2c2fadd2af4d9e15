-- From one run to the next: two files are left, and the next run opens them.
use Rattle.std.specs.Prelude.{◌≡◌, ◌⊎◌, [], ◌∷◌, Contains, IsTrue}
use Rattle.sqlite_disk.specs.declared.Disk.{Ghosts}
use Rattle.sqlite.specs.declared.FileStore.{FileStore}
use Rattle.sqlite.specs.FileStore.{state, view}
use Rattle.sqlite.specs.Held.{Held}
use Rattle.sqlite.specs.Tree.{Trees}
use Rattle.sqlite.specs.Files.{file_state, HoldsDatabase}
use Rattle.sqlite.specs.Recovery.{Image}
use Rattle.ee_desk_model.specs.Repeats.{Content, nothing}
use Rattle.ee_desk_laws.specs.Events.{World, Happens}
use Rattle.ee_desk_laws.specs.Events.Event.{Stop_between, Reopen}
use Rattle.ee_desk_laws.specs.Ties.{Leaves}
use Rattle.ee_store_schema.specs.declared.faults.OpenFault.{OpenFault}
use Rattle.ee_store_schema.specs.declared.forms.Form.{Form}
use Rattle.ee_store_books.specs.Seen.{StandsFor}
use Rattle.ee_store.specs.Served.{FollowsWorld}
use Rattle.ee_store.specs.Adopted.{StoodFor, IsOpenedFrom, IsRefusedFrom}
use Rattle.ee_store.specs.Holding.{HoldsPages, HoldsNone}

-- a crash may leave these two files of the connection
abbrev pub MayLeaveFiles : {D : Type 0} {g : Ghosts D} → Held (FileStore D g) → Image → Type 0
MayLeaveFiles now left = (state now.store).may_leave left

-- a store's trees have the numbers under which `sqlite` lists them
abbrev pub IsNumberedStore : {D : Type 0} {g : Ghosts D} → FileStore D g → Type 0
IsNumberedStore last = IsTrue (view last).is_numbered

-- the same of a connection, as `sqlite` keeps it on every one
abbrev pub IsNumbered : {D : Type 0} {g : Ghosts D} → Held (FileStore D g) → Type 0
IsNumbered now = IsNumberedStore now.store

-- two files hold a store of the content, whose tables are in this form
pub record HoldsStore (form : Form) (image : Image) (content : Content) : Type 0 where
  pub db : Trees
  pub holds : ∥ HoldsPages image db ∥₁
  pub stands : StoodFor form db content

-- The content of two files: that of the store in them, of either version. If no database was created in them yet, or an empty one,
-- it is the empty content.
abbrev pub HoldsContent : Image → Content → Type 0
HoldsContent image content = ((form : Form) × HoldsStore form image content) ⊎ ((content ≡ nothing) × HoldsNone image)

-- the next run opens these files as a keeper, or as a connection that is refused and handed back
abbrev pub IsNextRun : {E : Type 0} {h : Ghosts E} → Image → Held (FileStore E h) → Type 0
IsNextRun left now = IsOpenedFrom left now ⊎ ((fault : OpenFault) × IsRefusedFrom left fault now)

-- For any two files that a crash leaves of a keeper that follows a world: the next run on them, refused or not, follows the world
-- after a stop and a reopening. So it has a content that a crash might leave of that world.
abbrev pub FollowsInNextRun : {D E : Type 0} → Ghosts D → Ghosts E → Type 0
FollowsInNextRun {D} {E} g h = (old : Held (FileStore D g)) (w : World) (left : Image) (now : Held (FileStore E h))
    → IsNumbered old → FollowsWorld (file_state old) w → MayLeaveFiles old left → IsNextRun left now
    → ∥ ((v : World) × Happens w (Stop_between ∷ Reopen ∷ []) v × FollowsWorld (file_state now) v) ∥₁

-- If the open is refused, for example for want of memory, the connection that comes back leaves a content of the stopped world.
abbrev pub WaitsInNextRun : {D E : Type 0} → Ghosts D → Ghosts E → Type 0
WaitsInNextRun {D} {E} g h = (old : Held (FileStore D g)) (w : World) (left : Image) (fault : OpenFault) (now : Held (FileStore E h))
    → IsNumbered old → FollowsWorld (file_state old) w → MayLeaveFiles old left → IsRefusedFrom left fault now
    → ∥ ((v : World) × Happens w (Stop_between ∷ []) v × Leaves StandsFor (file_state now).may_leave v) ∥₁

-- Any two files that a crash might leave of the keeper hold a database that represents a content which it might leave of the world.
abbrev pub LeavesStanding : {D : Type 0} {g : Ghosts D} → Held (FileStore D g) → Type 0
LeavesStanding old = (w : World) (left : Image) → FollowsWorld (file_state old) w → MayLeaveFiles old left
    → ∥ ((db : Trees) × HoldsDatabase left db × ((content : Content) × Contains w.may content × StandsFor db content)) ∥₁
