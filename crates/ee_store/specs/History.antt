-- The history of a store since it was new, or since it had some content: deliveries, faults, stops and starts.
use Rattle.std.specs.Prelude.{◌≡◌, ◌⊎◌, true, List, [], ◌∷◌, ◌++◌, map, Contains}
use Rattle.std.specs.List.{AllByRecursion}
use Rattle.sqlite_disk.specs.declared.Disk.{Ghosts}
use Rattle.sqlite_disk.specs.declared.Files.{Files}
use Rattle.sqlite.specs.State.{State, HasCleanDisk}
use Rattle.sqlite.specs.WalFiles.{outcomes}
use Rattle.sqlite.specs.WalReads.{AreClean}
use Rattle.sqlite.specs.declared.FileStore.{FileStore}
use Rattle.sqlite.specs.FileStore.{state, recovers}
use Rattle.sqlite.specs.Tree.{Trees}
use Rattle.sqlite.specs.Held.{Held}
use Rattle.sqlite.specs.Files.{image_of, file_state}
use Rattle.sqlite.specs.Recovery.{Image}
use Rattle.ee_desk_model.specs.declared.acts.Request.{Request}
use Rattle.ee_desk_model.specs.Repeats.{Content}
use Rattle.ee_desk_laws.specs.Events.{Event, World, begun, Happens}
use Rattle.ee_desk_laws.specs.Events.Event.{Deliver, Stop_between, Reopen}
use Rattle.ee_desk_laws.specs.Stops.{Survives, Settles, sent}
use Rattle.ee_store_schema.specs.declared.faults.OpenFault.{OpenFault}
use Rattle.ee_store_books.specs.Seen.{HasContent}
use Rattle.ee_store.specs.Served.{FollowsWorld}
use Rattle.ee_store.specs.Adopted.{KeepsWorld, IsOpenedFrom, IsRefusedFrom}
use Rattle.ee_store.specs.Ended.{IsAtRest, RestsIn}
use Rattle.ee_store.specs.NextRun.{IsNumberedStore, HoldsContent}
use Rattle.ee_store.specs.Holding.{HoldsOn}

-- it takes requests, and a crash may leave its content
pub record IsUp (w : World) : Type 0 where
  pub up : w.up ≡ true
  pub among : Contains w.may w.now

-- a store that had this content at first has gone through these events: it follows a world that they lead to
abbrev pub HasCome : Content → List Event → State → Type 0
HasCome start events now = ∥ ((w : World) × Happens (begun start) events w × IsUp w × FollowsWorld now w) ∥₁

-- if the store had gone through some events, it has now gone through these after them
abbrev pub Goes : State → List Event → State → Type 0
Goes old events new = (start : Content) (earlier : List Event) → HasCome start earlier old → HasCome start (earlier ++ events) new

-- it was just opened: it takes requests, and a crash leaves only its content
pub record IsJustUp (w : World) : Type 0 where
  pub up : w.up ≡ true
  pub only : w.may ≡ w.now ∷ []

-- Two files hold a content that these events lead to. A run that opens them has gone through these events, of which the last is that
-- opening, unless the store has none yet.
abbrev pub HasLeft : Content → List Event → Image → Type 0
HasLeft start events image = ∥ ((w : World) × Happens (begun start) events w × IsJustUp w × HoldsContent image w.now) ∥₁

-- The events lead from the first content to this one: that of requests that were sent, each acting once, with each reply that was
-- given still the answer.
pub record IsLeftBy (start : Content) (events : List Event) (content : Content) : Type 0 where
  pub world : World
  pub happened : Happens (begun start) events world
  pub is : content ≡ world.now
  pub survives : Survives start events world

-- a stop, and the opening after it
abbrev pub stop_and_reopen : List Event
stop_and_reopen = Stop_between ∷ Reopen ∷ []

-- ---- the law for stores in files

-- a store that follows the events from a content on, as one that was just created, has gone through none
abbrev pub BeginsHistory : {D : Type 0} → Ghosts D → Type 0
BeginsHistory {D} g = (start : Content) (now : Held (FileStore D g)) → FollowsWorld (file_state now) (begun start) → HasCome start [] (file_state now)

-- files begin a history with the content that they hold
abbrev pub BeginsInFiles : Type 0
BeginsInFiles = (image : Image) (content : Content) → HoldsContent image content → HasLeft content [] image

-- a store that is opened on two files has gone through the events that led to them
abbrev pub OpensHistory : {D : Type 0} → Ghosts D → Type 0
OpensHistory {D} g = (start : Content) (events : List Event) (found : Image) (now : Held (FileStore D g)) → HasLeft start events found → IsOpenedFrom found now
    → HasCome start events (file_state now)

-- and it has the content that they hold
abbrev pub HasHeld : {D : Type 0} → Ghosts D → Type 0
HasHeld {D} g = (image : Image) (content : Content) (now : Held (FileStore D g)) → HoldsContent image content → IsOpenedFrom image now
    → HasContent (file_state now) content

-- an open that fails is no event, if the files hold on
abbrev pub WaitsInFiles : Type 0
WaitsInFiles = (start : Content) (events : List Event) (was now : Image) → HasLeft start events was → HoldsOn was now → HasLeft start events now

-- Nor is one that is refused. A crash leaves two files of it, or of what is left of it: that leaves no more trees.
abbrev pub WaitsRefused : {D : Type 0} → Ghosts D → Type 0
WaitsRefused {D} g = (start : Content) (events : List Event) (found : Image) (fault : OpenFault) (now : Held (FileStore D g)) (last : FileStore D g) (left : Image)
    → HasLeft start events found → HasCleanDisk (file_state now) → IsRefusedFrom found fault now
    → ((db : Trees) → recovers last db → (file_state now).may_leave db) → IsNumberedStore last → (state last).may_leave left → HasLeft start events left

-- queries are no events
abbrev pub GoesByQueries : {D : Type 0} → Ghosts D → Type 0
GoesByQueries {D} g = (old new : Held (FileStore D g)) → KeepsWorld (file_state old) (file_state new) → Goes (file_state old) [] (file_state new)

-- A crash leaves two files of a store, or of what is left of one that couldn't be closed: that leaves no more trees than the store.
abbrev pub LeavesHistory : {D : Type 0} → Ghosts D → Type 0
LeavesHistory {D} g = (start : Content) (events : List Event) (old : Held (FileStore D g)) (last : FileStore D g) (left : Image) → HasCome start events (file_state old)
    → ((db : Trees) → recovers last db → (file_state old).may_leave db) → IsNumberedStore last → (state last).may_leave left
    → HasLeft start (events ++ stop_and_reopen) left

-- the files are found as they read, or as a stop of the machine leaves them
abbrev pub AreFoundAs : {D : Type 0} → Ghosts D → Files D → Image → Type 0
AreFoundAs g files found = (found ≡ image_of g files) ⊎ outcomes g files.log files.db found

-- files at rest hold the content, however they are found
abbrev pub HoldAtRest : {D : Type 0} → Ghosts D → Type 0
HoldAtRest {D} g = (files : Files D) (content : Content) (found : Image) → IsAtRest g files content → AreFoundAs g files found → HoldsContent found content

-- a command ends with its files at rest; they are found so, also after the machine stopped
abbrev pub RestsHistory : {D : Type 0} → Ghosts D → Type 0
RestsHistory {D} g = (start : Content) (events : List Event) (old : Held (FileStore D g)) (files : Files D) (found : Image) → HasCome start events (file_state old)
    → AreClean g files.log files.db → RestsIn old files → AreFoundAs g files found → HasLeft start (events ++ stop_and_reopen) found

-- the store has a content that its events lead to
abbrev pub HasHistory : {D : Type 0} → Ghosts D → Type 0
HasHistory {D} g = (start : Content) (events : List Event) (now : Held (FileStore D g)) → HasCome start events (file_state now)
    → ∥ ((content : Content) × HasContent (file_state now) content × IsLeftBy start events content) ∥₁

-- so do two files
abbrev pub HoldHistory : Type 0
HoldHistory = (start : Content) (events : List Event) (image : Image) → HasLeft start events image
    → ∥ ((content : Content) × HoldsContent image content × IsLeftBy start events content) ∥₁

-- once each sent request is delivered again, in any order, each has taken effect once
abbrev pub SettlesHistory : {D : Type 0} → Ghosts D → Type 0
SettlesHistory {D} g = (start : Content) (events : List Event) (again : List Request) (now : Held (FileStore D g)) → AllByRecursion (Contains again) (sent events)
    → HasCome start (events ++ map Deliver again) (file_state now)
    → ∥ ((w : World) × HasContent (file_state now) w.now × ((done : List Request) × Settles start events again w done)) ∥₁

-- ---- the end of a run

-- whatever events the store has gone through, its two files are at rest with a content that these lead to
abbrev pub RestsAfter : {D : Type 0} {g : Ghosts D} → Held (FileStore D g) → Files D → Type 0
RestsAfter {g = g} c files = AreClean g files.log files.db → (start : Content) (events : List Event) → HasCome start events (file_state c)
    → ∥ ((content : Content) × IsAtRest g files content × IsLeftBy start events content) ∥₁
