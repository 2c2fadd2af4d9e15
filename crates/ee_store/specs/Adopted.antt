-- The state of a store that is opened, and its state before.
-- Nothing is said of a store that a failing disk has shut.
use Rattle.std.specs.Prelude.{◌≡◌, ◌≤◌, ◌⊎◌, ◌+◌, ◌^◌, ℕ, None, false, [], ◌∷◌, length, Contains, Option, IsTrue, ⊤}
use Rattle.std.specs.Ordering.{nat_cmp}
use Rattle.std.specs.FinMap.{FinMap, entries}
use Rattle.sqlite_disk.specs.declared.Disk.{Ghosts}
use Rattle.sqlite.specs.declared.FileStore.{FileStore}
use Rattle.sqlite.specs.Tree.{Trees}
use Rattle.sqlite.specs.Held.{Held}
use Rattle.sqlite.specs.Files.{file_state, IsOpened}
use Rattle.sqlite.specs.Recovery.{Image}
use Rattle.sqlite.specs.State.{State, KeepsCommit, Survives}
use Rattle.ee_store_files.specs.Files.{Finds}
use Rattle.ee_desk_model.specs.Repeats.{Content, nothing}
use Rattle.ee_desk_laws.specs.Events.{World, Happens, begun}
use Rattle.ee_desk_laws.specs.Events.Event.{Stop_between, Reopen}
use Rattle.ee_desk_laws.specs.Ties.{Leaves}
use Rattle.ee_store_schema.specs.declared.forms.Form.{Form}
use Rattle.ee_store_schema.specs.declared.forms.Form.TheVariants.{Current, First, Earliest}
use Rattle.ee_store_schema.specs.Forms.{version_of, StoresIn, HasForm, IsOurs, HadIn}
use Rattle.ee_store_schema.specs.Migrating.{AnswersFit, BondsAndLinesHaveRoom}
use Rattle.ee_store_schema.specs.Making.{IsBlank}
use Rattle.ee_store_tables.specs.Rows.{Rows, DeskRow, HasRoomIn, HasRoom}
use Rattle.ee_store_tables.specs.Statements.{HasCause}
use Rattle.ee_store_load.specs.Opening.{HasTables, IsOther, IsOtherVersion, ShowsOther, SeesDesk}
use Rattle.ee_store_schema.specs.declared.faults.OpenFault.{OpenFault}
use Rattle.ee_store_schema.specs.declared.faults.OpenFault.TheVariants.{StoreFailed, WrongVersion, Unusable}
use Rattle.ee_store.specs.declared.opening.Rest.{Rest}
use Rattle.ee_store.specs.declared.opening.Rest.TheVariants.{Connection, Files}
use Rattle.ee_store_books.specs.Standing.{rows_at, IsRight}
use Rattle.ee_store_books.specs.Seen.{StandsFor, HasContent}
use Rattle.ee_store.specs.Served.{FollowsWorld}
use Rattle.ee_store.specs.Ended.{StandsAlone}
use Rattle.ee_store_books.specs.Causes.{IsReady}

-- ---- the content of a store of version 1

-- trees with tables in this form represent the content
pub record StoodFor (form : Form) (db : Trees) (content : Content) : Type 0 where
  pub right : IsRight content
  pub stores : StoresIn form db (rows_at (version_of form) content)

-- the last commit left tables in this form, whose rows represent the content
pub record HadContent (form : Form) (s : State) (content : Content) : Type 0 where
  pub right : IsRight content
  pub rows : HadIn form s (rows_at (version_of form) content)

-- The store in this form has the world's content, and a crash leaves what it may leave of the world. If it is still to be
-- migrated, a crash may also leave the world's content.
abbrev pub FollowedWorld : Form → State → World → Type 0
FollowedWorld Current s w = FollowsWorld s w
FollowedWorld First s w = HadContent First s w.now × Contains w.may w.now × Leaves (StoodFor First) s.may_leave w
FollowedWorld Earliest s w = HadContent Earliest s w.now × Contains w.may w.now × Leaves (StoodFor Earliest) s.may_leave w

-- trees represent the content, in the form that they had or in the present one
abbrev pub StandsSince : Form → Trees → Content → Type 0
StandsSince Current db content = StandsFor db content
StandsSince First db content = StoodFor First db content ⊎ StandsFor db content
StandsSince Earliest db content = StoodFor Earliest db content ⊎ StandsFor db content

-- the store was of version 1, and the trees, of version 2, represent the content that it had
pub record IsMigrated (old : State) (db : Trees) : Type 0 where
  pub lacked : ¬ HasForm Current old
  pub some : (form : Form) × (content : Content) × HadContent form old content
  pub stands : (form : Form) (content : Content) → HadContent form old content → StandsFor db content

-- ---- the content of a store that is opened

-- a store that had no tables has the empty content
abbrev pub BeginsEmpty : State → State → Type 0
BeginsEmpty old new = IsBlank old → HasContent new nothing

-- it is open, and a crash leaves only the empty content: the events begin there
abbrev pub BeginsWorld : State → State → Type 0
BeginsWorld old new = IsTrue new.is_open × (IsBlank old → FollowsWorld new (begun nothing))

-- a content that the store had, in any form, it still has
abbrev pub KeepsContent : State → State → Type 0
KeepsContent old new = (form : Form) (content : Content) → HadContent form old content → HasContent new content

-- to a store of version 2 nothing is committed, so tables of others stay as they are
abbrev pub KeepsPresent : State → State → Type 0
KeepsPresent old new = HasForm Current old → KeepsCommit old new

-- the store had a content, in some form, and still has it; or it had no tables, and has the empty content
abbrev pub HasSome : State → State → Type 0
HasSome old new = ((form : Form) × (content : Content) × HadContent form old content × HasContent new content) ⊎ (IsBlank old × HasContent new nothing)

-- the store follows the events of requests, as before
abbrev pub KeepsWorld : State → State → Type 0
KeepsWorld old new = (w : World) → FollowsWorld old w → FollowsWorld new w

-- the same for a store in any form
abbrev pub CarriesWorld : State → State → Type 0
CarriesWorld old new = (form : Form) (w : World) → FollowedWorld form old w → FollowsWorld new w

-- If the store was opened over trees that represent a content which a crash may leave of a world, it has that content, and the
-- world stops and goes on from there.
abbrev pub GoesOn : State → State → Type 0
GoesOn old new = (form : Form) (w : World) (left : Content) → Contains w.may left → StoodFor form old.committed.trees left
    → (v : World) × Happens w (Stop_between ∷ Reopen ∷ []) v × (v.now ≡ left) × FollowsWorld new v

-- If the store over such trees isn't served, a crash leaves what represents the same, so a later open goes on from there.
abbrev pub StaysStopped : State → State → Type 0
StaysStopped old new = IsTrue old.is_open → (form : Form) (w : World) (left : Content) → Contains w.may left → StoodFor form old.committed.trees left
    → (v : World) × Happens w (Stop_between ∷ []) v × (v.now ≡ left) × Leaves (StandsSince form) new.may_leave v

-- an open store had no content, in any form, and it had tables
abbrev pub HadNone : State → Type 0
HadNone old = IsTrue old.is_open → ((form : Form) (content : Content) → HadContent form old content → ⊥) × (IsBlank old → ⊥)

-- it had tables, and they weren't those of this program
abbrev pub HadOthers : State → Type 0
HadOthers old = ¬ IsOurs old × ¬ IsBlank old

-- The rows of an open store have another version. Over other tables `sqlite` shows another version; if the first table is the desk,
-- its row has another version.
abbrev pub HadOtherVersion : State → Type 0
HadOtherVersion old =
    IsTrue old.is_open → ((form : Form) (rows : Rows) → HadIn form old rows → IsOtherVersion rows)
    × (HadOthers old → ShowsOther old × ((rows : FinMap nat_cmp DeskRow) → SeesDesk old rows → IsOther rows))

-- The rows of an open store have no other version, nor does the desk if it is the first of other tables.
abbrev pub HadNoOtherVersion : State → Type 0
HadNoOtherVersion old =
    IsTrue old.is_open → ((form : Form) (rows : Rows) → HadIn form old rows → ¬ IsOtherVersion rows)
    × (HadOthers old → (rows : FinMap nat_cmp DeskRow) → SeesDesk old rows → ¬ IsOther rows)

-- A crash of a store with any table leaves what it could leave before. If it was of version 1, a crash may also leave version 2
-- with the same content, and nothing between.
abbrev pub LeavesAsBefore : State → State → Type 0
LeavesAsBefore old new = IsTrue old.is_open → HasTables old → (db : Trees) → new.may_leave db → old.may_leave db ⊎ IsMigrated old db

-- the kept replies of a store of version 1 fit the rows of version 2
abbrev pub CanMigrate : State → Type 0
CanMigrate old = (¬ HasForm Current old) → (form : Form) (rows : Rows) → HadIn form old rows → AnswersFit rows

-- For a connection in no transaction, without a limit on steps, over a store without tables or with those of either version,
-- the fault has a cause.
abbrev pub FailsToAdopt : State → State → OpenFault → Type 0
FailsToAdopt old new fault = old.in_transaction ≡ false → old.step_limit ≡ None → IsBlank old ⊎ IsOurs old → CanMigrate old → fault ≡ StoreFailed → HasCause old new

-- this many more rows with hidden numbers fit in bonds and lines of version 1, and in a new table
abbrev pub HasRoomFirst : ℕ → Trees → Type 0
HasRoomFirst n db = BondsAndLinesHaveRoom n db × (1 + n ≤ 2 ^ 63)

-- The tables in this form have room for this many more rows; those of version 1 also for their kept replies.
abbrev pub HasRoomFor : Form → ℕ → Trees → Rows → Type 0
HasRoomFor Current n db rows = HasRoomIn n db
HasRoomFor First n db rows = HasRoomFirst (n + length (entries rows.answers)) db
HasRoomFor Earliest n db rows = HasRoomFirst (n + length (entries rows.answers)) db

-- the tables that the last commit left have this room
abbrev pub HadRoom : ℕ → State → Type 0
HadRoom n old = (form : Form) × (rows : Rows) × HadIn form old rows × HasRoomFor form n old.committed.trees rows

-- it has room for as many rows as its trees have, or had before; a store that was new, for 2^63 - 1
abbrev pub OpensWithRoom : State → State → Type 0
OpensWithRoom old new = (n : ℕ) → HasRoomIn n new.committed.trees ⊎ (HadRoom n old ⊎ (IsBlank old × (1 + n ≤ 2 ^ 63))) → HasRoom n new

-- the keeper has what was found in the files, which first held this
pub record IsOpenedFrom {D : Type 0} {g : Ghosts D} (start : Image) (now : Held (FileStore D g)) : Type 0 where
  pub was : Held (FileStore D g)
  pub opened : IsOpened was
  pub found : Finds start (file_state was)
  -- if the file alone is a store of a content, the keeper has that content
  pub alone : (content : Content) → StandsAlone start content → HasContent (file_state now) content
  pub begins : BeginsEmpty (file_state was) (file_state now)
  pub begun : BeginsWorld (file_state was) (file_state now)
  pub keeps : KeepsContent (file_state was) (file_state now)
  pub present : KeepsPresent (file_state was) (file_state now)
  pub some : HasSome (file_state was) (file_state now)
  pub follows : CarriesWorld (file_state was) (file_state now)
  pub goes_on : GoesOn (file_state was) (file_state now)
  pub crash : Survives (file_state was) (file_state now) (λ db. IsBlank (file_state was) → StandsFor db nothing)
  pub left : LeavesAsBefore (file_state was) (file_state now)
  -- it takes requests, with the room that its trees have or had
  pub ready : IsReady (file_state now)
  pub room : OpensWithRoom (file_state was) (file_state now)
  -- each later read is tested against the digest of what was read or written there
  pub shielded : (file_state now).IsShielded

-- the connection was refused with this fault, and is left as it was found in the files, which first held this
pub record IsRefusedFrom {D : Type 0} {g : Ghosts D} (start : Image) (fault : OpenFault) (now : Held (FileStore D g)) : Type 0 where
  pub was : Held (FileStore D g)
  pub opened : IsOpened was
  pub found : Finds start (file_state was)
  pub kept : KeepsCommit (file_state was) (file_state now)
  pub version : fault ≡ WrongVersion → HadNone (file_state was)
  pub other : fault ≡ WrongVersion → HadOtherVersion (file_state was)
  pub unusable : fault ≡ Unusable → HadNone (file_state was)
  pub tested : fault ≡ Unusable → HadNoOtherVersion (file_state was)
  pub cause : FailsToAdopt (file_state was) (file_state now) fault
  pub waits : StaysStopped (file_state was) (file_state now)
  pub crash : Survives (file_state was) (file_state now) (λ db. IsBlank (file_state was) → StandsFor db nothing)
  pub left : LeavesAsBefore (file_state was) (file_state now)
  -- a later call may adopt it
  pub ready : IsReady (file_state now)

-- what holds for the connection that is handed back
abbrev pub IfConnection : {S L : Type 0} → Rest S L → (Held S → Type 0) → Type 0
IfConnection (Connection conn) P = P conn
IfConnection (Files left) P = ⊤

-- what holds for what is left of files that `sqlite` didn't open
abbrev pub IfFiles : {S L : Type 0} → Rest S L → (Option L → Type 0) → Type 0
IfFiles (Connection conn) P = ⊤
IfFiles (Files left) P = P left
