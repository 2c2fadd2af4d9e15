-- A keeper that is opened on what a crash left.
use Rattle.std.proofs.Common.{◌≡◌, inl, inr, [], ◌∷◌, true, refl, sym, ap, subst}
use Rattle.std.specs.List.{Contains}
use Rattle.std.proofs.Math.Logic.{∥∥₁_map}
use Rattle.sqlite_disk.specs.declared.Disk.{Ghosts}
use Rattle.sqlite.specs.FileStore.{recovers}
use Rattle.sqlite.specs.declared.FileStore.{FileStore}
use Rattle.sqlite.specs.Recovery.{Image}
use Rattle.sqlite.specs.Held.{Held, AreDatabases}
use Rattle.sqlite.specs.Files.{file_state}
use Rattle.sqlite.specs.State.{State}
use Rattle.sqlite.proofs.Theorems.{opens_again}
use Rattle.ee_store_files.specs.Files.{Finds}
use Rattle.ee_desk_model.specs.Repeats.{Content}
use Rattle.ee_desk_laws.specs.Events.{World, Happens}
use Rattle.ee_desk_laws.specs.Events.Event.{Stop_between, Reopen}
use Rattle.ee_store_books.specs.Standing.{rows_of}
use Rattle.ee_store_schema.specs.declared.faults.OpenFault.{OpenFault}
use Rattle.ee_store_schema.proofs.Lemmas.Forms.{kept_had}
use Rattle.ee_store_books.specs.Seen.{StandsFor, HasContent}
use Rattle.ee_store_schema.specs.declared.forms.Form.TheVariants.{Current}
use Rattle.ee_store.specs.Adopted.{IsRefusedFrom}
use Rattle.ee_store.specs.Served.{FollowsWorld}
use Rattle.ee_store.proofs.Opened.{stood_now}
use Rattle.ee_store.proofs.Meeting.{has_standing}
use Rattle.ee_store.specs.NextRun.{IsNumbered, MayLeaveFiles, IsNextRun, FollowsInNextRun, WaitsInNextRun, LeavesStanding}

-- an open finds trees that the crash might leave
found_again : {D : Type 0} {g : Ghosts D} (old : Held (FileStore D g)) (left : Image) (was : State)
    → IsNumbered old → AreDatabases (recovers old.store) → MayLeaveFiles old left → Finds left was → ∥ recovers old.store was.committed.trees ∥₁
found_again old left was numbered sound may found =
    ∥∥₁_map (opens_again old.store numbered sound left may) (λ it. subst (recovers old.store) (sym (found.holds it.0 it.2)) it.1)

-- the store that the next run found
abbrev pub was_found : {E : Type 0} {h : Ghosts E} (left : Image) (now : Held (FileStore E h)) → IsNextRun left now → State
was_found left now (inl opened) = file_state opened.was
was_found left now (inr (fault, refused)) = file_state refused.was

pub found_in : {E : Type 0} {h : Ghosts E} (left : Image) (now : Held (FileStore E h)) (next : IsNextRun left now) → Finds left (was_found left now next)
found_in left now (inl opened) = opened.found
found_in left now (inr (fault, refused)) = refused.found

-- a connection that is refused keeps what it found, so a later call goes on from there
refused_on : {E : Type 0} {h : Ghosts E} (left : Image) (fault : OpenFault) (now : Held (FileStore E h)) (refused : IsRefusedFrom left fault now) (w : World) (content : Content)
    → Contains w.may content → StandsFor (file_state refused.was).committed.trees content
    → (v : World) × Happens w (Stop_between ∷ Reopen ∷ []) v × (v.now ≡ content) × FollowsWorld (file_state now) v
refused_on left fault now refused w content among stands =
    let was = file_state refused.was in
    let stood = stood_now was.committed.trees content stands in
    let (v, (u, (stays, stays_among, stops), same), is, leaves) = refused.waits refused.opened.0.is_open Current w content among stood in
    let had = has_standing was Current content (λ o. (refused.opened.1 o).1) stood in
    let has : HasContent (file_state now) content = record { right = had.right; rows = kept_had Current was (file_state now) (rows_of content) refused.kept had.rows } in
    let reopened : World → World = λ x. record x { up = true } in
    (reopened v, (u, (stays, stays_among, stops), (reopened u, (ap (λ (x : World). x.up) stops, refl), ap reopened same)), is, (subst (HasContent (file_state now)) (sym is) has, leaves))

-- the next run has the content that it found, and goes on from there
pub next_on : {E : Type 0} {h : Ghosts E} (left : Image) (now : Held (FileStore E h)) (next : IsNextRun left now) (w : World) (content : Content)
    → Contains w.may content → StandsFor (was_found left now next).committed.trees content
    → (v : World) × Happens w (Stop_between ∷ Reopen ∷ []) v × (v.now ≡ content) × FollowsWorld (file_state now) v
next_on left now (inl opened) w content among stands = opened.goes_on Current w content among (stood_now (file_state opened.was).committed.trees content stands)
next_on left now (inr (fault, refused)) w content among stands = refused_on left fault now refused w content among stands

pub follows_in_next_run : {D E : Type 0} (g : Ghosts D) (h : Ghosts E) → FollowsInNextRun g h
follows_in_next_run g h old w left now numbered follows may next =
    let sound : AreDatabases (recovers old.store) = λ db may. let found = follows.1 db may in (found.2.stores.schema, found.2.stores.sound) in
    ∥∥₁_map (found_again old left (was_found left now next) numbered sound may (found_in left now next)) (λ may.
    let (content, among, stands) = follows.1 (was_found left now next).committed.trees may in
    let (v, happens, is, goes_on) = next_on left now next w content among stands in
    (v, happens, goes_on))

pub waits_in_next_run : {D E : Type 0} (g : Ghosts D) (h : Ghosts E) → WaitsInNextRun g h
waits_in_next_run g h old w left fault now numbered follows may refused =
    let was = file_state refused.was in
    let sound : AreDatabases (recovers old.store) = λ db may. let found = follows.1 db may in (found.2.stores.schema, found.2.stores.sound) in
    ∥∥₁_map (found_again old left was numbered sound may refused.found) (λ may.
    let (content, among, stands) = follows.1 was.committed.trees may in
    let (v, happens, is, waits) = refused.waits refused.opened.0.is_open Current w content among (stood_now was.committed.trees content stands) in
    (v, happens, waits))

pub leaves_standing : {D : Type 0} {g : Ghosts D} (old : Held (FileStore D g)) → IsNumbered old → LeavesStanding old
leaves_standing old numbered w left follows may =
    let sound : AreDatabases (recovers old.store) = λ db may. let found = follows.1 db may in (found.2.stores.schema, found.2.stores.sound) in
    ∥∥₁_map (opens_again old.store numbered sound left may) (λ found. (found.0, found.2, follows.1 found.0 found.1))
