-- A store's history: one event after another, from run to run.
use Rattle.std.proofs.Common.{◌≡◌, ◌⊎◌, ◌∙◌, inl, inr, zero, suc, Bool, true, false, cond, List, [], ◌∷◌, arith, refl, sym, ap, subst}
use Rattle.std.specs.List.{Contains, AllZip}
use Rattle.std.specs.FinMap as finite
use Rattle.std.proofs.Math.Logic.{∥∥₁_elim, ∥∥₁_map}
use Rattle.sqlite_disk.specs.declared.Disk.{Ghosts}
use Rattle.sqlite_disk.specs.declared.Files.{Files}
use Rattle.sqlite_wal.proofs.LogLemmas.{SeenMayStay}
use Rattle.sqlite_trees.specs.Objects.{catalog_tree}
use Rattle.sqlite_trees.specs.Props.{Trees-set, rows_set}
use Rattle.sqlite_schema.specs.declared.schema.Schema.{Schema}
use Rattle.sqlite_catalog.specs.Listing.{IsSound, AreListed, IsTableRow, IsIndexRow, IsViewRow}
use Rattle.sqlite_store.specs.Laws.{settled_at}
use Rattle.sqlite.specs.Order.{Row}
use Rattle.sqlite.specs.Tree.{Trees}
use Rattle.sqlite.specs.FileStore.{recovers, state}
use Rattle.sqlite.specs.Held.{AreDatabases, Held}
use Rattle.sqlite.specs.State.{IsLive, HasCleanDisk, State}
use Rattle.sqlite.specs.Files.{HoldsDatabase, IsEmpty, file_state}
use Rattle.sqlite.proofs.Theorems.{opens_again}
use Rattle.sqlite.proofs.ListingLemmas.{empty_is_sound}
use Rattle.sqlite.specs.declared.FileStore.{FileStore}
use Rattle.sqlite.specs.Recovery.{Image}
use Rattle.ee_store_files.specs.Files.{Finds}
use Rattle.ee_store.specs.Holding.{HoldsPages, HoldsNone, HoldsOn, TakesHeld, FindsHeld, FindsNone}
use Rattle.ee_desk_model.specs.declared.acts.Request.{Request}
use Rattle.ee_desk_model.specs.Answers.{answer}
use Rattle.ee_desk_model.specs.Numbers.{number_of}
use Rattle.ee_desk_model.specs.Repeats.{Content, nothing}
use Rattle.ee_desk_model.proofs.Lemmas.Requests.{content_after-known}
use Rattle.ee_desk_laws.specs.Events.{stopped, Event, World, Told, begun, decided, unserved, one, Happens}
use Rattle.ee_desk_laws.specs.Events.Event.{Deliver, Lose, Unserved, Stop_between, Reopen}
use Rattle.ee_desk_laws.specs.Stops.{SurvivesStops, SettlesByRetries}
use Rattle.ee_desk_laws.proofs.Lemmas.{in_tail, happens_onward}
use Rattle.ee_store_schema.specs.declared.faults.OpenFault.{OpenFault}
use Rattle.ee_store_schema.specs.declared.forms.Form.{Form}
use Rattle.ee_store_schema.specs.declared.forms.Form.TheVariants.{Current, First, Earliest}
use Rattle.ee_store_schema.specs.Making.{IsBlank, no_tables}
use Rattle.ee_store_books.specs.Seen.{HasContent, StandsFor}
use Rattle.ee_store.proofs.Opened.{stood_now}
use Rattle.ee_store.specs.Adopted.{StoodFor, StandsSince, IsRefusedFrom}
use Rattle.ee_store.specs.NextRun.{IsNumberedStore, HoldsStore, HoldsContent}
use Rattle.ee_store.specs.Served.{FollowsWorld}
use Rattle.ee_store.specs.Ended.{StandsAlone, IsAtRest, RestsIn}
use Rattle.ee_store.specs.History.{IsUp, IsJustUp, Goes, BeginsHistory, BeginsInFiles, OpensHistory, HasHeld, WaitsInFiles, WaitsRefused, GoesByQueries, LeavesHistory, AreFoundAs, HoldAtRest, RestsHistory, HasHistory, HoldHistory, SettlesHistory, RestsAfter}

-- ---- worlds that are up

up_begun : (start : Content) → IsUp (begun start)
up_begun start = record { up = refl; among = (0, omega arith, refl) }

up_decided : (w : World) (q : Request) (told : List Told) → IsUp w → IsUp (decided w q told)
up_decided w q told is = record { up = refl; among = by_case (finite.contains_key w.now.kept (number_of q)) refl }
  where
    by_case : (b : Bool) → finite.contains_key w.now.kept (number_of q) ≡ b → Contains (decided w q told).may (one w.now q)
    by_case true known = subst (λ b. Contains (cond b w.may (one w.now q ∷ [])) (one w.now q)) (sym known)
        (subst (Contains w.may) (sym (content_after-known w.now q known)) is.among)
    by_case false new = subst (λ b. Contains (cond b w.may (one w.now q ∷ [])) (one w.now q)) (sym new) (0, omega arith, refl)

up_unserved : (w : World) (q : Request) → IsUp w → IsUp (unserved w q)
up_unserved w q is = record { up = is.up; among = in_tail (one w.now q) w.may w.now is.among }

-- ---- one event, or some

-- what leads on from each world leads on from what events have led to
goes_from : (old new : State) (events : List Event)
    → ((w : World) → IsUp w → FollowsWorld old w → ∥ ((v : World) × Happens w events v × IsUp v × FollowsWorld new v) ∥₁) → Goes old events new
goes_from old new events step start earlier come =
    ∥∥₁_elim come squash₁ (λ (w, happened, up, before).
    ∥∥₁_map (step w up before) (λ (v, happens, still, after). (v, happens_onward earlier events (begun start) w v happened happens, still, after)))

pub goes_decided : (old new : State) (q : Request) → ((w : World) (told : List Told) → FollowsWorld old w → FollowsWorld new (decided w q told))
    → Goes old (Deliver q ∷ []) new
goes_decided old new q follows = goes_from old new (Deliver q ∷ []) (λ w is before.
    let told = record { request = q; reply = answer w.now [] q } ∷ w.told in
    ∣ (decided w q told, (decided w q told, (is.up, refl), refl), up_decided w q told is, follows w told before) ∣₁)

pub goes_lost : (old new : State) (q : Request) → ((w : World) (told : List Told) → FollowsWorld old w → FollowsWorld new (decided w q told))
    → Goes old (Lose q ∷ []) new
goes_lost old new q follows = goes_from old new (Lose q ∷ []) (λ w is before.
    ∣ (decided w q w.told, (decided w q w.told, (is.up, refl), refl), up_decided w q w.told is, follows w w.told before) ∣₁)

pub goes_unserved : (old new : State) (q : Request) → ((w : World) → FollowsWorld old w → FollowsWorld new (unserved w q)) → Goes old (Unserved q ∷ []) new
goes_unserved old new q follows = goes_from old new (Unserved q ∷ []) (λ w is before.
    ∣ (unserved w q, (unserved w q, (is.up, refl), refl), up_unserved w q is, follows w before) ∣₁)

-- ---- the law

pub begins_history : {D : Type 0} (g : Ghosts D) → BeginsHistory g
begins_history g start now new = ∣ (begun start, refl, up_begun start, new) ∣₁

pub begins_in_files : BeginsInFiles
begins_in_files image content holds = ∣ (begun content, refl, record { up = refl; only = refl }, holds) ∣₁

-- ---- what two files hold

-- the world after a stop that left this content, and a reopening
abbrev rested : World → Content → World
rested w content = record (stopped w content) { up = true }

stops : (w : World) (content : Content) → Contains w.may content → Happens w (Stop_between ∷ Reopen ∷ []) (rested w content)
stops w content among = (stopped w content, (content, among, refl), (rested w content, (refl, refl), refl))

-- files that hold a database for `sqlite` hold a store of what it represents
held_store : TakesHeld → (image : Image) (db : Trees) (content : Content) → HoldsDatabase image db → StandsFor db content → HoldsContent image content
held_store takes image db content held stands = inl (Current, record { db = db; holds = ∣ takes image db held ∣₁; stands = stood_now db content stands })

-- ---- opening them

-- only the content and what a crash leaves count
follows_same : (s : State) (v w : World) → v.now ≡ w.now → v.may ≡ w.may → FollowsWorld s v → FollowsWorld s w
follows_same s v w now may (has, leaves) = (
  subst (HasContent s) now has,
  λ db left. let (content, among, stands) = leaves db left in (content, subst (λ (all : List Content). Contains all content) may among, stands),
)

among_only : (w : World) → IsJustUp w → Contains w.may w.now
among_only w just = subst (λ all. Contains all w.now) (sym just.only) (0, omega arith, refl)

-- a stop and a reopening with the same content lead back to where it was just opened
back_again : (w v : World) → IsJustUp w → Happens w (Stop_between ∷ Reopen ∷ []) v → v.now ≡ w.now → v.may ≡ w.may
back_again w v just (u, (left, among, stops), (x, (down, opens), same)) is =
    let there : v ≡ rested w left = same ∙ opens ∙ ap (λ (y : World). record y { up = true }) stops in
    let only : v.may ≡ left ∷ [] = ap (λ (y : World). y.may) there in
    let content : left ≡ w.now = sym (ap (λ (y : World). y.now) there) ∙ is in
    only ∙ ap (λ (c : Content). c ∷ []) content ∙ sym just.only

none_beside : {A B : Type 0} (P : A → B → Type 0) (ys : List B) → AllZip P [] ys → ys ≡ []
none_beside P [] zip = refl
none_beside P (y ∷ ys) zip = absurd zip

-- an empty list of objects is that of a schema without tables
lists_none : (schema : Schema) (db : Trees) → IsSound schema db → db catalog_tree ≡ [] → schema ≡ no_tables
lists_none schema db sound empty =
    let listed = subst (λ objects. AreListed objects schema) empty sound.lists.listed in
    let t = none_beside {A = Row} IsTableRow schema.tables listed.tables in
    let x = none_beside {A = Row} (IsIndexRow schema.tables) schema.indexes listed.indexes in
    let v = none_beside {A = Row} IsViewRow schema.views listed.views in
    λ i. record { tables = t i; indexes = x i; views = v i }

-- what is opened on files that hold a database has its trees
module _ (finds : FindsHeld) (none : FindsNone) (found : Image) (was : State) (it : Finds found was) where
  same_trees : (db : Trees) → HoldsPages found db → was.committed.trees ≡ db
  same_trees db held = it.holds db (finds found db was.committed.trees held it.reads)

  same_stood : (form : Form) (content : Content) (store : HoldsStore form found content) → HoldsPages found store.db → StoodFor form was.committed.trees content
  same_stood form content store held = subst (λ db. StoodFor form db content) (sym (same_trees store.db held)) store.stands

  -- if these hold none, it is empty
  empty_trees : HoldsNone found → ∥ IsEmpty was.committed.trees ∥₁
  empty_trees (inl before) = ∣ none found was.committed.trees before it.reads ∣₁
  empty_trees (inr some) = ∥∥₁_map some (λ (db, held, empty). subst IsEmpty (sym (same_trees db held)) empty)

  bare_objects : HoldsNone found → was.committed.trees catalog_tree ≡ []
  bare_objects before = ∥∥₁_elim (empty_trees before) (rows_set _ _) (λ empty. empty.1)

  bare : IsLive was → was.committed.trees catalog_tree ≡ [] → IsBlank was
  bare live objects is_open = lists_none was.committed.schema was.committed.trees (live is_open).1 objects

  blank : IsLive was → IsEmpty was.committed.trees → IsBlank was
  blank live empty = bare live empty.1

pub opens_history : {D : Type 0} (g : Ghosts D) → FindsHeld → FindsNone → OpensHistory g
opens_history g finds none start events found now come opened =
    let was = file_state opened.was in
    ∥∥₁_elim come squash₁ (λ (w, happened, just, holds).
    let up : IsUp w = record { up = just.up; among = among_only w just } in
    elim holds [
      | inl some ↦
          let (form, store) = some in
          ∥∥₁_map store.holds (λ held.
          let stood = same_stood finds none found was opened.found form w.now store held in
          let (v, happens, is, follows) = opened.goes_on form w w.now up.among stood in
          (w, happened, up, follows_same (file_state now) v w is (back_again w v just happens is) follows))
      | inr begins ↦
          let (is, empty) = begins in
          ∥∥₁_map (empty_trees finds none found was opened.found empty) (λ trees.
          let follows = opened.begun.1 (blank finds none found was opened.found opened.opened.1 trees) in
          (w, happened, up, follows_same (file_state now) (begun nothing) w (sym is) (ap (λ (c : Content). c ∷ []) (sym is) ∙ sym just.only) follows))
    ])

pub has_held : {D : Type 0} (g : Ghosts D) → FindsHeld → FindsNone → HasHeld g
has_held g finds none image content now (inl (form, store)) opened =
    let was = file_state opened.was in
    let same : was.committed.trees ≡ store.db = ∥∥₁_elim store.holds (Trees-set _ _) (same_trees finds none image was opened.found store.db) in
    let stood = subst (λ db. StoodFor form db content) (sym same) store.stands in
    let (v, happens, is, follows) = opened.goes_on form (begun content) content (0, omega arith, refl) stood in
    subst (HasContent (file_state now)) is follows.0
has_held g finds none image content now (inr (is, before)) opened =
    let was = file_state opened.was in
    subst (HasContent (file_state now)) (sym is) (opened.begins (bare finds none image was opened.found opened.opened.1 (bare_objects finds none image was opened.found before)))

-- ---- opens that fail

still_holds : (was now : Image) (content : Content) → HoldsOn was now → HoldsContent was content → HoldsContent now content
still_holds was now content on (inl (form, store)) = inl (form, record { db = store.db; holds = ∥∥₁_elim store.holds squash₁ (on.database store.db); stands = store.stands })
still_holds was now content on (inr (is, none)) = inr (is, on.none none)

pub waits_in_files : WaitsInFiles
waits_in_files start events was now come on = ∥∥₁_map come (λ (w, happened, just, holds). (w, happened, just, still_holds was now w.now on holds))

-- the form of a database that represents a content
stands_in : (form : Form) (db : Trees) (content : Content) → StandsSince form db content → (other : Form) × StoodFor other db content
stands_in Current db content stands = (Current, stood_now db content stands)
stands_in First db content (inl stood) = (First, stood)
stands_in First db content (inr stands) = (Current, stood_now db content stands)
stands_in Earliest db content (inl stood) = (Earliest, stood)
stands_in Earliest db content (inr stands) = (Current, stood_now db content stands)

-- it obeys a schema
stood_sound : (form : Form) (db : Trees) (content : Content) → StoodFor form db content → (schema : Schema) × IsSound schema db
stood_sound Current db content stood = (_, stood.stores.sound)
stood_sound First db content stood = (_, stood.stores.sound)
stood_sound Earliest db content stood = (_, stood.stores.sound)

only_one : (content left : Content) → Contains (content ∷ []) left → left ≡ content
only_one content left (zero, low, is) = sym is
only_one content left (suc k, low, is) = absurd (omega (arith, low))

module _ {D : Type 0} (g : Ghosts D) (takes : TakesHeld) (finds : FindsHeld) (none : FindsNone) (stays : SeenMayStay g)
    (found : Image) (fault : OpenFault) (now : Held (FileStore D g)) (last : FileStore D g) (clean : HasCleanDisk (file_state now)) (refused : IsRefusedFrom found fault now)
    (no_more : (db : Trees) → recovers last db → (file_state now).may_leave db) (numbered : IsNumberedStore last) where
  abbrev refused_was : State
  refused_was = file_state refused.was

  -- what a crash leaves of it represents the content
  stands_after : (form : Form) (content : Content) → StoodFor form refused_was.committed.trees content → (db : Trees) → (file_state now).may_leave db
      → (other : Form) × StoodFor other db content
  stands_after form content stood db may =
      let (v, (u, (left, among, stops), same), is, leaves) = refused.waits refused.opened.0.is_open form (begun content) content (0, omega arith, refl) stood in
      let (other, among_v, stands) = leaves db may in
      let down : v ≡ stopped (begun content) left = same ∙ stops in
      let all : v.may ≡ content ∷ [] = ap (λ (y : World). y.may) down ∙ ap (λ (c : Content). c ∷ []) (sym (ap (λ (y : World). y.now) down) ∙ is) in
      let one = only_one content other (subst (λ (cs : List Content). Contains cs other) all among_v) in
      stands_in form db content (subst (StandsSince form db) one stands)

  left_of_store : (form : Form) (content : Content) → StoodFor form refused_was.committed.trees content → (left : Image) → (state last).may_leave left → ∥ HoldsContent left content ∥₁
  left_of_store form content stood left may =
      let stands = stands_after form content stood in
      let sound : AreDatabases (recovers last) = λ db m. let it = stands db (no_more db m) in stood_sound it.0 db content it.1 in
      ∥∥₁_map (opens_again last numbered sound left may) (λ again.
      let it = stands again.0 (no_more again.0 again.1) in
      let r : HoldsContent left content = inl (it.0, record { db = again.0; holds = ∣ takes left again.0 again.2 ∣₁; stands = it.1 }) in r)

  -- where there was no database, a crash leaves an empty one, or a store without content
  empty_or_begun : IsEmpty refused_was.committed.trees → (db : Trees) → (file_state now).may_leave db → IsEmpty db ⊎ StandsFor db nothing
  empty_or_begun empty db may = elim (refused.crash.crash clean db may) [
    | inl before ↦ inl (subst IsEmpty (sym (settled_at refused.was.store stays db refused.opened.0.is_open before)) empty)
    | inr begins ↦ inr (begins (blank finds none found refused_was refused.found refused.opened.1 empty))
  ]

  left_of_none : IsEmpty refused_was.committed.trees → (content : Content) → content ≡ nothing → (left : Image) → (state last).may_leave left → ∥ HoldsContent left content ∥₁
  left_of_none empty content is left may =
      let each : (db : Trees) → recovers last db → IsEmpty db ⊎ StandsFor db nothing = λ db m. empty_or_begun empty db (no_more db m) in
      let sound : AreDatabases (recovers last) = λ db m. elim (each db m) [ inl bare ↦ (_, empty_is_sound db bare.1) | inr stands ↦ (stands.stores.schema, stands.stores.sound) ] in
      ∥∥₁_map (opens_again last numbered sound left may) (λ again.
      let r : HoldsContent left content = elim (each again.0 again.1) [
        | inl bare ↦ inr (is, inr ∣ (again.0, takes left again.0 again.2, bare) ∣₁)
        | inr stands ↦ subst (HoldsContent left) (sym is) (held_store takes left again.0 nothing again.2 stands)
      ] in r)

  left_refused : (content : Content) → HoldsContent found content → (left : Image) → (state last).may_leave left → ∥ HoldsContent left content ∥₁
  left_refused content (inl (form, store)) left may =
      ∥∥₁_elim store.holds squash₁ (λ held. left_of_store form content (same_stood finds none found refused_was refused.found form content store held) left may)
  left_refused content (inr (is, empty)) left may =
      ∥∥₁_elim (empty_trees finds none found refused_was refused.found empty) squash₁ (λ trees. left_of_none trees content is left may)

pub waits_refused : {D : Type 0} (g : Ghosts D) → TakesHeld → FindsHeld → FindsNone → SeenMayStay g → WaitsRefused g
waits_refused g takes finds none stays start events found fault now last left come clean refused no_more numbered may =
    ∥∥₁_elim come squash₁ (λ (w, happened, just, holds).
    ∥∥₁_map (left_refused g takes finds none stays found fault now last clean refused no_more numbered w.now holds left may) (λ still. (w, happened, just, still)))

-- ---- a run, and its end

pub goes_by_queries : {D : Type 0} (g : Ghosts D) → GoesByQueries g
goes_by_queries g old new keeps = goes_from (file_state old) (file_state new) [] (λ w is before. ∣ (w, refl, is, keeps w before) ∣₁)

pub leaves_history : {D : Type 0} (g : Ghosts D) → TakesHeld → LeavesHistory g
leaves_history g takes start events old last left come no_more numbered may = ∥∥₁_elim come squash₁ (λ (w, happened, up, follows).
    let sound : AreDatabases (recovers last) = λ db m. let found = follows.1 db (no_more db m) in (found.2.stores.schema, found.2.stores.sound) in
    ∥∥₁_map (opens_again last numbered sound left may) (λ again.
    let (content, among, stands) = follows.1 again.0 (no_more again.0 again.1) in (
      rested w content,
      happens_onward events (Stop_between ∷ Reopen ∷ []) (begun start) w (rested w content) happened (stops w content among),
      record { up = refl; only = refl },
      held_store takes left again.0 content again.2 stands,
    )))

-- files at rest represent the content however they are found
stands_found : {D : Type 0} (g : Ghosts D) (files : Files D) (content : Content) (found : Image) → IsAtRest g files content → AreFoundAs g files found → StandsAlone found content
stands_found g files content found rest (inl same) = subst (λ image. StandsAlone image content) (sym same) rest.seen
stands_found g files content found rest (inr may) = rest.left found may

pub hold_at_rest : {D : Type 0} (g : Ghosts D) → TakesHeld → HoldAtRest g
hold_at_rest g takes files content found rest finds =
    let seen = stands_found g files content found rest finds in
    inl (Current, record { db = seen.db; holds = ∥∥₁_map seen.holds.both (takes found seen.db); stands = stood_now seen.db content seen.stands })

pub rests_history : {D : Type 0} (g : Ghosts D) → TakesHeld → RestsHistory g
rests_history g takes start events old files found come clean rests finds = ∥∥₁_map come (λ (w, happened, up, follows). (
  rested w w.now,
  happens_onward events (Stop_between ∷ Reopen ∷ []) (begun start) w (rested w w.now) happened (stops w w.now up.among),
  record { up = refl; only = refl },
  hold_at_rest g takes files w.now found (rests clean w.now follows.0) finds,
))

-- ---- what a history leaves

pub has_history : {D : Type 0} (g : Ghosts D) → SurvivesStops → HasHistory g
has_history g survives start events now come =
    ∥∥₁_map come (λ (v, happens, up, follows). (v.now, follows.0, record { world = v; happened = happens; is = refl; survives = survives start events v happens }))

pub hold_history : SurvivesStops → HoldHistory
hold_history survives start events image come =
    ∥∥₁_map come (λ (v, happens, just, holds). (v.now, holds, record { world = v; happened = happens; is = refl; survives = survives start events v happens }))

pub settles_history : {D : Type 0} (g : Ghosts D) → SettlesByRetries → SettlesHistory g
settles_history g settles start events again now each come = ∥∥₁_map come (λ (v, happens, up, follows). (v, follows.0, settles start events again v each happens))

pub rests_after : {D : Type 0} {g : Ghosts D} (c : Held (FileStore D g)) (files : Files D) → HasHistory g → RestsIn c files → RestsAfter c files
rests_after c files history rests clean start events come =
    ∥∥₁_map (history start events c come) (λ (content, has, left). (content, rests clean content has, left))
