-- What a crash leaves, and what is opened over it.
use Rattle.std.proofs.Common.{◌≡◌, ◌≢◌, ◌⊎◌, inl, inr, IsTrue, true, refl, sym, subst, arith}
use Rattle.sqlite.specs.Effect.{IsDatabase}
use Rattle.sqlite.specs.Tree.{Trees}
use Rattle.sqlite.specs.State.{State, IsLive}
use Rattle.ee_desk_model.specs.Repeats.{Content, nothing}
use Rattle.ee_desk_laws.specs.Events.{World, begun, stopped}
use Rattle.ee_store_tables.specs.Rows.{Stores}
use Rattle.ee_store_schema.specs.declared.forms.Form.{Form}
use Rattle.ee_store_schema.specs.declared.forms.Form.TheVariants.{Current, First, Earliest}
use Rattle.ee_store_schema.specs.Forms.{version_of, HasForm}
use Rattle.ee_store_schema.proofs.Lemmas.Forms.{had_stored}
use Rattle.ee_store_schema.specs.Making.{first_rows}
use Rattle.ee_store_books.specs.Standing.{rows_at}
use Rattle.ee_store_books.specs.Seen.{StandsFor, HasContent}
use Rattle.ee_store.specs.Served.{FollowsWorld}
use Rattle.ee_store_books.proofs.Lemmas.Lookups.{stands_committed}
use Rattle.ee_store.specs.Adopted.{StoodFor, HadContent, StandsSince, KeepsContent, CarriesWorld, LeavesAsBefore, GoesOn, StaysStopped}
use Rattle.ee_store.proofs.Opened.{had_now, has_tables, nothing_rows}

-- a store whose trees represent a content had it, in the form of its tables
pub has_standing : (s : State) (form : Form) (content : Content) → (IsTrue s.is_open → IsDatabase s.committed) → StoodFor form s.committed.trees content
    → HadContent form s content
has_standing s form content live stood = record { right = stood.right; rows = had_stored form s (rows_at (version_of form) content) live stood.stores }

-- of a store that was made a crash leaves the empty content
pub begins_world : (new : State) → IsTrue new.is_open → HasContent new nothing → ((db : Trees) → new.may_leave db → Stores db first_rows) → FollowsWorld new (begun nothing)
begins_world new is_open has left =
    (has, λ db may. (nothing, (0, omega arith, refl), record { right = has.right; stores = subst (Stores db) (sym nothing_rows) (left db may) }))

-- ---- what a crash leaves after opening

-- a crash leaves what it could leave before, and so what the store was opened over, or version 2 of that
module _ (old new : State) (live : IsLive old) (settled : (db : Trees) → IsTrue old.is_open → old.may_leave db → db ≡ old.committed.trees)
    (left : LeavesAsBefore old new) (is_open : IsTrue old.is_open) where
  leaves_either : (form : Form) (content : Content) → StoodFor form old.committed.trees content → (db : Trees) → new.may_leave db → StoodFor form db content ⊎ StandsFor db content
  leaves_either form content stood db may =
      let had = has_standing old form content (λ o. (live o).1) stood in
      elim (left is_open (has_tables old form (rows_at (version_of form) content) had.rows) db may) [
        | inl before ↦ inl (subst (λ d. StoodFor form d content) (sym (settled db is_open before)) stood)
        | inr migrated ↦ inr (migrated.stands form content had)
      ]

  leaves_since : (form : Form) (content : Content) → StoodFor form old.committed.trees content → (db : Trees) → new.may_leave db → StandsSince form db content
  leaves_since Current content stood db may = elim (leaves_either Current content stood db may) [ inl same ↦ record { right = same.right; stores = same.stores } | inr stands ↦ stands ]
  leaves_since First content stood db may = leaves_either First content stood db may
  leaves_since Earliest content stood db may = leaves_either Earliest content stood db may

-- a store that isn't served from leaves what it was opened over
pub stays_stopped : (old new : State) → IsLive old → ((db : Trees) → IsTrue old.is_open → old.may_leave db → db ≡ old.committed.trees) → LeavesAsBefore old new → StaysStopped old new
stays_stopped old new live settled left is_open form w content among stood =
    let v : World = stopped w content in
    (v, (v, (content, among, refl), refl), refl, λ db may. (content, (0, omega arith, refl), leaves_since old new live settled left is_open form content stood db may))

-- after opening a crash leaves version 2 alone: what was migrated leaves what was committed
abbrev pub LeavesPresent : State → State → Type 0
LeavesPresent old new = (form : Form) → form ≢ Current → HasForm form old → (db : Trees) → new.may_leave db → db ≡ new.committed.trees

module _ (old new : State) (live : IsLive old) (live_new : IsLive new) (settled : (db : Trees) → IsTrue old.is_open → old.may_leave db → db ≡ old.committed.trees)
    (left : LeavesAsBefore old new) (present : LeavesPresent old new) (keeps : KeepsContent old new) (is_open : IsTrue old.is_open) (new_open : IsTrue new.is_open) where
  -- what was of version 1
  migrated_stands : (form : Form) → form ≢ Current → (content : Content) → HadContent form old content → (db : Trees) → new.may_leave db → StandsFor db content
  migrated_stands form earlier content had db may =
      stands_committed new content (keeps form content had) new_open (live_new new_open).1 db (present form earlier (λ o. (had.rows o).0) db may)

  leaves_standing : (form : Form) (content : Content) → StoodFor form old.committed.trees content → (db : Trees) → new.may_leave db → StandsFor db content
  leaves_standing Current content stood db may = leaves_since old new live settled left is_open Current content stood db may
  leaves_standing First content stood db may = migrated_stands First (λ is. cc) content (has_standing old First content (λ o. (live o).1) stood) db may
  leaves_standing Earliest content stood db may = migrated_stands Earliest (λ is. cc) content (has_standing old Earliest content (λ o. (live o).1) stood) db may

  pub goes_on : GoesOn old new
  goes_on form w content among stood =
      let had = has_standing old form content (λ o. (live o).1) stood in
      let v : World = record (stopped w content) { up = true } in (
        v,
        (stopped w content, (content, among, refl), (v, (refl, refl), refl)),
        refl,
        (keeps form content had, λ db may. (content, (0, omega arith, refl), leaves_standing form content stood db may)),
      )

  pub carries_world : CarriesWorld old new
  carries_world Current w follows =
      let had = had_now old w.now follows.0 in (
        keeps Current w.now had,
        λ db may. elim (left is_open (has_tables old Current (rows_at (version_of Current) w.now) had.rows) db may) [
          | inl before ↦ follows.1 db before
          | inr migrated ↦ absurd (migrated.lacked (λ o. (had.rows o).0))
        ],
      )
  carries_world First w follows = (keeps First w.now follows.0, λ db may. (w.now, follows.1, migrated_stands First (λ is. cc) w.now follows.0 db may))
  carries_world Earliest w follows = (keeps Earliest w.now follows.0, λ db may. (w.now, follows.1, migrated_stands Earliest (λ is. cc) w.now follows.0 db may))
