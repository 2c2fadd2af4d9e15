-- Opening a store in two steps: its rows are found and tested, and then a store of version 1 is migrated.
use Rattle.std.proofs.Common.{◌≡◌, ◌≢◌, ◌⊎◌, inl, inr, IsTrue, map, refl, sym, ap, subst, ◌∙◌}
use Rattle.std.specs.Prelude.{List, Vec}
use Rattle.std.specs.declared.alloc.Global.{Global}
use Rattle.std.specs.FinMap.{entries, entries-from_sorted}
use Rattle.sqlite.specs.Tree.{Trees}
use Rattle.sqlite.specs.State.{State, HasCleanDisk, KeepsCommit, Survives}
use Rattle.sqlite.proofs.StateLemmas.{survives_then}
use Rattle.ee_desk_model.specs.Repeats.{Content, nothing}
use Rattle.ee_store_tables.specs.Keyed.{pair_cmp}
use Rattle.ee_store_tables.specs.Rows.{Rows, Has, Stores}
use Rattle.ee_store_schema.specs.declared.forms.Form.{Form}
use Rattle.ee_store_schema.specs.declared.forms.Form.TheVariants.{Current, First, Earliest}
use Rattle.ee_store_schema.specs.declared.answers.StoredAnswer.{StoredAnswer}
use Rattle.ee_store_schema.specs.Forms.{version_of, HasForm, IsOurs, HoldsIn, HadIn}
use Rattle.ee_store_schema.specs.Making.{IsBlank}
use Rattle.ee_store_schema.specs.Migrating.{answer_entry, become, Lists, Migrates, AnswersFit, CanBecome}
use Rattle.ee_store_schema.proofs.Lemmas.Forms.{kept_had, one_form, lacks_current}
use Rattle.ee_store_load.specs.declared.whole.AllRows.{AllRows}
use Rattle.ee_store_load.specs.Whole as whole
use Rattle.ee_store_load.proofs.Lemmas.{one_rows}
use Rattle.ee_store_books.specs.Standing.{rows_at, rows_of, StandAt}
use Rattle.ee_store_contents.proofs.Lemmas.{becomes}
use Rattle.ee_store_books.specs.Seen.{StandsFor}
use Rattle.ee_store.proofs.Meeting.{LeavesPresent}
use Rattle.ee_store.specs.Adopted.{HadContent, HadNone, HasSome, CanMigrate, IsMigrated, KeepsContent, LeavesAsBefore}
use Rattle.ee_store.proofs.Opened.{kept_form, had_before, rows_not_blank}

-- the replies of a store of version 1 that were left are all
pub lists_all : {Passes : StoredAnswer → Type 0} (all : AllRows) (rows : Rows) → whole.AreRead Passes all rows → (left : Vec StoredAnswer Global) → left ≡ all.replies.earlier → (given : List StoredAnswer)
    → given ≡ left.items → all.form ≢ Current → Lists given rows
lists_all all rows read left is given same earlier =
    ap (λ (r : Rows). entries r.answers) read.are ∙ entries-from_sorted pair_cmp (map answer_entry read.kept) read.tested.in_order
    ∙ ap (map answer_entry) (sym (read.tested.earlier earlier) ∙ sym (ap (λ (v : Vec StoredAnswer Global). v.items) is) ∙ sym same)

-- a store of the present form stays as it was, and one of version 1 becomes one of version 2
pub made_of : (middle new : State) (form : Form) (rows : Rows) (given : List StoredAnswer) → HadIn form middle rows → (form ≢ Current → Lists given rows) → (form ≡ Current → new ≡ middle)
    → (Lists given rows → Has new (become form rows)) → Has new (become form rows)
made_of middle new Current rows given found lists same made = subst (λ s. Has s rows) (sym (same refl)) found
made_of middle new First rows given found lists same made = made (lists (λ is. absurd cc))
made_of middle new Earliest rows given found lists same made = made (lists (λ is. absurd cc))

-- ---- the rows that were found

module _ (old middle : State) (form : Form) (rows : Rows) (kept : KeepsCommit old middle) (was_open : IsTrue old.is_open) (is_open : IsTrue middle.is_open)
    (found : HadIn form middle rows) where
  pub had : HadIn form old rows
  had = had_before old middle form rows kept is_open found

  -- the tables that it had are those of this program
  pub is_ours : IsOurs old
  is_ours = (form, λ o. (had o).0)

  -- and no store has two forms
  pub found_form : (other : Form) → HasForm other old → other ≡ form
  found_form other has = one_form other form middle.committed.schema (kept_form old middle other kept has is_open) (found is_open).0

  -- of a store of version 1 they fit their new rows
  pub fits_rows : (given : List StoredAnswer) → (form ≢ Current → Lists given rows) → CanMigrate old → CanBecome form given middle
  fits_rows given lists can = by_form form refl
    where
      fit : form ≢ Current → (rows : Rows) × HadIn form middle rows × Lists given rows × AnswersFit rows
      fit earlier = (rows, found, lists earlier, can (lacks_current form old earlier (λ o. (had o).0) was_open) form rows had)

      by_form : (whole : Form) → form ≡ whole → (form ≡ Current) ⊎ ((rows : Rows) × HadIn form middle rows × Lists given rows × AnswersFit rows)
      by_form Current is = inl is
      by_form First is = inr (fit (λ current. let e = sym is ∙ current in cc))
      by_form Earliest is = inr (fit (λ current. let e = sym is ∙ current in cc))

  -- they are those that it had
  those : (other : Form) (before : Rows) → HadIn other old before → rows ≡ before
  those other before was =
      let kept_rows = kept_had other old middle before kept was in
      one_rows form middle.committed.trees rows before (found is_open).1 (subst (λ f. HoldsIn f middle.committed.trees before) (found_form other (λ o. (was o).0)) (kept_rows is_open).1)

  -- and they were not those of a store without tables
  pub not_begun : IsBlank old → ⊥
  not_begun = rows_not_blank old form rows had was_open

  -- whichever content the store had, they become its rows in version 2
  same_content : (other : Form) (content : Content) → HadContent other old content → become form rows ≡ rows_of content
  same_content other content was =
      ap (become form) (those other (rows_at (version_of other) content) was.rows)
      ∙ ap (λ f. become f (rows_at (version_of other) content)) (sym (found_form other (λ o. (was.rows o).0))) ∙ becomes other content

  pub keeps_content : (new : State) → Has new (become form rows) → KeepsContent old new
  keeps_content new made other content was = record { right = was.right; rows = subst (Has new) (same_content other content was) made }

  -- the content that they represent is the one that the store had
  stood_for : (content : Content) → StandAt (version_of form) rows content → HadContent form old content
  stood_for content stands = record { right = stands.right; rows = subst (HadIn form old) stands.are had }

  pub has_some : (new : State) → Has new (become form rows) → (content : Content) → StandAt (version_of form) rows content → HasSome old new
  has_some new made content stands =
      let was = stood_for content stands in
      inl (form, content, was, keeps_content new made form content was)

  -- if they represent none, the store had none
  pub stood_for_none : ((content : Content) → StandAt (version_of form) rows content → ⊥) → HadNone old
  stood_for_none none _ = (
    λ other content was. none content (record {
      are = those other (rows_at (version_of other) content) was.rows ∙ ap (λ f. rows_at (version_of f) content) (found_form other (λ o. (was.rows o).0));
      right = was.right;
    }),
    not_begun,
  )

  -- the store was of version 1 if it was migrated
  module _ (all : List StoredAnswer) (lists : form ≢ Current → Lists all rows) (content : Content) (stands : StandAt (version_of form) rows content) where
    pub migrated : (db : Trees) → Migrates form all middle db → IsMigrated old db
    migrated db migrates =
        record {
          lacked = λ current. migrates.earlier (sym (found_form Current current));
          some = (form, content, stood_for content stands);
          stands = λ other content was. record { right = was.right; stores = subst (Stores db) (same_content other content was) (migrates.stores rows found (lists migrates.earlier)) };
        }

    pub leaves_as_before : (new : State) → ((db : Trees) → middle.may_leave db → old.may_leave db ⊎ ⊥)
        → ((db : Trees) → new.may_leave db → middle.may_leave db ⊎ Migrates form all middle db) → LeavesAsBefore old new
    leaves_as_before new read crash _ _ db may = elim (crash db may) [
      | inl before ↦ elim (read db before) [ inl earlier ↦ inl earlier | inr none ↦ absurd none ]
      | inr migrates ↦ inr (migrated db migrates)
    ]

  -- what was migrated leaves the trees that were committed
  pub leaves_present : (new : State) → (form ≡ Current) ⊎ ((db : Trees) → new.may_leave db → db ≡ new.committed.trees) → LeavesPresent old new
  leaves_present new (inl current) other earlier has db may = absurd (earlier (found_form other has ∙ current))
  leaves_present new (inr durable) other earlier has db may = durable db may

-- a store that has rows is no new one, when it is migrated too
pub read_then : (old middle new : State) (form : Form) (all : List StoredAnswer) → (HasCleanDisk new → IsBlank old → ⊥)
    → Survives old middle (λ _. ⊥) → Survives middle new (Migrates form all middle) → Survives old new (λ db. IsBlank old → StandsFor db nothing)
read_then old middle new form all not one two = survives_then old middle new _ _ _ (λ clean db none. absurd none) (λ clean db migrates blank. absurd (not clean blank)) one two
