-- A transaction that was begun on a store: what it sees.
use Rattle.std.proofs.Common.{◌≡◌, IsTrue, sym, ap, subst, ◌∙◌}
use Rattle.sqlite.specs.Effect.{Database}
use Rattle.sqlite.specs.State.{State, KeepsCommit}
use Rattle.ee_store_tables.proofs.Lemmas.Transactions.{begun}
use Rattle.ee_store_tables.specs.Rows.{Rows}
use Rattle.ee_store_schema.specs.declared.forms.Form.{Form}
use Rattle.ee_store_schema.specs.Forms.{IsIn, HoldsIn, HasForm, HadIn}
use Rattle.ee_store_schema.specs.Inner.Forms.{SeesForm, SeesIn}
use Rattle.ee_store_schema.specs.Making.{IsBlank, no_tables}
use Rattle.ee_store_schema.specs.Inner.Making.{SeesTables}

begun_blank : (old : State) → (IsTrue old.is_open → old.now ≡ old.committed) → IsBlank old → SeesTables (begun old) no_tables
begun_blank old settled blank is_open = (ap (λ (d : Database). d.schema) (settled is_open) ∙ blank is_open, tt)

-- it sees no tables
pub sees_none : (old start : State) → start ≡ begun old → (IsTrue old.is_open → old.now ≡ old.committed) → IsBlank old → SeesTables start no_tables
sees_none old start is settled blank = subst (λ s. SeesTables s no_tables) (sym is) (begun_blank old settled blank)

-- a store was open if a transaction on it is open later
pub was_open : (old start middle : State) → start ≡ begun old → KeepsCommit start middle → IsTrue middle.is_open → IsTrue old.is_open
was_open old start middle is keeps is_open = subst (λ (s : State). IsTrue s.is_open) is (keeps.was_open is_open)

module _ (form : Form) (old : State) (settled : IsTrue old.is_open → old.now ≡ old.committed) where
  begun_form : HasForm form old → SeesForm form (begun old)
  begun_form ours is_open = subst (λ (d : Database). IsIn form d.schema) (sym (settled is_open)) (ours is_open)

  begun_had : (rows : Rows) → HadIn form old rows → SeesIn form (begun old) rows
  begun_had rows had is_open =
      let it = had is_open in
      (subst (λ (d : Database). IsIn form d.schema) (sym (settled is_open)) it.0, subst (λ (d : Database). HoldsIn form d.trees rows) (sym (settled is_open)) it.1)

  module _ (start : State) (is : start ≡ begun old) where
    -- it sees the tables that the store has
    pub sees_form : HasForm form old → SeesForm form start
    sees_form ours = subst (SeesForm form) (sym is) (begun_form ours)

    -- and their rows
    pub sees_had : (rows : Rows) → HadIn form old rows → SeesIn form start rows
    sees_had rows had = subst (λ s. SeesIn form s rows) (sym is) (begun_had rows had)

    -- the last commit is what it was
    pub still_form : HasForm form old → HasForm form start
    still_form ours = subst (HasForm form) (sym is) ours
