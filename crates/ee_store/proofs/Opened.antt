-- Opening a store: what the rows that were found represent.
use Rattle.std.proofs.Common.{◌≡◌, inl, inr, ℕ, List, [], map, IsTrue, sym, ap, subst}
use Rattle.std.specs.Prelude.{IfSome, filter_map}
use Rattle.std.specs.Ordering.{nat_cmp}
use Rattle.std.specs.FinMap.{from_entries, get-empty}
use Rattle.sqlite.specs.Effect.{Database}
use Rattle.sqlite.specs.Tree.{Trees}
use Rattle.sqlite.specs.State.{State, Survives, KeepsCommit}
use Rattle.sqlite.proofs.StateLemmas.{survives_weaker}
use Rattle.ee_units.specs.Spelling.{SerialNumber}
use Rattle.ee_calculator.specs.declared.bonds.Bond.{Bond}
use Rattle.ee_value.specs.declared.rates.Rates.{Rates}
use Rattle.ee_desk_model.specs.declared.changes.Kept.{Kept}
use Rattle.ee_desk_model.specs.Serials.{serial_cmp}
use Rattle.ee_desk_model.specs.Numbers.{number_cmp}
use Rattle.ee_desk_model.specs.Seen.{held_as}
use Rattle.ee_desk_model.specs.Repeats.{Content, nothing}
use Rattle.ee_desk_model.proofs.Lemmas.Books.{empty_is_sound}
use Rattle.ee_store_contents.proofs.Lemmas.{is_at}
use Rattle.ee_desk_model.specs.Ranges.{BondFits}
use Rattle.ee_store_tables.specs.Keyed.{pair_cmp}
use Rattle.ee_store_tables.specs.Rows.{Rows, Has, Stores}
use Rattle.ee_store_schema.specs.declared.forms.Form.{Form}
use Rattle.ee_store_schema.specs.declared.forms.Form.TheVariants.{Current}
use Rattle.ee_store_schema.specs.Forms.{IsIn, version_of, HoldsIn, HasForm, HadIn}
use Rattle.ee_store_schema.specs.Making.{IsBlank, first_rows}
use Rattle.ee_store_load.specs.Opening.{HasTables, IsOtherVersion}
use Rattle.ee_store_load.proofs.Lemmas.{ours_tables, one_version}
use Rattle.ee_store_schema.proofs.Lemmas.Forms.{no_entries, not_blank}
use Rattle.ee_store_rows.specs.Rows.{bond_row, key_of}
use Rattle.ee_store_books.specs.Standing.{rows_at, rows_of, extension_entry, reply_row, IsRight, IsKept}
use Rattle.ee_store_books.specs.Seen.{StandsFor, HasContent}
use Rattle.ee_store.specs.Adopted.{StoodFor, HadContent, HasSome}

-- ---- the empty content and the first rows

pub nothing_right : IsRight nothing
nothing_right = record {
  sound = empty_is_sound;
  in_range = record { bonds = λ s. subst (λ o. IfSome o BondFits) (sym (get-empty serial_cmp s)) tt; tickets = tt; batches = tt };
  kept = λ n. subst (λ o. IfSome o (IsKept n)) (sym (get-empty number_cmp n)) tt;
}

pub nothing_rows : rows_of nothing ≡ first_rows
nothing_rows =
    let rates = ap (λ (es : List (ℕ × Rates)). from_entries {R = nat_cmp} (map (λ e. (e.0, e.1.fixed)) es)) (no_entries nat_cmp) in
    let bonds = ap (λ (es : List (SerialNumber × Bond)). from_entries {R = pair_cmp} (map (λ e. (key_of e.0, bond_row (held_as [] e.0 e.1))) es)) (no_entries serial_cmp) in
    let answers = ap (λ (es : List ((ℕ × ℕ) × Kept)). from_entries {R = pair_cmp} (map (λ e. (e.0, reply_row e.1)) es)) (no_entries number_cmp) in
    let extensions = ap (λ (es : List (ℕ × Rates)). from_entries {R = nat_cmp} (filter_map extension_entry es)) (no_entries nat_cmp) in
    λ i. record first_rows { rates = rates i; bonds = bonds i; extensions = extensions i; answers = answers i }

-- ---- forms of the tables

-- the present form is what a store has, and what trees represent
pub stood_now : (db : Trees) (content : Content) → StandsFor db content → StoodFor Current db content
stood_now db content stands = record { right = stands.right; stores = stands.stores }

pub had_now : (s : State) (content : Content) → HasContent s content → HadContent Current s content
had_now s content has = record { right = has.right; rows = has.rows }

-- a store that had rows had tables
pub has_tables : (old : State) (form : Form) (rows : Rows) → HadIn form old rows → HasTables old
has_tables old form rows had = ours_tables old (form, λ is_open. (had is_open).0)

-- while nothing is committed a store has the form that it had
pub kept_form : (old new : State) (form : Form) → KeepsCommit old new → HasForm form old → HasForm form new
kept_form old new form keeps has is_open = subst (λ (d : Database). IsIn form d.schema) (sym (keeps.committed is_open)) (has (keeps.was_open is_open))

-- and an open one had what it has
pub had_before : (old new : State) (form : Form) (rows : Rows) → KeepsCommit old new → IsTrue new.is_open → HadIn form new rows → HadIn form old rows
had_before old new form rows keeps is_open had _ =
    let it = had is_open in
    let same = sym (keeps.committed is_open) in
    (subst (λ (d : Database). IsIn form d.schema) (sym same) it.0, subst (λ (d : Database). HoldsIn form d.trees rows) (sym same) it.1)

-- a store with the first rows has the empty content
pub of_nothing : (s : State) → Has s first_rows → HasContent s nothing
of_nothing s has = record { right = nothing_right; rows = subst (Has s) (sym nothing_rows) has }

pub begun_survives : (old new : State) → Survives old new (λ db. IsBlank old → Stores db first_rows) → Survives old new (λ db. IsBlank old → StandsFor db nothing)
begun_survives old new one =
    survives_weaker old new (λ db. IsBlank old → Stores db first_rows) (λ db. IsBlank old → StandsFor db nothing)
    (λ clean db stores blank. record { right = nothing_right; stores = subst (Stores db) (sym nothing_rows) (stores blank) }) one

-- ---- rows of a content

-- the rows of a content are of no other version
pub of_version : (form : Form) (content : Content) → IsOtherVersion (rows_at (version_of form) content) → ⊥
of_version form content other = one_version form (rows_at (version_of form) content) (is_at form content) other

-- ---- what a store was that is opened

-- one without tables had no content
pub blank_had_none : (old : State) → IsBlank old → IsTrue old.is_open → (form : Form) (content : Content) → HadContent form old content → ⊥
blank_had_none old blank is_open form content had = not_blank form old (λ o. (had.rows o).0) blank is_open

-- one that had rows was not without tables
pub rows_not_blank : (old : State) (form : Form) (rows : Rows) → HadIn form old rows → IsTrue old.is_open → IsBlank old → ⊥
rows_not_blank old form rows had is_open blank = not_blank form old (λ o. (had o).0) blank is_open

-- after opening it has some content
pub some_content : (old new : State) → HasSome old new → (content : Content) × HasContent new content
some_content old new (inl (form, content, had, has)) = (content, has)
some_content old new (inr (blank, has)) = (nothing, has)
