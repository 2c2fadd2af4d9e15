-- The rows of a content can be read.
use Rattle.std.proofs.Common.{◌≡◌, ℕ, map, refl, sym, subst}
use Rattle.std.specs.Prelude.{Option, Some, None, IfSome}
use Rattle.std.specs.FinMap as finite
use Rattle.std.specs.FinMap.{entries}
use Rattle.ee_units.specs.Spelling.{SerialNumber}
use Rattle.ee_calculator.specs.declared.bonds.Bond.{Bond}
use Rattle.ee_desk_model.specs.PlainBooks.{PlainBooks}
use Rattle.ee_desk_model.specs.Repeats.{Content}
use Rattle.ee_desk_model.specs.Seen.{held_as}
use Rattle.ee_desk_model.proofs.Lemmas.Maps.{serials_total, serials_exact, all_weaker, all_mapped}
use Rattle.ee_desk_decide.proofs.Lemmas.{all_entries}
use Rattle.ee_desk_soundness.proofs.Lemmas.{get_all}
use Rattle.ee_desk_model.specs.Ranges.{BondFits}
use Rattle.ee_store_tables.specs.Rows.{BondRow}
use Rattle.ee_store_tables.proofs.Lemmas.Rows.{pair_total, pair_same}
use Rattle.ee_store_load.specs.Opening.{AreReadable}
use Rattle.ee_store_load.specs.Shown.{AreBonds, IsBond}
use Rattle.ee_store_rows.specs.Rows.{bond_row, key_of}
use Rattle.ee_store_books.specs.Standing.{rows_at, bond_rows, IsRight}
use Rattle.ee_store_books.proofs.Lemmas.Contents.{get_desk_row, reply_texts, right_bond_is_keyed}
use Rattle.ee_store_schema.specs.declared.forms.Form.{Form}
use Rattle.ee_store_schema.specs.Forms.{version_of}

both : (s : SerialNumber) (o : Option Bond) → IfSome o BondFits → IfSome o (λ bond. bond.serial ≡ s) → IfSome o (λ bond. BondFits bond × (bond.serial ≡ s))
both s None fits keyed = tt
both s (Some bond) fits keyed = (fits, keyed)

-- the rows of bonds show registered bonds
are_bonds : (books : PlainBooks) → ((s : SerialNumber) → IfSome (finite.get books.bonds s) (λ bond. BondFits bond × (bond.serial ≡ s))) → AreBonds (bond_rows books.bonds books.tickets)
are_bonds books fit k row found =
    let entry : SerialNumber × Bond → (ℕ × ℕ) × BondRow = λ e. (key_of e.0, bond_row (held_as books.tickets e.0 e.1)) in
    let each = all_entries serials_total serials_exact (λ s (bond : Bond). BondFits bond × (bond.serial ≡ s)) books.bonds fit in
    let own = all_mapped (λ (e : (ℕ × ℕ) × BondRow). IsBond (e.0, e.1)) entry (entries books.bonds)
    (all_weaker _ (λ e. IsBond (entry e)) (λ e h. (held_as books.tickets e.0 e.1, h.0, λ i. (key_of (sym h.1 i), bond_row (held_as books.tickets e.0 e.1)))) (entries books.bonds) each) in
    subst (λ o. IfSome o (λ row. IsBond (k, row))) found (get_all pair_total pair_same (λ k row. IsBond (k, row)) (map entry (entries books.bonds)) own k)

-- the rows of a content can be read
pub readable : (form : Form) (content : Content) → IsRight content → AreReadable form (rows_at (version_of form) content)
readable form content right = record {
  desk = (record { version = version_of form; day = content.books.day; last_day = content.books.last_day }, get_desk_row (version_of form) content.books.day content.books.last_day, refl);
  bonds = are_bonds content.books (λ s. both s (finite.get content.books.bonds s) (right.in_range.bonds s) (right_bond_is_keyed content.books.rates s _ (right.sound.bonds s)));
  texts = reply_texts content right;
}
