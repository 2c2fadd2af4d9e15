-- A store that is only read, and has tables of some form.
use Rattle.std.proofs.Common.{◌≡◌, ◌≢◌, ◌⊎◌, inl, inr, List, [], IsTrue, T, length, refl, sym, ap, subst, ◌∙◌, nat_cmp}
use Rattle.std.specs.FinMap.{FinMap, empty, empty_of_len, entries-from_sorted, entries_sorted, is_sorted, len-entries}
use Rattle.sqlite.specs.Effect.{Database}
use Rattle.sqlite.specs.Tree.{Trees}
use Rattle.sqlite.specs.State.{State, IsLive, IsUnchanged}
use Rattle.ee_store_tables.specs.Keyed.{pair_cmp, HoldsMap}
use Rattle.ee_store_tables.specs.Rows.{Rows, ReplyRow, rate_columns}
use Rattle.ee_store_schema.specs.declared.forms.Form.{Form}
use Rattle.ee_store_schema.specs.declared.forms.Form.TheVariants.{Current, First, Earliest}
use Rattle.ee_store_schema.specs.Forms.{IsIn, HoldsIn, HasForm, HadIn}
use Rattle.ee_store_schema.specs.Inner.Forms.{SeesForm, SeesIn}
use Rattle.ee_store_load.specs.Inner.Reading.{IsSoundNow}
use Rattle.ee_store_load.specs.declared.entries.StoredRate.{StoredRate}
use Rattle.ee_store_load.specs.declared.whole.AllRows.{AllRows}
use Rattle.ee_store_load.specs.Shown.{desk_map, rate_map, bond_map, ticket_map, line_map, batch_map, answer_map}
use Rattle.ee_store_load.specs.Whole.{rows_with, AreInOrder}
use Rattle.ee_store_load.specs.Inner.Whole.{ListsAll, HoldsKept, HoldsExtensions}
use Rattle.ee_store_schema.proofs.Lemmas.Forms.{HoldsCommon, had_form}
use Rattle.ee_store_load.proofs.OneLemmas.{one_rows}

pub sound_now : (old : State) → IsLive old → IsSoundNow old
sound_now old live is_open = (live is_open).0

module _ (form : Form) (old : State) (settled : IsTrue old.is_open → old.now ≡ old.committed) where
  pub has_ours : HasForm form old → SeesForm form old
  has_ours ours is_open = subst (λ (d : Database). IsIn form d.schema) (sym (settled is_open)) (ours is_open)

  pub sees_what_it_has : (rows : Rows) → HadIn form old rows → SeesIn form old rows
  sees_what_it_has rows has is_open = (has_ours (had_form form old rows has) is_open, subst (λ (d : Database). HoldsIn form d.trees rows) (sym (settled is_open)) (has is_open).1)

  -- the rows that were read are those that the store has
  pub are_those : (all rows : Rows) → HoldsIn form old.now.trees all → HadIn form old rows → IsTrue old.is_open → all ≡ rows
  are_those all rows holds has is_open = one_rows form old.now.trees all rows holds (sees_what_it_has rows has is_open).1

  pub has_read : (new : State) → IsUnchanged old new → (rows : Rows) → HasForm form old → HoldsIn form old.now.trees rows → HadIn form new rows
  has_read new same rows ours holds is_open = (
    subst (λ (d : Database). IsIn form d.schema) (sym same.0.committed_is) (ours same.0.was_open),
    subst (λ (d : Database). HoldsIn form d.trees rows) (settled same.0.was_open ∙ sym same.0.committed_is) holds,
  )

-- ---- all rows together

no_rates : rate_map [] ≡ empty
no_rates = empty_of_len (rate_map []) (len-entries (rate_map []) ∙ ap length (entries-from_sorted nat_cmp [] tt))

pub holds_all : (form : Form) (db : Trees) (all : AllRows) (kept : FinMap pair_cmp ReplyRow) → HoldsCommon db (rows_with kept all) → HoldsKept form db kept → HoldsExtensions form db all.extensions.items
    → HoldsIn form db (rows_with kept all)
holds_all Current db all kept h answers extensions = record {
  desk = h.desk;
  rates = h.rates;
  bonds = h.bonds;
  tickets = h.tickets;
  paid = h.paid;
  batches = h.batches;
  extensions = extensions;
  answers = answers;
}
holds_all First db all kept h answers extensions = record {
  desk = h.desk;
  rates = h.rates;
  bonds = h.bonds;
  tickets = h.tickets;
  paid = h.paid;
  batches = h.batches;
  answers = answers;
  extensions = extensions;
}
holds_all Earliest db all kept h answers none = record {
  desk = h.desk;
  rates = h.rates;
  bonds = h.bonds;
  tickets = h.tickets;
  paid = h.paid;
  batches = h.batches;
  answers = answers;
  none = ap rate_map none ∙ no_rates;
}

-- what a table of replies holds is held in each form
pub holds_kept : (form : Form) (db : Trees) (rows : Rows) → HoldsIn form db rows → HoldsKept form db rows.answers
holds_kept Current db rows h = h.answers
holds_kept First db rows h = h.answers
holds_kept Earliest db rows h = h.answers

-- two forms have a table of extensions
pub is_later : (form : Form) → (form ≡ Current) ⊎ (form ≡ First) → form ≢ Earliest
is_later form (inl current) earliest = let e = sym current ∙ earliest in cc
is_later form (inr first) earliest = let e = sym first ∙ earliest in cc

pub extended_held : (form : Form) (db : Trees) (all : List StoredRate) → form ≢ Earliest → HoldsMap rate_columns (db 12) (rate_map all) → HoldsExtensions form db all
extended_held Current db all later held = held
extended_held First db all later held = held
extended_held Earliest db all later held = absurd (later refl)

pub holds_extended : (form : Form) (db : Trees) (rows : Rows) → form ≢ Earliest → HoldsIn form db rows → HoldsMap rate_columns (db 12) rows.extensions
holds_extended Current db rows later held = held.extensions
holds_extended First db rows later held = held.extensions
holds_extended Earliest db rows later held = absurd (later refl)

-- entries of maps are in order
pub are_in_order : (all : AllRows) → ListsAll all → AreInOrder all
are_in_order all lists = record {
  desk = subst (λ es. T (is_sorted nat_cmp es)) lists.desk (entries_sorted (desk_map all.desk.items));
  rates = subst (λ es. T (is_sorted nat_cmp es)) lists.rates (entries_sorted (rate_map all.rates.items));
  bonds = subst (λ es. T (is_sorted pair_cmp es)) lists.bonds (entries_sorted (bond_map all.bonds.items));
  tickets = subst (λ es. T (is_sorted nat_cmp es)) lists.tickets (entries_sorted (ticket_map all.tickets.items));
  lines = subst (λ es. T (is_sorted pair_cmp es)) lists.lines (entries_sorted (line_map all.lines.items));
  batches = subst (λ es. T (is_sorted nat_cmp es)) lists.batches (entries_sorted (batch_map all.batches.items));
  extensions = subst (λ es. T (is_sorted nat_cmp es)) lists.extensions (entries_sorted (rate_map all.extensions.items));
  earlier = subst (λ es. T (is_sorted pair_cmp es)) lists.earlier (entries_sorted (answer_map all.replies.earlier.items));
}
