-- The desk's row, in tables that have no rows.
use Rattle.std.proofs.Common.{◌≡◌, ℕ, ℤ, pos, List, [], ◌∷◌, codes, None, Ok, refl, sym, ap, subst, ◌∙◌, arith, Ordering}
use Rattle.std.specs.Prelude.{IsPermutation}
use Rattle.std.specs.FinMap.{empty, insert}
use Rattle.std.specs.Ordering.{nat_cmp}
use Rattle.std.proofs.lemmas.List.Sorted.{IsPermutation-refl}
use Rattle.std.specs.List.{AllByRecursion}
use Rattle.sqlite.specs.declared.types.Value.TheVariants.{Null, Int}
use Rattle.sqlite.specs.Order.{Row}
use Rattle.sqlite.specs.Term.{Term, lit}
use Rattle.sqlite.specs.Source.TheVariants.{Values}
use Rattle.sqlite.specs.Command.TheVariants.{Insert}
use Rattle.sqlite.specs.Edit.{edit_of}
use Rattle.sqlite_rules.specs.Edit.{put_all, is_taken}
use Rattle.sqlite.specs.Rowids.TheVariants.{Chosen}
use Rattle.sqlite.specs.Does.{Tally, Does}
use Rattle.sqlite.specs.Rows.{Written}
use Rattle.sqlite.specs.Tree.{Trees}
use Rattle.sqlite.specs.Effect.{Database, IsDatabase}
use Rattle.sqlite.specs.Listing.{understood}
use Rattle.sqlite.specs.State.{State, mode_of, Executes}
use Rattle.sqlite_tied.specs.Compute.{everything}
use Rattle.sqlite.proofs.Callers.{IsPlain, command_of, statement_of, runs_as, one_step}
use Rattle.ee_store_tables.specs.Tables.{desk, counter_schema}
use Rattle.ee_store_tables.specs.Keyed.{pair_cmp, row_of, AreRows, HoldsTable, HoldsMap}
use Rattle.ee_store_tables.specs.Rows.{desk_columns, Holds}
use Rattle.ee_store_tables.proofs.Lemmas.Rows.{adds_keyed, cast_int, cast_null, went_on, same_ok}
use Rattle.ee_store_schema.specs.Making.{first_desk, first_rows}
use Rattle.ee_store_schema.proofs.Lemmas.Forms.{no_entries}

abbrev pub desk_row_text : List ℕ
desk_row_text = codes "INSERT INTO desk (id, version, day, last_day) VALUES (1, 2, NULL, NULL)"

abbrev pub terms : List Term
terms = lit (Int (pos 1)) ∷ lit Null ∷ lit (Int (pos 2)) ∷ lit Null ∷ lit Null ∷ []

pub desk_row_is : command_of (understood counter_schema desk_row_text) ≡ Insert 0 (Values terms 5)
unfolding understood everything
desk_row_is = refl

pub desk_row_plain : IsPlain (understood counter_schema desk_row_text)
unfolding understood everything
desk_row_plain = (refl, refl)

pub desk_row_whole : statement_of desk_row_text (understood counter_schema desk_row_text) ≡ desk_row_text
unfolding understood everything
desk_row_whole = refl

pub no_rows : {K X : Type 0} (R : K → K → Ordering) (row : ℤ × (K × X) → Row) (rows : List Row) → rows ≡ [] → HoldsTable row rows (empty {X = X} {R = R})
no_rows R row rows none = record {
  numbered = [];
  are = subst (λ rs. AreRows row rs []) (sym none) tt;
  apart = tt;
  same = subst (λ es. IsPermutation [] es) (sym (no_entries R)) (IsPermutation-refl []);
}

pub no_map : {X : Type 0} (columns : X → Row) (rows : List Row) → rows ≡ [] → HoldsMap columns rows empty
unfolding no_rows
no_map columns rows none = record { table = no_rows nat_cmp (row_of columns) rows none; keyed = tt }

pub adds_first : (old new : State) (count : ℕ) → old.now.schema ≡ counter_schema → AllByRecursion (λ t. old.now.trees t.tree ≡ []) counter_schema.tables → Executes desk_row_text [] old new (Ok count)
    → (new.now.schema ≡ counter_schema) × Holds new.now.trees first_rows
adds_first old new count has none h =
    let db = old.now.trees in
    let command = Insert 0 (Values terms 5) in
    let w = runs_as desk_row_text [] old new counter_schema has command desk_row_is desk_row_plain count h in
    let text = statement_of desk_row_text (understood counter_schema desk_row_text) in
    let done = went_on (subst (λ s. Does old.step_limit (mode_of old) [] (record old.now { schema = s }) text None command (Ok (w.tally, new.now))) has w.changed) in
    let now = ap (λ (p : Tally × Database). p.1) (same_ok (went_on (went_on done.2).2).2) in
    let given_rows = went_on done.1 in
    let written = went_on (went_on given_rows.2).2 in
    let counted = went_on written.2 in
    let trees : done.0.trees ≡ written.0 = ap (λ (it : Written). it.trees) (same_ok counted.2) ∙ same_ok counted.1 in
    let edit = edit_of db desk [] Chosen 0 given_rows.0 in
    let applied = one_step counter_schema _ db written.0 edit refl written.1 in
    let row = row_of desk_columns (pos 1, (1, first_desk)) in
    let news : edit.news ≡ row ∷ [] = ap (λ all. (edit_of db desk [] Chosen 0 all).news) given_rows.1.1 ∙ rw (cast_null, cast_int 1, cast_int 2) refl in
    let after : new.now.trees ≡ written.0 = ap (λ (d : Database). d.trees) now ∙ trees in
    let at : (t : ℕ) → new.now.trees t ≡ written.0 t = λ t. ap (λ (trees : Trees). trees t) after in (
      ap (λ (d : Database). d.schema) now,
      record {
        desk = subst (λ rs. HoldsMap desk_columns rs (insert empty 1 first_desk)) (sym (at 0 ∙ applied.rows ∙ ap (put_all (db 0)) news))
            (adds_keyed desk_columns 1 (db 0) empty (no_map desk_columns (db 0) none.0) first_desk (ap (λ rs. is_taken rs row) none.0));
        rates = no_map _ (new.now.trees 1) (at 1 ∙ applied.tables.1.0 (λ e. omega (arith, e)) ∙ none.1.0);
        bonds = no_rows pair_cmp _ (new.now.trees 2) (at 2 ∙ applied.tables.1.1.0 (λ e. omega (arith, e)) ∙ none.1.1.0);
        tickets = no_map _ (new.now.trees 5) (at 5 ∙ applied.tables.1.1.1.0 (λ e. omega (arith, e)) ∙ none.1.1.1.0);
        paid = no_rows pair_cmp _ (new.now.trees 7) (at 7 ∙ applied.tables.1.1.1.1.0 (λ e. omega (arith, e)) ∙ none.1.1.1.1.0);
        batches = no_map _ (new.now.trees 10) (at 10 ∙ applied.tables.1.1.1.1.1.0 (λ e. omega (arith, e)) ∙ none.1.1.1.1.1.0);
        extensions = no_map _ (new.now.trees 12) (at 12 ∙ applied.tables.1.1.1.1.1.1.0 (λ e. omega (arith, e)) ∙ none.1.1.1.1.1.1.0);
        answers = no_rows pair_cmp _ (new.now.trees 13) (at 13 ∙ applied.tables.1.1.1.1.1.1.1.0 (λ e. omega (arith, e)) ∙ none.1.1.1.1.1.1.1.0);
      },
    )

-- what it leaves obeys the tables
pub first_sound : (old new : State) (count : ℕ) → old.now.schema ≡ counter_schema → Executes desk_row_text [] old new (Ok count) → IsDatabase new.now
first_sound old new count has h = (runs_as desk_row_text [] old new counter_schema has (Insert 0 (Values terms 5)) desk_row_is desk_row_plain count h).sound
