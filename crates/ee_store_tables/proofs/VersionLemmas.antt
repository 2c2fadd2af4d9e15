-- What setting the version does.
use Rattle.std.proofs.Common.{◌≡◌, ℕ, ℤ, pos, List, [], ◌∷◌, true, false, Some, None, Option, Ok, refl, sym, ap, subst, ◌∙◌, arith}
use Rattle.std.specs.Prelude.{option_map}
use Rattle.std.specs.Option.{option_to_list}
use Rattle.std.specs.FinMap.{get, insert}
use Rattle.sqlite.specs.declared.types.Value.TheVariants.{Null, Int}
use Rattle.sqlite.specs.Order.{Row}
use Rattle.sqlite.specs.Command.TheVariants.{Update}
use Rattle.sqlite.specs.Edit.{Edit, edit_of, edited}
use Rattle.sqlite_rules.specs.Edit.{is_taken, are_fresh, left_by}
use Rattle.sqlite_rules.specs.Calls.{ids_of}
use Rattle.sqlite.specs.Rowids.TheVariants.{Given}
use Rattle.sqlite.specs.Does.{Tally, Does}
use Rattle.sqlite.specs.Rows.{Written}
use Rattle.sqlite.specs.Tree.{Trees, without_rowid}
use Rattle.sqlite.specs.Effect.{Database, IsDatabase}
use Rattle.sqlite.specs.Query.{IsAnswer}
use Rattle.sqlite.specs.Program.{overlay}
use Rattle.sqlite.specs.Listing.{understood}
use Rattle.sqlite.specs.State.{State, mode_of, Executes}
use Rattle.sqlite.proofs.Callers.{statement_of}
use Rattle.ee_store_tables.specs.Tables.{desk, HasCounterTables, with_others, others_in}
use Rattle.ee_store_tables.specs.Keyed.{row_of, HoldsMap}
use Rattle.ee_store_tables.specs.Rows.{Rows, Holds, DeskRow, desk_columns, optional, with_version, with_version_of}
use Rattle.ee_store_tables.proofs.Meaning.{set_version_text, set_version_query, set_version_is, set_version_plain}
use Rattle.ee_store_tables.proofs.ReadLemmas.{found_by_number}
use Rattle.ee_store_tables.proofs.KeyedLemmas.{replaces_keyed}
use Rattle.ee_store_tables.proofs.WriteLemmas.{cast_int, cast_null, cast_optional, went, same_value, fresh_one, Same, with_desk}
use Rattle.ee_store_tables.proofs.OtherLemmas.{one_write, Follows, AllButOne, follows, same_ours}
use Rattle.ee_store_tables.proofs.OurLemmas.{runs_ours}

abbrev pub given_version : ℕ → Row
given_version version = Int (pos 1) ∷ Int (pos version) ∷ []

abbrev set_row : ℕ → ℕ × DeskRow → Row
set_row version e = Int (pos e.0) ∷ Int (pos e.0) ∷ Null ∷ Int (pos version) ∷ optional e.1.day ∷ optional e.1.last_day ∷ []

module _ (version : ℕ) (db : Trees) (rows : Rows) (stands : Holds db rows) (asked : List Row) (a : IsAnswer set_version_query (overlay db []) (given_version version) asked) where
  answered : asked ≡ option_to_list (option_map (λ d. set_row version (1, d)) (get rows.desk 1))
  answered = found_by_number desk_columns 0 set_version_query.project 1 (Int (pos version) ∷ []) (set_row version) (λ r e one. rw (one 0, one 3, one 4) refl) db rows.desk asked refl stands.desk a

  abbrev pub version_edit : List ℤ → List Row → Edit
  version_edit gone news = record { table = desk; gone = gone; news = news }

  abbrev pub version_row : DeskRow → Row
  version_row d = row_of desk_columns (pos 1, (1, record d { version = version }))

  -- what is written is nothing, or the desk's row
  pub version_none : get rows.desk 1 ≡ None → edit_of db desk (ids_of asked) Given 1 asked ≡ version_edit [] []
  version_none is = ap (λ all. edit_of db desk (ids_of all) Given 1 all) (answered ∙ ap (λ o. option_to_list (option_map (λ d. set_row version (1, d)) o)) is)

  pub version_one : (d : DeskRow) → get rows.desk 1 ≡ Some d → edit_of db desk (ids_of asked) Given 1 asked ≡ version_edit (pos 1 ∷ []) (version_row d ∷ [])
  version_one d is =
      ap (λ all. edit_of db desk (ids_of all) Given 1 all) (answered ∙ ap (λ o. option_to_list (option_map (λ d. set_row version (1, d)) o)) is)
      ∙ ap (version_edit (pos 1 ∷ [])) (rw (cast_null, cast_int 1, cast_int version, cast_optional d.day, cast_optional d.last_day) refl)

module _ (version : ℕ) (db new : Trees) (rows : Rows) (stands : Holds db rows) (same : Same 0 db new) (asked : List Row) (a : IsAnswer set_version_query (overlay db []) (given_version version) asked)
    (put : new 0 ≡ edited db (edit_of db desk (ids_of asked) Given 1 asked))
    (fresh : are_fresh (left_by db (edit_of db desk (ids_of asked) Given 1 asked)) (edit_of db desk (ids_of asked) Given 1 asked).news ≡ true) where
  version_holds : (o : Option DeskRow) → get rows.desk 1 ≡ o → Holds new (record rows { desk = with_version_of rows.desk version o })
  version_holds None is = with_desk db new rows stands rows.desk same (subst (λ rs. HoldsMap desk_columns rs rows.desk) (sym (put ∙ ap (edited db) (version_none version db rows stands asked a is))) stands.desk)
  version_holds (Some d) is =
      let next = record d { version = version } in
      let row = row_of desk_columns (pos 1, (1, next)) in
      let is_edit = version_one version db rows stands asked a d is in
      let free : is_taken (without_rowid (pos 1) (db 0)) row ≡ false = fresh_one _ (subst (λ (e : Edit). are_fresh (left_by db e) e.news ≡ true) is_edit fresh) in
      with_desk db new rows stands (insert rows.desk 1 next) same
      (subst (λ rs. HoldsMap desk_columns rs (insert rows.desk 1 next)) (sym (put ∙ ap (edited db) is_edit)) (replaces_keyed desk_columns 1 (db 0) rows.desk stands.desk d next is free))

pub sets_version : (old new : State) (version : ℕ) (count : ℕ) → HasCounterTables old.now.schema → Executes set_version_text (given_version version) old new (Ok count)
    → Follows old.now new.now × ((rows : Rows) → Holds old.now.trees rows → Holds new.now.trees (record rows { desk = with_version rows.desk version })) × IsDatabase new.now × Same 0 old.now.trees new.now.trees
sets_version old new version count has h =
    let params = given_version version in
    let db = old.now.trees in
    let command = Update 0 (record { lets = []; body = set_version_query }) in
    let w = runs_ours set_version_text params old new has command set_version_is set_version_plain count h in
    let text = statement_of set_version_text (understood (with_others (others_in old.now.schema)) set_version_text) in
    let done = went (subst (λ s. Does old.step_limit (mode_of old) params (record old.now { schema = s }) text None command (Ok (w.tally, new.now))) has.ours w.changed) in
    let now = ap (λ (p : Tally × Database). p.1) (same_value (went (went done.2).2).2) in
    let asked = went done.1 in
    let written = went asked.2 in
    let trees : done.0.trees ≡ written.0 = ap (λ (it : Written). it.trees) (same_value written.2) in
    let a : IsAnswer set_version_query (overlay db []) params asked.0 = asked.1.answer Null in
    let edit = edit_of db desk (ids_of asked.0) Given 1 asked.0 in
    let applied = one_write (others_in old.now.schema) has.others _ db written.0 edit written.1 in
    let after : new.now.trees ≡ written.0 = ap (λ (d : Database). d.trees) now ∙ trees in
    let put = ap (λ (trees : Trees). trees 0) after ∙ applied.rows in
    let kept : AllButOne (others_in old.now.schema) 0 db new.now.trees = subst (AllButOne (others_in old.now.schema) 0 db) (sym after) applied.tables in
    let same : Same 0 db new.now.trees = same_ours (others_in old.now.schema) 0 db new.now.trees kept in (
      follows old.now new.now has 0 (omega arith) (ap (λ (d : Database). d.schema) now) kept,
      λ rows stands. version_holds version db new.now.trees rows stands same asked.0 a put applied.fresh (get rows.desk 1) refl,
      w.sound,
      same,
    )
