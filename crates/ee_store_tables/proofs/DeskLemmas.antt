-- What setting the day does.
use Rattle.std.proofs.Common.{◌≡◌, ℕ, ℤ, pos, List, [], ◌∷◌, true, false, Some, None, Option, Ok, refl, sym, ap, subst, ◌∙◌, arith}
use Rattle.std.specs.Prelude.{option_map}
use Rattle.std.specs.Option.{option_to_list}
use Rattle.std.specs.FinMap.{get, insert}
use Rattle.sqlite.specs.declared.types.Value.TheVariants.{Null, Int}
use Rattle.sqlite.specs.Order.{Row}
use Rattle.sqlite.specs.Command.TheVariants.{Update}
use Rattle.sqlite.specs.Edit.{Edit, edit_of, edited}
use Rattle.sqlite_rules.specs.Edit.{is_taken, are_fresh, left_by}
use Rattle.sqlite_rules.specs.Calls.{ids_of}
use Rattle.sqlite.specs.Rowids.TheVariants.{Given}
use Rattle.sqlite.specs.Does.{Tally, Does}
use Rattle.sqlite.specs.Rows.{Written}
use Rattle.sqlite.specs.Tree.{Trees, without_rowid}
use Rattle.sqlite.specs.Effect.{Database, IsDatabase}
use Rattle.sqlite.specs.Query.{IsAnswer}
use Rattle.sqlite.specs.Program.{overlay}
use Rattle.sqlite.specs.Listing.{understood}
use Rattle.sqlite.specs.State.{State, mode_of, Executes}
use Rattle.sqlite.proofs.Callers.{statement_of}
use Rattle.ee_store_tables.specs.Tables.{desk, HasCounterTables, with_others, others_in}
use Rattle.ee_store_tables.specs.Keyed.{row_of, HoldsMap}
use Rattle.ee_store_tables.specs.Rows.{Rows, Holds, DeskRow, desk_columns, optional, with_day, day_set}
use Rattle.ee_store_tables.proofs.Meaning.{set_day_text, set_day_query, set_day_is, set_day_plain}
use Rattle.ee_store_tables.proofs.ReadLemmas.{found_by_number}
use Rattle.ee_store_tables.proofs.KeyedLemmas.{replaces_keyed}
use Rattle.ee_store_tables.proofs.WriteLemmas.{cast_int, cast_null, cast_optional, went, same_value, fresh_one, Same, with_desk}
use Rattle.ee_store_tables.proofs.OtherLemmas.{one_write, Follows, AllButOne, follows, same_ours}
use Rattle.ee_store_tables.proofs.OurLemmas.{runs_ours}

abbrev pub given_days : Option ℕ → Option ℕ → Row
given_days day last_day = Int (pos 1) ∷ optional day ∷ optional last_day ∷ []

abbrev set_row : Option ℕ → Option ℕ → ℕ × DeskRow → Row
set_row day last_day e = Int (pos e.0) ∷ Int (pos e.0) ∷ Null ∷ Int (pos e.1.version) ∷ optional day ∷ optional last_day ∷ []

module _ (day last_day : Option ℕ) (db : Trees) (rows : Rows) (stands : Holds db rows) (asked : List Row) (a : IsAnswer set_day_query (overlay db []) (given_days day last_day) asked) where
  answered : asked ≡ option_to_list (option_map (λ d. set_row day last_day (1, d)) (get rows.desk 1))
  answered = found_by_number desk_columns 0 set_day_query.project 1 (optional day ∷ optional last_day ∷ []) (set_row day last_day) (λ r e one. rw (one 0, one 2) refl) db rows.desk asked refl stands.desk a

  abbrev pub day_edit : List ℤ → List Row → Edit
  day_edit gone news = record { table = desk; gone = gone; news = news }

  abbrev pub day_row : DeskRow → Row
  day_row d = row_of desk_columns (pos 1, (1, record d { day = day; last_day = last_day }))

  -- what is written is nothing, or the desk's row
  pub sets_none : get rows.desk 1 ≡ None → edit_of db desk (ids_of asked) Given 1 asked ≡ day_edit [] []
  sets_none is = ap (λ all. edit_of db desk (ids_of all) Given 1 all) (answered ∙ ap (λ o. option_to_list (option_map (λ d. set_row day last_day (1, d)) o)) is)

  pub sets_one : (d : DeskRow) → get rows.desk 1 ≡ Some d → edit_of db desk (ids_of asked) Given 1 asked ≡ day_edit (pos 1 ∷ []) (day_row d ∷ [])
  sets_one d is =
      ap (λ all. edit_of db desk (ids_of all) Given 1 all) (answered ∙ ap (λ o. option_to_list (option_map (λ d. set_row day last_day (1, d)) o)) is)
      ∙ ap (day_edit (pos 1 ∷ [])) (rw (cast_null, cast_int 1, cast_int d.version, cast_optional day, cast_optional last_day) refl)

module _ (day last_day : Option ℕ) (db new : Trees) (rows : Rows) (stands : Holds db rows) (same : Same 0 db new) (asked : List Row) (a : IsAnswer set_day_query (overlay db []) (given_days day last_day) asked)
    (put : new 0 ≡ edited db (edit_of db desk (ids_of asked) Given 1 asked))
    (fresh : are_fresh (left_by db (edit_of db desk (ids_of asked) Given 1 asked)) (edit_of db desk (ids_of asked) Given 1 asked).news ≡ true) where
  pub day_holds : (o : Option DeskRow) → get rows.desk 1 ≡ o → Holds new (day_set rows day last_day o)
  day_holds None is = with_desk db new rows stands rows.desk same (subst (λ rs. HoldsMap desk_columns rs rows.desk) (sym (put ∙ ap (edited db) (sets_none day last_day db rows stands asked a is))) stands.desk)
  day_holds (Some d) is =
      let next = record d { day = day; last_day = last_day } in
      let row = row_of desk_columns (pos 1, (1, next)) in
      let is_edit = sets_one day last_day db rows stands asked a d is in
      let free : is_taken (without_rowid (pos 1) (db 0)) row ≡ false = fresh_one _ (subst (λ (e : Edit). are_fresh (left_by db e) e.news ≡ true) is_edit fresh) in
      with_desk db new rows stands (insert rows.desk 1 next) same
      (subst (λ rs. HoldsMap desk_columns rs (insert rows.desk 1 next)) (sym (put ∙ ap (edited db) is_edit)) (replaces_keyed desk_columns 1 (db 0) rows.desk stands.desk d next is free))

pub sets_day : (old new : State) (day last_day : Option ℕ) (count : ℕ) → HasCounterTables old.now.schema → Executes set_day_text (given_days day last_day) old new (Ok count)
    → Follows old.now new.now × ((rows : Rows) → Holds old.now.trees rows → Holds new.now.trees (with_day rows day last_day)) × IsDatabase new.now × Same 0 old.now.trees new.now.trees
sets_day old new day last_day count has h =
    let params = given_days day last_day in
    let db = old.now.trees in
    let command = Update 0 (record { lets = []; body = set_day_query }) in
    let w = runs_ours set_day_text params old new has command set_day_is set_day_plain count h in
    let text = statement_of set_day_text (understood (with_others (others_in old.now.schema)) set_day_text) in
    let done = went (subst (λ s. Does old.step_limit (mode_of old) params (record old.now { schema = s }) text None command (Ok (w.tally, new.now))) has.ours w.changed) in
    let now = ap (λ (p : Tally × Database). p.1) (same_value (went (went done.2).2).2) in
    let asked = went done.1 in
    let written = went asked.2 in
    let trees : done.0.trees ≡ written.0 = ap (λ (it : Written). it.trees) (same_value written.2) in
    let a : IsAnswer set_day_query (overlay db []) params asked.0 = asked.1.answer Null in
    let edit = edit_of db desk (ids_of asked.0) Given 1 asked.0 in
    let applied = one_write (others_in old.now.schema) has.others _ db written.0 edit written.1 in
    let after : new.now.trees ≡ written.0 = ap (λ (d : Database). d.trees) now ∙ trees in
    let put = ap (λ (trees : Trees). trees 0) after ∙ applied.rows in
    let kept : AllButOne (others_in old.now.schema) 0 db new.now.trees = subst (AllButOne (others_in old.now.schema) 0 db) (sym after) applied.tables in
    let same : Same 0 db new.now.trees = same_ours (others_in old.now.schema) 0 db new.now.trees kept in (
      follows old.now new.now has 0 (omega arith) (ap (λ (d : Database). d.schema) now) kept,
      λ rows stands. day_holds day last_day db new.now.trees rows stands same asked.0 a put applied.fresh (get rows.desk 1) refl,
      w.sound,
      same,
    )
