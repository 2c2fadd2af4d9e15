use Rattle.std.proofs.Common.{◌+◌, length, map, ◌∙◌, subst, arith}
use Rattle.std.proofs.lemmas.Result.{on_ok_weaker}
use Rattle.std.specs.FinMap.{empty}
use Rattle.sqlite.specs.Held.{state}
use Rattle.ee_store_tables.specs.Rows.{Sees}
use Rattle.ee_store_tables.specs.Statements.{IsExcused}
use Rattle.ee_store_tables.proofs.Lemmas.Transactions.{clean_before}
use Rattle.ee_store_schema.specs.Migrating.{answer_entry, migrated}
use Rattle.ee_store_schema.specs.Inner.Migrating.{unanswered, copied}
use Rattle.ee_store_schema.proofs.Lemmas.Causes.{then_survives}
use Rattle.ee_store_schema.proofs.Lemmas.Faults.{each_fault}
use Rattle.ee_store_schema.proofs.CopyLemmas.{copied_all, can_add_all, all_have_place}
use Rattle.ee_store_schema.proofs.MigrateLemmas.{same_place, passed_on, failure_then, for_each_ok}
use Rattle.ee_store_schema.proofs.migrating.migrate_in.Goals as goal

pub returns-clause-made : goal.returns-clause-made
returns-clause-made g c clean =
    let first = state g.S.Store c.replace_tables.new.tx.conn.now in
    let second = state g.S.Store c.add_answers.new.tx.conn.now in
    let new = state g.S.Store c.set_version.new.tx.conn.now in
    let clean_2 = clean_before second new c.set_version.ensures.crash clean in
    let clean_1 = clean_before first second c.add_answers.ensures.crash clean_2 in
    let all = map answer_entry c.args.answers.now in
    on_ok_weaker c.set_version.result (λ set rows sees listed.
    let bare = c.in_ok-replace_tables.ensures.made clean_1 rows sees in
    let done = set (record rows { answers = copied empty all }) (c.in_ok-add_answers.ensures.added clean_2 (unanswered rows) bare) in
    subst (λ answers. Sees new (record (migrated rows) { answers = answers })) (copied_all c.args.answers.now rows listed) done) (c.set_version.ensures.set clean)

pub returns-clause-inside : goal.returns-clause-inside
returns-clause-inside g c clean =
    let first = state g.S.Store c.replace_tables.new.tx.conn.now in
    let second = state g.S.Store c.add_answers.new.tx.conn.now in
    let new = state g.S.Store c.set_version.new.tx.conn.now in
    let clean_2 = clean_before second new c.set_version.ensures.crash clean in
    let clean_1 = clean_before first second c.add_answers.ensures.crash clean_2 in
    for_each_ok _ c.set_version.result (λ begun. c.set_version.ensures.inside clean (c.in_ok-add_answers.ensures.inside clean_2 (c.in_ok-replace_tables.ensures.inside clean_1 begun)))

pub returns-clause-room : goal.returns-clause-room
returns-clause-room g c clean =
    let first = state g.S.Store c.replace_tables.new.tx.conn.now in
    let second = state g.S.Store c.add_answers.new.tx.conn.now in
    let new = state g.S.Store c.set_version.new.tx.conn.now in
    let clean_2 = clean_before second new c.set_version.ensures.crash clean in
    let clean_1 = clean_before first second c.add_answers.ensures.crash clean_2 in
    let all = c.args.answers.now in
    let one = c.in_ok-replace_tables.ensures in
    let two = c.in_ok-add_answers.ensures in
    for_each_ok _ c.set_version.result (λ rows. for_each_ok _ c.set_version.result (λ sees. for_each_ok _ c.set_version.result (λ had.
    let inside = one.inside clean_1 ((λ o. (sees o).0), had) in
    let bare = one.made clean_1 rows sees in
    on_ok_weaker c.set_version.result (λ kept n few most.
    kept (record rows { answers = copied empty (map answer_entry all) }) (two.added clean_2 (unanswered rows) bare) n
    (two.room clean_2 inside (unanswered rows) bare n (one.room clean_1 (λ o. (sees o).0) (n + length all) few most)))
    (c.set_version.ensures.room clean (two.inside clean_2 inside)))))

pub returns-in_err-add_answers-clause-cause : goal.returns-in_err-add_answers-clause-cause
returns-in_err-add_answers-clause-cause g c clean starts limit =
    let old = state g.S.Store c.args.tx.now.conn.now in
    let first = state g.S.Store c.replace_tables.new.tx.conn.now in
    let new = state g.S.Store c.add_answers.new.tx.conn.now in
    let before = clean_before first new c.add_answers.ensures.crash clean in
    let all = c.args.answers.now in
    let rows = starts.1 in
    let it = c.in_ok-replace_tables.ensures in
    let place = it.place before (λ o. (starts.2 o).0) (length all) (all_have_place all rows starts.4 starts.5) in
    passed_on (IsExcused old new) c.from_residual-in_err-add_answers.result c.in_err-add_answers.field-0.0 c.from_residual-in_err-add_answers.ensures.1
    (failure_then old first new c.replace_tables.ensures.crash c.add_answers.ensures.crash clean c.in_err-add_answers.field-0.0
    (c.in_err-add_answers.ensures.cause clean (it.inside before ((λ o. (starts.2 o).0), starts.3), unanswered rows, it.made before rows starts.2, can_add_all all rows starts.4 starts.5, place) (c.replace_tables.ensures.crash.limit ∙ limit)))

pub returns-clause-cause : goal.returns-clause-cause
returns-clause-cause g c clean starts limit =
    let old = state g.S.Store c.args.tx.now.conn.now in
    let first = state g.S.Store c.replace_tables.new.tx.conn.now in
    let second = state g.S.Store c.add_answers.new.tx.conn.now in
    let new = state g.S.Store c.set_version.new.tx.conn.now in
    let clean_2 = clean_before second new c.set_version.ensures.crash clean in
    let clean_1 = clean_before first second c.add_answers.ensures.crash clean_2 in
    let all = c.args.answers.now in
    let rows = starts.1 in
    let one = c.in_ok-replace_tables.ensures in
    let two = c.in_ok-add_answers.ensures in
    let inside = one.inside clean_1 ((λ o. (starts.2 o).0), starts.3) in
    let place_1 = one.place clean_1 (λ o. (starts.2 o).0) (length all) (all_have_place all rows starts.4 starts.5) in
    let place_2 = two.place clean_2 inside 0 (same_place (length all) (0 + length all) first (omega arith) place_1) in
    let survives = then_survives old first second c.replace_tables.ensures.crash c.add_answers.ensures.crash in
    let sees = two.added clean_2 (unanswered rows) (one.made clean_1 rows starts.2) in
    each_fault c.set_version.result (failure_then old second new survives c.set_version.ensures.crash clean)
    (c.set_version.ensures.cause clean (two.inside clean_2 inside) (survives.limit ∙ limit) (record rows { answers = copied empty (map answer_entry all) }) sees (λ o. (place_2 o).0))
