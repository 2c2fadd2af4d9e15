use Rattle.std.proofs.Common.{◌≡◌, [], map, refl, sym, subst}
use Rattle.std.specs.FinMap.{entries}
use Rattle.sqlite.specs.Held.{state}
use Rattle.ee_store_schema.proofs.Lemmas.Forms.{tables_in, sees_tables}
use Rattle.ee_store_schema.proofs.Lemmas.Faults.{each_fault}
use Rattle.ee_store_load.specs.Shown.{rate_map, rate_entry}
use Rattle.ee_store_load.proofs.AskLemmas.{only_extensions}
use Rattle.ee_store_load.proofs.CanRead.{can_read_extensions}
use Rattle.ee_store_load.proofs.EachTable.{holds_extensions, listed_rates}
use Rattle.ee_store_load.proofs.NeverLemmas.{never_extensions}
use Rattle.ee_store_load.proofs.QuestionLemmas.{by_key, rate_terms, asks_extensions}
use Rattle.ee_store_load.proofs.ReadLemmas.{both_ok, each_ok}
use Rattle.ee_store_load.proofs.WholeLemmas.{is_later, holds_extended, extended_held}
use Rattle.ee_store_load.proofs.tables.read_extensions.Goals as goal

pub read_table-requires : goal.read_table-requires
read_table-requires g c = only_extensions

pub returns-in-Current-clause-found : goal.returns-in-Current-clause-found
returns-in-Current-clause-found g c clean ours sound =
    let old = state g.S.Store c.args.conn.now in
    let form = c.args.form in
    let later = is_later form c.in-Current.is in
    both_ok c.read_table.result (λ found shows up.
    let it = shows (tables_in form old.now.schema) 12 rate_terms by_key (asks_extensions form old.now.schema later) (sees_tables form old ours) in
    extended_held form old.now.trees found.items later (holds_extensions form later old.now (sound it.0) (ours it.0) found.items it.1 up)) (c.read_table.ensures.found clean) c.read_table.ensures.rises

pub returns-in-Current-clause-listed : goal.returns-in-Current-clause-listed
returns-in-Current-clause-listed g c = each_ok c.read_table.result (λ found up. listed_rates found.items up) c.read_table.ensures.rises

pub returns-in-Earliest-clause-listed : goal.returns-in-Earliest-clause-listed
returns-in-Earliest-clause-listed g c = subst (λ all. entries (rate_map all) ≡ map rate_entry all) (sym c.new.ensures.items) (listed_rates [] refl)

pub returns-in-Current-clause-usable : goal.returns-in-Current-clause-usable
returns-in-Current-clause-usable g c clean =
    let old = state g.S.Store c.args.conn.now in
    let form = c.args.form in
    let later = is_later form c.in-Current.is in
    each_fault c.read_table.result (λ e usable unusable ours is_open rows holds.
    usable unusable (tables_in form old.now.schema) 12 rate_terms by_key (asks_extensions form old.now.schema later) (sees_tables form old ours) is_open (can_read_extensions old.now.trees rows.extensions (holds_extended form old.now.trees rows later holds)))
    (c.read_table.ensures.usable clean)

pub returns-in-Current-clause-cause : goal.returns-in-Current-clause-cause
returns-in-Current-clause-cause g c clean ours =
    let old = state g.S.Store c.args.conn.now in
    let form = c.args.form in
    let later = is_later form c.in-Current.is in
    c.read_table.ensures.cause (tables_in form old.now.schema) (never_extensions form old.now.schema later) clean (sees_tables form old ours)
