use Rattle.sqlite.specs.Held.{state}
use Rattle.ee_store_schema.proofs.Lemmas.Forms.{tables_in, sees_tables}
use Rattle.ee_store_load.proofs.AskLemmas.{only_tickets}
use Rattle.ee_store_load.proofs.QuestionLemmas.{by_key, ticket_terms, asks_tickets}
use Rattle.ee_store_schema.proofs.Lemmas.Faults.{each_fault}
use Rattle.ee_store_load.proofs.ReadLemmas.{both_ok, each_ok}
use Rattle.ee_store_load.proofs.CanRead.{can_read_tickets}
use Rattle.ee_store_load.proofs.EachTable.{holds_tickets, listed_tickets}
use Rattle.ee_store_load.proofs.NeverLemmas.{never_tickets}
use Rattle.ee_store_load.proofs.tables.read_tickets.Goals as goal

pub read_table-requires : goal.read_table-requires
read_table-requires g c = only_tickets

pub returns-clause-found : goal.returns-clause-found
returns-clause-found g c clean ours sound =
    let old = state g.S.Store c.args.conn.now in
    both_ok c.read_table.result (λ found shows up.
    let it = shows (tables_in ours.0 old.now.schema) 5 ticket_terms by_key (asks_tickets ours.0 old.now.schema) (sees_tables ours.0 old ours.1) in
    holds_tickets ours.0 old.now (sound it.0) (ours.1 it.0) found.items it.1 up) (c.read_table.ensures.found clean) c.read_table.ensures.rises

pub returns-clause-listed : goal.returns-clause-listed
returns-clause-listed g c = each_ok c.read_table.result (λ found up. listed_tickets found.items up) c.read_table.ensures.rises

pub returns-clause-usable : goal.returns-clause-usable
returns-clause-usable g c clean =
    let old = state g.S.Store c.args.conn.now in
    each_fault c.read_table.result (λ e usable unusable ours is_open m holds. usable unusable (tables_in ours.0 old.now.schema) 5 ticket_terms by_key (asks_tickets ours.0 old.now.schema) (sees_tables ours.0 old ours.1) is_open (can_read_tickets old.now.trees m holds)) (c.read_table.ensures.usable clean)

pub returns-clause-cause : goal.returns-clause-cause
returns-clause-cause g c clean ours =
    let old = state g.S.Store c.args.conn.now in
    c.read_table.ensures.cause (tables_in ours.0 old.now.schema) (never_tickets ours.0 old.now.schema) clean (sees_tables ours.0 old ours.1)
