use Rattle.std.proofs.Common.{rules, ◌≡◌, sym, ap, ◌∙◌}
use Rattle.std.specs.Option.{option_map}
use Rattle.sqlite.specs.Held.{state}
use Rattle.ee_store_tables.specs.AsRows.{row_of_ticket}
use Rattle.ee_store_tables.proofs.Lemmas.Transactions.{clean_before, unchanged_inside, unchanged_sees}
use Rattle.ee_store_books.specs.Standing.{rows_of}
use Rattle.ee_store_books.proofs.Lemmas.Lookups.{excused_later, statement_failed, handed_on, memory_handed_on}
use Rattle.ee_store_queries.proofs.FoundTickets.{no_ticket, ticket_found}
use Rattle.ee_store_queries.proofs.QueryCauses.{ticket_fits}
use Rattle.ee_store_queries.proofs.queries.find_numbered.Goals as goal

pub returns-in_default-clause-found : goal.returns-in_default-clause-found
returns-in_default-clause-found g c clean inside S sees =
    no_ticket S c.args.number (sym (ap (option_map row_of_ticket) c.in_default.is) ∙ c.in_ok-row.ensures.found clean (rows_of S) sees.rows)

pub returns-clause-found : goal.returns-clause-found
returns-clause-found g c clean inside S sees =
    let old = state g.S.Store c.args.tx.now.conn.now in
    let middle = state g.S.Store c.find_ticket.new.tx.conn.now in
    let new = state g.S.Store c.ticket_lines.new.tx.conn.now in
    let before = clean_before middle new c.ticket_lines.ensures.only_queries.crash clean in
    let still = unchanged_sees old middle (rows_of S) (c.in_ok-row.ensures.only_queries.same before inside) sees.rows in
    let own : c.as_slice-rows.result.now ≡ c.in_ok-lines.lines.items = search rules in
    ticket_found S c.args.number c.in_ok-ticket.ticket (row_of_ticket c.in-Some.row) c.as_slice-rows.result.now sees.right
    (sym (ap (option_map row_of_ticket) c.in-Some.is) ∙ c.in_ok-row.ensures.found before (rows_of S) sees.rows)
    (own ∙ c.in_ok-lines.ensures.found clean (rows_of S) still) c.in_ok-ticket.ensures.ticket c.in_ok-ticket.ensures.lines

pub returns-in_err-row-clause-cause : goal.returns-in_err-row-clause-cause
returns-in_err-row-clause-cause g c clean inside endless S sees _ =
    statement_failed (state g.S.Store c.args.tx.now.conn.now) (state g.S.Store c.find_ticket.new.tx.conn.now) c.from_residual.result c.in_err-row.field-0.0 c.from_residual.ensures.1
    (c.in_err-row.ensures.cause clean inside endless (rows_of S) sees.rows tt)

pub returns-in_err-lines-clause-cause : goal.returns-in_err-lines-clause-cause
returns-in_err-lines-clause-cause g c clean inside endless S sees _ =
    let old = state g.S.Store c.args.tx.now.conn.now in
    let middle = state g.S.Store c.find_ticket.new.tx.conn.now in
    let new = state g.S.Store c.ticket_lines.new.tx.conn.now in
    let before = clean_before middle new c.ticket_lines.ensures.only_queries.crash clean in
    let same = c.in_ok-row.ensures.only_queries.same before inside in
    let why = c.in_err-lines.ensures.cause clean (unchanged_inside old middle same inside) (c.find_ticket.ensures.only_queries.crash.limit ∙ endless) (rows_of S) (unchanged_sees old middle (rows_of S) same sees.rows) tt in
    handed_on _ c.from_residual-in_err-lines.result _ c.from_residual-in_err-lines.ensures.1
    (excused_later old middle new clean c.find_ticket.ensures.only_queries.crash c.ticket_lines.ensures.only_queries.crash _ why)

pub returns-in_err-ticket-clause-cause : goal.returns-in_err-ticket-clause-cause
returns-in_err-ticket-clause-cause g c clean inside endless S sees _ =
    let old = state g.S.Store c.args.tx.now.conn.now in
    let middle = state g.S.Store c.find_ticket.new.tx.conn.now in
    let new = state g.S.Store c.ticket_lines.new.tx.conn.now in
    let before = clean_before middle new c.ticket_lines.ensures.only_queries.crash clean in
    let still = unchanged_sees old middle (rows_of S) (c.in_ok-row.ensures.only_queries.same before inside) sees.rows in
    let own : c.as_slice-rows.result.now ≡ c.in_ok-lines.lines.items = search rules in
    let fits = ticket_fits S c.args.number (row_of_ticket c.in-Some.row) c.as_slice-rows.result.now sees.right
    (sym (ap (option_map row_of_ticket) c.in-Some.is) ∙ c.in_ok-row.ensures.found before (rows_of S) sees.rows)
    (own ∙ c.in_ok-lines.ensures.found clean (rows_of S) still) in
    memory_handed_on old new c.from_residual-in_err-ticket.result c.in_err-ticket.field-0.0 c.from_residual-in_err-ticket.ensures.1 (c.in_err-ticket.ensures.read fits.0 fits.1 fits.2)

pub returns-clause-cause : goal.returns-clause-cause
returns-clause-cause g c = search rules

pub returns-clause-commit : goal.returns-clause-commit
returns-clause-commit g c = search rules

pub returns-clause-crash : goal.returns-clause-crash
returns-clause-crash g c = search rules

pub returns-clause-same_reference : goal.returns-clause-same_reference
returns-clause-same_reference g c = search rules

pub returns-in_default-clause-cause : goal.returns-in_default-clause-cause
returns-in_default-clause-cause g c = search rules

pub returns-in_default-clause-commit : goal.returns-in_default-clause-commit
returns-in_default-clause-commit g c = search rules

pub returns-in_default-clause-crash : goal.returns-in_default-clause-crash
returns-in_default-clause-crash g c = search rules

pub returns-in_default-clause-same_reference : goal.returns-in_default-clause-same_reference
returns-in_default-clause-same_reference g c = search rules

pub returns-in_err-lines-clause-commit : goal.returns-in_err-lines-clause-commit
returns-in_err-lines-clause-commit g c = search rules

pub returns-in_err-lines-clause-crash : goal.returns-in_err-lines-clause-crash
returns-in_err-lines-clause-crash g c = search rules

pub returns-in_err-lines-clause-found : goal.returns-in_err-lines-clause-found
returns-in_err-lines-clause-found g c = search rules

pub returns-in_err-lines-clause-same_reference : goal.returns-in_err-lines-clause-same_reference
returns-in_err-lines-clause-same_reference g c = search rules

pub returns-in_err-row-clause-commit : goal.returns-in_err-row-clause-commit
returns-in_err-row-clause-commit g c = search rules

pub returns-in_err-row-clause-crash : goal.returns-in_err-row-clause-crash
returns-in_err-row-clause-crash g c = search rules

pub returns-in_err-row-clause-found : goal.returns-in_err-row-clause-found
returns-in_err-row-clause-found g c = search rules

pub returns-in_err-row-clause-same_reference : goal.returns-in_err-row-clause-same_reference
returns-in_err-row-clause-same_reference g c = search rules

pub returns-in_err-ticket-clause-commit : goal.returns-in_err-ticket-clause-commit
returns-in_err-ticket-clause-commit g c = search rules

pub returns-in_err-ticket-clause-crash : goal.returns-in_err-ticket-clause-crash
returns-in_err-ticket-clause-crash g c = search rules

pub returns-in_err-ticket-clause-found : goal.returns-in_err-ticket-clause-found
returns-in_err-ticket-clause-found g c = search rules

pub returns-in_err-ticket-clause-same_reference : goal.returns-in_err-ticket-clause-same_reference
returns-in_err-ticket-clause-same_reference g c = search rules
