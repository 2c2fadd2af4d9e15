use Rattle.std.proofs.Common.{pos, [], ◌∷◌}
use Rattle.std.proofs.lemmas.Result.{IfOk-weaker}
use Rattle.sqlite.specs.declared.types.Value.TheVariants.{Int}
use Rattle.sqlite.specs.Held.{state}
use Rattle.ee_store_tables.proofs.Meaning.{ticket_lines_text, ticket_lines_plain}
use Rattle.ee_store_tables.proofs.CauseLemmas.{query_excused}
use Rattle.ee_store_tables.proofs.AskLemmas.{asks_ticket_lines}
use Rattle.ee_store_tables.proofs.KeepLemmas.{shown_open, only_queries}
use Rattle.ee_store_tables.proofs.ShowLemmas.{finds_lines}
use Rattle.ee_store_tables.proofs.lines.line_rows.Goals as goal

pub returns-clause-found : goal.returns-clause-found
returns-clause-found g c clean =
    let old = state g.S.Store c.args.tx.now.conn.now in
    let new = state g.S.Store c.query_all.new.self.conn.now in
    IfOk-weaker c.query_all.result _ _ (λ found shown rows sees. let it = sees (shown_open old new ticket_lines_text _ found.items shown) in finds_lines c.args.ticket old new rows.paid found.items it.0 it.1.paid shown) (rw (c.whole.ensures) at (c.query_all.ensures.ok clean))

pub returns-clause-only_queries : goal.returns-clause-only_queries
returns-clause-only_queries g c =
    let old = state g.S.Store c.args.tx.now.conn.now in
    let new = state g.S.Store c.query_all.new.self.conn.now in
    only_queries old new (λ rows. rows.items) ticket_lines_text (Int (pos c.args.ticket) ∷ []) _ ticket_lines_plain c.query_all.result (λ clean. rw (c.whole.ensures) at (c.query_all.ensures.ok clean))
    c.query_all.ensures.err c.query_all.ensures.survives

pub returns-clause-cause : goal.returns-clause-cause
returns-clause-cause g c clean inside endless =
    let old = state g.S.Store c.args.tx.now.conn.now in
    let new = state g.S.Store c.query_all.new.self.conn.now in
    query_excused ticket_lines_text (Int (pos c.args.ticket) ∷ []) (asks_ticket_lines c.args.ticket) old new inside endless c.query_all.result (rw (c.whole.ensures) at (c.query_all.ensures.err clean))
