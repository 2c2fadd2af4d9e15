use Rattle.std.proofs.Common.{pos, [], ◌∷◌}
use Rattle.std.proofs.lemmas.Result.{IfOk-weaker}
use Rattle.sqlite.specs.declared.types.Value.TheVariants.{Int}
use Rattle.sqlite.specs.Held.{state}
use Rattle.ee_store_tables.proofs.Meaning.{find_rate_text, find_rate_plain}
use Rattle.ee_store_tables.proofs.CauseLemmas.{query_excused}
use Rattle.ee_store_tables.proofs.AskLemmas.{asks_find_rate}
use Rattle.ee_store_tables.proofs.KeepLemmas.{shown_open, only_queries}
use Rattle.ee_store_tables.proofs.FindLemmas.{finds_rate}
use Rattle.ee_store_tables.proofs.rates.rate_rows.Goals as goal

pub returns-clause-found : goal.returns-clause-found
returns-clause-found g c clean =
    let old = state g.S.Store c.args.tx.now.conn.now in
    let new = state g.S.Store c.query_all.new.self.conn.now in
    IfOk-weaker c.query_all.result _ _ (λ found shown rows sees. let it = sees (shown_open old new find_rate_text _ found.items shown) in finds_rate old new c.args.period rows.rates found.items it.0 it.1.rates shown) (rw (c.whole.ensures) at (c.query_all.ensures.ok clean))

pub returns-clause-only_queries : goal.returns-clause-only_queries
returns-clause-only_queries g c =
    let old = state g.S.Store c.args.tx.now.conn.now in
    let new = state g.S.Store c.query_all.new.self.conn.now in
    only_queries old new (λ rows. rows.items) find_rate_text (Int (pos c.args.period) ∷ []) _ find_rate_plain c.query_all.result (λ clean. rw (c.whole.ensures) at (c.query_all.ensures.ok clean))
    c.query_all.ensures.err c.query_all.ensures.survives

pub returns-clause-cause : goal.returns-clause-cause
returns-clause-cause g c clean inside endless =
    let old = state g.S.Store c.args.tx.now.conn.now in
    let new = state g.S.Store c.query_all.new.self.conn.now in
    query_excused find_rate_text (Int (pos c.args.period) ∷ []) (asks_find_rate c.args.period) old new inside endless c.query_all.result (rw (c.whole.ensures) at (c.query_all.ensures.err clean))
