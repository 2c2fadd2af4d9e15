use Rattle.std.proofs.Common.{rules, ◌≡◌, map, ap, ◌∙◌}
use Rattle.sqlite.specs.Held.{state}
use Rattle.ee_desk_model.specs.Queries.{bonds_of}
use Rattle.ee_store_tables.specs.AsRows.{unpaid_bond_of}
use Rattle.ee_store_tables.specs.Rows.{unpaid_of}
use Rattle.std.proofs.lemmas.Result.{IfOk-weaker}
use Rattle.ee_store_books.specs.Standing.{rows_of}
use Rattle.ee_store_books.proofs.Lemmas.Lookups.{always, statement_failed, memory_alone, unchanged_rows}
use Rattle.ee_store_queries.proofs.FoundBonds.{bonds_found, bonds_rows}
use Rattle.ee_store_queries.proofs.QueryCauses.{bonds_fit}
use Rattle.ee_store_queries.proofs.queries.bonds_in.Goals as goal

pub returns-clause-found : goal.returns-clause-found
returns-clause-found g c clean inside =
    let own : c.as_slice-own.result.now ≡ c.in_ok-rows.rows.items = search rules in
    IfOk-weaker c.bonds_shown.result _ _ (λ bonds are S sees.
    bonds_found S c.args.customer bonds.items c.as_slice-own.result.now sees.right are
    (own ∙ c.in_ok-rows.ensures.found clean (rows_of S) sees.rows ∙ ap (λ n. map unpaid_bond_of (unpaid_of (rows_of S) n)) c.number.ensures.value))
    c.bonds_shown.ensures.shown

pub returns-clause-rows : goal.returns-clause-rows
returns-clause-rows g c clean inside =
    always c.bonds_shown.result (λ rows sees. unchanged_rows (state g.S.Store c.args.tx.now.conn.now) (state g.S.Store c.bonds_of_owner.new.tx.conn.now) (c.in_ok-rows.ensures.only_queries.same clean inside) rows sees)

pub returns-in_err-rows-clause-cause : goal.returns-in_err-rows-clause-cause
returns-in_err-rows-clause-cause g c clean inside endless S sees _ =
    statement_failed (state g.S.Store c.args.tx.now.conn.now) (state g.S.Store c.bonds_of_owner.new.tx.conn.now) c.from_residual.result c.in_err-rows.field-0.0 c.from_residual.ensures.1
    (c.in_err-rows.ensures.cause clean inside endless (rows_of S) sees.rows tt)

pub returns-clause-cause : goal.returns-clause-cause
returns-clause-cause g c clean inside endless S sees _ =
    let own : c.as_slice-own.result.now ≡ c.in_ok-rows.rows.items = search rules in
    memory_alone (state g.S.Store c.args.tx.now.conn.now) (state g.S.Store c.bonds_of_owner.new.tx.conn.now) c.bonds_shown.result
    (c.bonds_shown.ensures.read (bonds_of S.books c.args.customer)
    (own ∙ c.in_ok-rows.ensures.found clean (rows_of S) sees.rows ∙ ap (λ n. map unpaid_bond_of (unpaid_of (rows_of S) n)) c.number.ensures.value ∙ bonds_rows S c.args.customer sees.right)
    (bonds_fit S c.args.customer sees.right))
