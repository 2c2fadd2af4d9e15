use Rattle.std.proofs.Common.{rules, ◌≡◌, ap, ◌∙◌}
use Rattle.std.specs.List.{filter_map}
use Rattle.sqlite.specs.Held.{state}
use Rattle.sqlite.proofs.InsideLemmas.{keeps_then}
use Rattle.ee_desk_model.specs.Queries.{row_of, sheet_of}
use Rattle.ee_desk_decide.proofs.Lemmas.{sheet_shows_rows}
use Rattle.ee_store_tables.proofs.Lemmas.Transactions.{clean_before}
use Rattle.ee_store_books.specs.Standing.{rows_of}
use Rattle.ee_store_books.specs.Seen.{SeesContent}
use Rattle.ee_store_books.proofs.Lemmas.Lookups.{excused_later, handed_on}
use Rattle.ee_store_queries.proofs.queries.inventory_in.Goals as goal

pub returns-clause-found : goal.returns-clause-found
returns-clause-found g c clean inside S sees =
    let middle = state g.S.Store c.bonds_in.new.tx.conn.now in
    let new = state g.S.Store c.rows_in.new.tx.conn.now in
    let before = clean_before middle new c.rows_in.ensures.crash clean in
    let still : SeesContent middle S = record { right = sees.right; rows = (c.in_ok-bonds.ensures.rows before inside (rows_of S) sees.rows).0 } in
    let own : c.as_slice-own.result.now ≡ c.in_ok-bonds.bonds.items = search rules in
    let are = own ∙ c.in_ok-bonds.ensures.found before inside S sees in
    let rows = c.in_ok-rows.ensures.found clean (c.in_ok-bonds.ensures.inside before inside) S still ∙ ap (filter_map (row_of S.books.rates c.args.month)) are in
    sheet_shows_rows c.sheet.result c.in_ok-rows.rows.items c.sheet.ensures.rows c.sheet.ensures.price c.sheet.ensures.value c.sheet.ensures.interest ∙ ap sheet_of rows

pub returns-in_err-rows-clause-commit : goal.returns-in_err-rows-clause-commit
returns-in_err-rows-clause-commit g c clean inside =
    let old = state g.S.Store c.args.tx.now.conn.now in
    let middle = state g.S.Store c.bonds_in.new.tx.conn.now in
    let new = state g.S.Store c.rows_in.new.tx.conn.now in
    let before = clean_before middle new c.rows_in.ensures.crash clean in
    keeps_then old middle new (c.in_ok-bonds.ensures.commit before inside) (c.in_err-rows.ensures.commit clean (c.in_ok-bonds.ensures.inside before inside))

pub returns-in_err-rows-clause-cause : goal.returns-in_err-rows-clause-cause
returns-in_err-rows-clause-cause g c clean inside endless S sees _ =
    let old = state g.S.Store c.args.tx.now.conn.now in
    let middle = state g.S.Store c.bonds_in.new.tx.conn.now in
    let new = state g.S.Store c.rows_in.new.tx.conn.now in
    let before = clean_before middle new c.rows_in.ensures.crash clean in
    let still : SeesContent middle S = record { right = sees.right; rows = (c.in_ok-bonds.ensures.rows before inside (rows_of S) sees.rows).0 } in
    handed_on _ c.from_residual-in_err-rows.result c.in_err-rows.field-0.0 c.from_residual-in_err-rows.ensures.1
    (excused_later old middle new clean c.bonds_in.ensures.crash c.rows_in.ensures.crash _
    (c.in_err-rows.ensures.cause clean (c.in_ok-bonds.ensures.inside before inside) (c.bonds_in.ensures.crash.limit ∙ endless) S still tt))
