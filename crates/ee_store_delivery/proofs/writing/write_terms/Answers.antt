use Rattle.std.proofs.Common.{rules, ℕ, Option, ◌+◌, arith, ap, ◌∙◌, subst}
use Rattle.sqlite.specs.Held.{state}
use Rattle.ee_store_tables.specs.Rows.{Sees, with_rate}
use Rattle.ee_value.specs.Chain.{named_extension}
use Rattle.ee_store_tables.proofs.Lemmas.Transactions.{clean_before}
use Rattle.ee_store_tables.proofs.Lemmas.Causes.{room_less}
use Rattle.std.proofs.lemmas.Result.{on_ok_weaker, IfErr-weaker}
use Rattle.ee_store_books.proofs.Lemmas.Lookups.{statement_failed, excused_later}
use Rattle.ee_store_delivery.specs.Inner.Written.{with_named}
use Rattle.ee_store_delivery.proofs.writing.write_terms.Goals as goal

pub returns-clause-writes_inside : goal.returns-clause-writes_inside
returns-clause-writes_inside g c = record {
  still_open = λ clean.
      let middle = state g.S.Store c.add_rate.new.tx.conn.now in
      let new = state g.S.Store c.write_extension.new.tx.conn.now in
      c.write_extension.ensures.writes_if_any.still_open clean (c.in_ok-add_rate.ensures.writes_inside.still_open (clean_before middle new c.write_extension.ensures.writes_if_any.crash clean));
  inside = search rules;
  commit = search rules;
  crash = search rules;
}

pub returns-clause-written : goal.returns-clause-written
returns-clause-written g c clean =
    let middle = state g.S.Store c.add_rate.new.tx.conn.now in
    let new = state g.S.Store c.write_extension.new.tx.conn.now in
    let before = clean_before middle new c.write_extension.ensures.writes_if_any.crash clean in
    on_ok_weaker c.write_extension.result (λ written rows sees.
    subst (λ (named : (ℕ × ℕ) × Option ℕ). Sees new (with_named (with_rate rows named.0) named.0.0 named.1))
    (λ i. ((c.count-period.ensures.value i, (c.hundredths.ensures.value ∙ ap (λ r. r.fixed) c.rates-rates.ensures.value) i), (c.named_extension.ensures ∙ ap named_extension c.rates-rates.ensures.value) i))
    (written _ (c.in_ok-add_rate.ensures.added before rows sees)))
    (c.write_extension.ensures.written clean)

pub returns-clause-room : goal.returns-clause-room
returns-clause-room g c clean inside =
    let middle = state g.S.Store c.add_rate.new.tx.conn.now in
    let new = state g.S.Store c.write_extension.new.tx.conn.now in
    let before = clean_before middle new c.write_extension.ensures.writes_if_any.crash clean in
    on_ok_weaker c.write_extension.result (λ keeps rows sees n room.
    keeps _ (c.in_ok-add_rate.ensures.added before rows sees) n
    (c.in_ok-add_rate.ensures.room before inside rows sees n (room_less (state g.S.Store c.args.tx.now.conn.now) n (0 + n) (omega arith) room)))
    (c.write_extension.ensures.room clean (c.in_ok-add_rate.ensures.writes_inside.inside before inside))

pub returns-in_err-add_rate-clause-cause : goal.returns-in_err-add_rate-clause-cause
returns-in_err-add_rate-clause-cause g c clean inside endless rows sees room =
    statement_failed (state g.S.Store c.args.tx.now.conn.now) (state g.S.Store c.add_rate.new.tx.conn.now) c.from_residual.result c.in_err-add_rate.field-0.0 c.from_residual.ensures.1
    (c.in_err-add_rate.ensures.cause clean inside endless rows sees room)

pub returns-clause-cause : goal.returns-clause-cause
returns-clause-cause g c clean inside endless rows sees room =
    let old = state g.S.Store c.args.tx.now.conn.now in
    let middle = state g.S.Store c.add_rate.new.tx.conn.now in
    let new = state g.S.Store c.write_extension.new.tx.conn.now in
    let before = clean_before middle new c.write_extension.ensures.writes_if_any.crash clean in
    IfErr-weaker c.write_extension.result _ _ (excused_later old middle new clean c.add_rate.ensures.writes_inside.crash c.write_extension.ensures.writes_if_any.crash)
    (c.write_extension.ensures.cause clean (c.in_ok-add_rate.ensures.writes_inside.inside before inside) (c.add_rate.ensures.writes_inside.crash.limit ∙ endless) _ (c.in_ok-add_rate.ensures.added before rows sees)
    (c.in_ok-add_rate.ensures.room before inside rows sees 0 room))
