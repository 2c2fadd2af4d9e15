use Rattle.std.proofs.Common.{ℕ, Option, sym, subst}
use Rattle.sqlite.specs.Held.{state}
use Rattle.std.proofs.lemmas.Result.{on_ok_weaker}
use Rattle.ee_store_tables.specs.Rows.{Sees, with_extension}
use Rattle.ee_store_delivery.specs.Inner.Written.{with_named}
use Rattle.ee_store_delivery.proofs.writing.write_extension.Goals as goal

pub returns-in-None-clause-written : goal.returns-in-None-clause-written
returns-in-None-clause-written g c clean rows sees =
    subst (λ (o : Option ℕ). Sees (state g.S.Store c.args.tx.now.conn.now) (with_named rows c.args.period o)) (sym c.in-None.is) sees

pub returns-in-Some-clause-written : goal.returns-in-Some-clause-written
returns-in-Some-clause-written g c clean =
    let new = state g.S.Store c.add_extension.new.tx.conn.now in
    on_ok_weaker c.add_extension.result (λ added rows sees.
    subst (λ (o : Option ℕ). Sees new (with_named rows c.args.period o)) (sym c.in-Some.is)
    (subst (λ (n : ℕ). Sees new (with_extension rows (c.args.period, n))) c.hundredths-rate.ensures.value (added rows sees)))
    (c.add_extension.ensures.added clean)
