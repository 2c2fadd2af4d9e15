use Rattle.std.proofs.Common.{rules, arith}
use Rattle.std.proofs.lemmas.Grind.{common_steps}
use Rattle.ee_store_queries.proofs.QueryCauses.{bond_at}
use Rattle.ee_store_queries.proofs.from_rows.bonds_shown.Goals as goal

pub returns-in_default-clause-read : goal.returns-in_default-clause-read
returns-in_default-clause-read c bonds are fits =
    let it = bond_at c.args.rows.now bonds c.loop-row.row-index are fits c.loop-row-test.true in
    absurd (let never = c.in_default.ensures.read it.0 (it.1 _) it.2 in cc)

pub loop-row-init : goal.loop-row-init
loop-row-init c = search rules

pub loop-row-preserved : goal.loop-row-preserved
loop-row-preserved c = grind (arith, common_steps)

pub returns-clause-read : goal.returns-clause-read
returns-clause-read c = search rules

pub returns-clause-shown : goal.returns-clause-shown
returns-clause-shown c = grind (arith, common_steps)

pub returns-in_default-clause-shown : goal.returns-in_default-clause-shown
returns-in_default-clause-shown c = search rules

pub returns-then-is_err-clause-read : goal.returns-then-is_err-clause-read
returns-then-is_err-clause-read c = search rules

pub returns-then-is_err-clause-shown : goal.returns-then-is_err-clause-shown
returns-then-is_err-clause-shown c = search rules
