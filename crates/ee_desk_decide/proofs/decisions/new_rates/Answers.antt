use Rattle.std.proofs.Common.{rules, arith}
use Rattle.std.proofs.lemmas.Grind.{common_steps}
use Rattle.ee_desk_model.specs.declared.refusals.Refusal.TheVariants.{RateUnsettled}
use Rattle.ee_desk_model.specs.Values.{unsettled}
use Rattle.ee_desk_model.specs.Refusals.{near}
use Rattle.ee_desk_model.proofs.Lemmas.Books.{none_from_option_map}
use Rattle.ee_desk_decide.proofs.Payable.{none_at}
use Rattle.ee_desk_decide.proofs.decisions.new_rates.Goals as goal

pub settled_terms-requires : goal.settled_terms-requires
settled_terms-requires c =
    none_from_option_map RateUnsettled (unsettled c.index-rows-i.result.rates)
    (none_at near c.args.rows.now c.loop-i.i c.index-rows-i.result c.requires c.loop-i-test.true c.index-rows-i.is)

pub loop-i-init : goal.loop-i-init
loop-i-init c = search rules

pub loop-i-preserved : goal.loop-i-preserved
loop-i-preserved c = grind (arith, common_steps)

pub returns-clause-changes : goal.returns-clause-changes
returns-clause-changes c = grind (arith, common_steps)

pub returns-clause-few : goal.returns-clause-few
returns-clause-few c = search rules

pub returns-in_err-push-clause-changes : goal.returns-in_err-push-clause-changes
returns-in_err-push-clause-changes c = search rules

pub returns-in_err-push-clause-few : goal.returns-in_err-push-clause-few
returns-in_err-push-clause-few c = search rules

pub returns-in_err-terms-clause-changes : goal.returns-in_err-terms-clause-changes
returns-in_err-terms-clause-changes c = search rules

pub returns-in_err-terms-clause-few : goal.returns-in_err-terms-clause-few
returns-in_err-terms-clause-few c = search rules
