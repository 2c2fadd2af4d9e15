use Rattle.std.proofs.Common.{ap, ◌∙◌, rules}
use Rattle.ee_value.specs.Value.{accrued, redemption}
use Rattle.ee_value.proofs.bonds.bond_value.Goals as goal

pub returns : goal.returns
unfolding redemption
returns c = c.paid.ensures c.args.table.now (c.at-unit.ensures.value ∙ ap (λ k. accrued c.args.table.now k) c.counted_age.ensures)

pub counted_age-requires : goal.counted_age-requires
counted_age-requires c = search rules

pub paid-requires-clause-grown : goal.paid-requires-clause-grown
paid-requires-clause-grown c = search rules
