use Rattle.std.proofs.Common.{rules}
use Rattle.ee_value.proofs.bonds.bond_value_at.Goals as goal

pub paid-requires-clause-grown : goal.paid-requires-clause-grown
paid-requires-clause-grown c = search rules

pub redeemed_unit-requires : goal.redeemed_unit-requires
redeemed_unit-requires c = search rules
