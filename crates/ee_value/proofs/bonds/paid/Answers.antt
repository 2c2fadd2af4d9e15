use Rattle.std.proofs.Common.{◌*◌, ap, arith, rules, tests}
use Rattle.std.proofs.Math.Nat.{mul-le-mul_left}
use Rattle.ee_units.specs.Denoms.{units_of}
use Rattle.ee_value.proofs.bonds.paid.Goals as goal

pub returns : goal.returns
returns c rates value =
    rw (c.units.ensures) (
      omega arith,
      ap (λ v. units_of c.args.denom * v) value,
      mul-le-mul_left (units_of c.args.denom) c.requires.at_least_price,
      mul-le-mul_left (units_of c.args.denom) c.requires.small,
      search (rules, tests),
      search (rules, tests),
    )
