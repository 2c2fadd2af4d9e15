use Rattle.std.proofs.Common.{◌≡◌, ◌*◌, refl}
use Rattle.ee_units.specs.Denoms.{dollars, units_of, price_of}
use Rattle.ee_units.specs.declared.denoms.Denom.{Denom}
use Rattle.ee_units.specs.declared.denoms.Denom.TheVariants as denom
use Rattle.ee_units.proofs.laws.denom_law.Goals as goal

per_unit : (d : Denom) → dollars d ≡ 25 * units_of d
per_unit denom.Fifty = refl
per_unit denom.SeventyFive = refl
per_unit denom.Hundred = refl
per_unit denom.TwoHundred = refl
per_unit denom.FiveHundred = refl
per_unit denom.Thousand = refl
per_unit denom.FiveThousand = refl
per_unit denom.TenThousand = refl

price_per_unit : (d : Denom) → price_of d ≡ 1250 * units_of d
price_per_unit denom.Fifty = refl
price_per_unit denom.SeventyFive = refl
price_per_unit denom.Hundred = refl
price_per_unit denom.TwoHundred = refl
price_per_unit denom.FiveHundred = refl
price_per_unit denom.Thousand = refl
price_per_unit denom.FiveThousand = refl
price_per_unit denom.TenThousand = refl

pub returns-clause-dollars : goal.returns-clause-dollars
returns-clause-dollars c = per_unit

pub returns-clause-price : goal.returns-clause-price
returns-clause-price c = price_per_unit
