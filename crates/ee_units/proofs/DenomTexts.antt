-- A denomination's text reads back, and so does its number of dollars.
use Rattle.std.proofs.Common.{◌≡◌, ◌<◌, ◌^◌, refl, sym, ap, ◌∙◌, Some, lit<}
use Rattle.std.specs.Fmt.{decimal, digits}
use Rattle.std.proofs.lemmas.Option.{same_Some}
use Rattle.ee_units.specs.Denoms.{dollars, denom_of, denom_with}
use Rattle.ee_units.specs.declared.denoms.Denom.{Denom}
use Rattle.ee_units.specs.declared.denoms.Denom.TheVariants as denom

pub denom_back : (d : Denom) → denom_of (decimal (dollars d)) ≡ Some d
unfolding digits
denom_back denom.Fifty = refl
denom_back denom.SeventyFive = refl
denom_back denom.Hundred = refl
denom_back denom.TwoHundred = refl
denom_back denom.FiveHundred = refl
denom_back denom.Thousand = refl
denom_back denom.FiveThousand = refl
denom_back denom.TenThousand = refl

pub denom_with-dollars : (d : Denom) → denom_with (dollars d) ≡ Some d
denom_with-dollars denom.Fifty = refl
denom_with-dollars denom.SeventyFive = refl
denom_with-dollars denom.Hundred = refl
denom_with-dollars denom.TwoHundred = refl
denom_with-dollars denom.FiveHundred = refl
denom_with-dollars denom.Thousand = refl
denom_with-dollars denom.FiveThousand = refl
denom_with-dollars denom.TenThousand = refl

pub same_denom : (a b : Denom) → dollars a ≡ dollars b → a ≡ b
same_denom a b e = same_Some a b (sym (denom_with-dollars a) ∙ ap denom_with e ∙ denom_with-dollars b)

pub dollars_small : (d : Denom) → dollars d < 2 ^ 64
dollars_small denom.Fifty = lit< tt
dollars_small denom.SeventyFive = lit< tt
dollars_small denom.Hundred = lit< tt
dollars_small denom.TwoHundred = lit< tt
dollars_small denom.FiveHundred = lit< tt
dollars_small denom.Thousand = lit< tt
dollars_small denom.FiveThousand = lit< tt
dollars_small denom.TenThousand = lit< tt
