-- The denominations of paper bonds (31 CFR Part 351; the unit is this project's rule).
use Rattle.std.specs.Prelude.{ℕ, List, Option, Some, None, ◌*◌, ◌==◌, codes, if◌then◌else◌}
use Rattle.std.specs.Str.{bytes_eq}
use Rattle.ee_units.specs.declared.denoms.Denom.{Denom}
use Rattle.ee_units.specs.declared.denoms.Denom.TheVariants as denom

-- a bond's denomination in dollars
abbrev pub dollars : Denom → ℕ
dollars denom.Fifty = 50
dollars denom.SeventyFive = 75
dollars denom.Hundred = 100
dollars denom.TwoHundred = 200
dollars denom.FiveHundred = 500
dollars denom.Thousand = 1000
dollars denom.FiveThousand = 5000
dollars denom.TenThousand = 10000

-- the denomination of this number of dollars
abbrev pub denom_with : ℕ → Option Denom
denom_with n = if n == 50 then Some denom.Fifty
    else if n == 75 then Some denom.SeventyFive
    else if n == 100 then Some denom.Hundred
    else if n == 200 then Some denom.TwoHundred
    else if n == 500 then Some denom.FiveHundred
    else if n == 1000 then Some denom.Thousand
    else if n == 5000 then Some denom.FiveThousand
    else if n == 10000 then Some denom.TenThousand
    else None

-- its units: one for each 25 dollars of denomination, which is 12.50 dollars of issue price
abbrev pub units_of : Denom → ℕ
units_of denom.Fifty = 2
units_of denom.SeventyFive = 3
units_of denom.Hundred = 4
units_of denom.TwoHundred = 8
units_of denom.FiveHundred = 20
units_of denom.Thousand = 40
units_of denom.FiveThousand = 200
units_of denom.TenThousand = 400

-- its issue price in cents: half the denomination
abbrev pub price_of : Denom → ℕ
price_of denom = 50 * dollars denom

-- the denomination that the text spells, by its number of dollars
abbrev pub denom_of : List ℕ → Option Denom
denom_of text = if bytes_eq text (codes "50") then Some denom.Fifty
    else if bytes_eq text (codes "75") then Some denom.SeventyFive
    else if bytes_eq text (codes "100") then Some denom.Hundred
    else if bytes_eq text (codes "200") then Some denom.TwoHundred
    else if bytes_eq text (codes "500") then Some denom.FiveHundred
    else if bytes_eq text (codes "1000") then Some denom.Thousand
    else if bytes_eq text (codes "5000") then Some denom.FiveThousand
    else if bytes_eq text (codes "10000") then Some denom.TenThousand
    else None
