-- The ranges of plain numbers, and what one unit costs and doubles to: each numeral once.
use Rattle.std.specs.Prelude.{ℕ}

-- 20.00 percent, in hundredths of a percent
abbrev pub highest_rate : ℕ
highest_rate = 2000

-- December 2099 and December 2199, in months from May 2005
abbrev pub latest_issue_month : ℕ
latest_issue_month = 1135

abbrev pub latest_month : ℕ
latest_month = 2335

-- 1 May 2005 and 31 December 2199, in days from 1 January 1970
abbrev pub earliest_day : ℕ
earliest_day = 12904

abbrev pub latest_day : ℕ
latest_day = 84005

-- nine digits
abbrev pub highest_customer : ℕ
highest_customer = 999999999

-- ten digits
abbrev pub highest_serial : ℕ
highest_serial = 9999999999

-- one unit, in cents: its issue price, and its face value
abbrev pub unit_price : ℕ
unit_price = 1250

abbrev pub unit_face : ℕ
unit_face = 2500
