use Rattle.ee_value.proofs.OpenAges.{low_root-is, high_root-is, open-whole, open-zero, open-exact, open-past}
use Rattle.ee_value.proofs.FirstOpen.{first_open-Some, first_open-is, first_open-None, NeverOpen-from_None}
use Rattle.ee_value.proofs.laws.open_law.Goals as goal

pub returns-clause-low : goal.returns-clause-low
returns-clause-low c = low_root-is

pub returns-clause-high : goal.returns-clause-high
returns-clause-high c = high_root-is

pub returns-clause-whole_half_year : goal.returns-clause-whole_half_year
returns-clause-whole_half_year c = open-whole

pub returns-clause-no_interest : goal.returns-clause-no_interest
returns-clause-no_interest c = open-zero

pub returns-clause-exact_quarter : goal.returns-clause-exact_quarter
returns-clause-exact_quarter c = open-exact

pub returns-clause-matured : goal.returns-clause-matured
returns-clause-matured c = open-past

pub returns-clause-never : goal.returns-clause-never
returns-clause-never c = λ rates b. (first_open-None rates b, NeverOpen-from_None rates b)

pub returns-clause-first : goal.returns-clause-first
returns-clause-first c = λ rates b a. (first_open-is rates b a, first_open-Some rates b a)
