-- The highest numbers of requests and tickets.
use Rattle.std.specs.Prelude.{ℕ}

-- the highest number of a request, 2^63 - 1
abbrev pub highest_number : ℕ
highest_number = 9223372036854775807

-- sound books have no more tickets: at most 1,000 on each of the days from 2005 to 2199
abbrev pub highest_ticket : ℕ
highest_ticket = 71200000
