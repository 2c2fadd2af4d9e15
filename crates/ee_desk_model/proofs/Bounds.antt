-- Counts and sums of sound books are small.
use Rattle.std.proofs.Common.{◌≡◌, ℕ, suc, ◌+◌, ◌*◌, ◌<◌, ◌≤◌, eqb, List, [], ◌∷◌, length, if◌then◌else◌, nat_lt, arith, refl, subst, ◌-◌}
use Rattle.std.specs.Option.{IfSome}
use Rattle.std.specs.List.{AllByRecursion, sum_by}
use Rattle.std.proofs.Math.Nat.{mul-le-mul}
use Rattle.std.proofs.lemmas.List.Sums.{sum_by-cons, length-filter}
use Rattle.ee_units.specs.Calendar.{period_start, month_of_day}
use Rattle.ee_units.specs.Denoms.{units_of}
use Rattle.ee_units.specs.declared.denoms.Denom.{Denom}
use Rattle.ee_units.specs.declared.denoms.Denom.TheVariants as denom
use Rattle.ee_value.specs.declared.rates.Rates.{Rates}
use Rattle.ee_value.specs.Value.{redemption}
use Rattle.ee_value.proofs.Lemmas.{accrued-le}
use Rattle.ee_value.specs.Chain.{InRange}
use Rattle.ee_calculator.specs.declared.bonds.Bond.{Bond}
use Rattle.ee_desk_model.specs.declared.replies.Line.{Line}
use Rattle.ee_desk_model.specs.declared.replies.Ticket.{Ticket}
use Rattle.ee_desk_model.specs.Lists.{Rising}
use Rattle.ee_desk_model.specs.Values.{value_of}
use Rattle.ee_desk_model.specs.PlainBooks.{PlainBooks, of_day, total_of, bonds_on, cents_of}
use Rattle.ee_desk_model.specs.Sound.{IsSound, IsRightRate, IsRightLine, IsRightTicket, days}
use Rattle.ee_desk_model.proofs.Maps.{all_map}
use Rattle.ee_desk_model.proofs.Orders.{all_filter}
use Rattle.ee_desk_model.proofs.Conservation.{day_sum, spread}

-- a sum of numbers up to k
pub sum_le : {A : Type 0} (f : A → ℕ) (k : ℕ) (xs : List A) → AllByRecursion (λ x. f x ≤ k) xs → sum_by f xs ≤ length xs * k
sum_le f k [] h = omega arith
sum_le f k (x ∷ xs) h =
    let cons = sum_by-cons f x xs in
    let rest = sum_le f k xs h.1 in
    let here = h.0 in omega (arith, cons, rest, here)

-- days that rise between two days are no more than those
rising_length : (low high : ℕ) (ds : List ℕ) → low ≤ suc high → Rising ds → AllByRecursion (λ d. (low ≤ d) × (d ≤ high)) ds → length ds + low ≤ suc high
rising_length low high [] le h r = omega (arith, le)
rising_length low high (d ∷ ds) le h r =
    let here = r.0.0 in
    let top = r.0.1 in
    let rest = rising_length (suc d) high ds (omega (arith, top)) h.1 (above ds h.0 r.1) in
    omega (arith, here, rest)
  where
    above : (es : List ℕ) → AllByRecursion (λ y. d < y) es → AllByRecursion (λ e. (low ≤ e) × (e ≤ high)) es → AllByRecursion (λ e. (suc d ≤ e) × (e ≤ high)) es
    above [] h r = tt
    above (e ∷ es) h r = ((omega (arith, h.0), r.0.1), above es h.1 r.1)

units_le : (d : Denom) → units_of d ≤ 400
units_le denom.Fifty = omega arith
units_le denom.SeventyFive = omega arith
units_le denom.Hundred = omega arith
units_le denom.TwoHundred = omega arith
units_le denom.FiveHundred = omega arith
units_le denom.Thousand = omega arith
units_le denom.FiveThousand = omega arith
units_le denom.TenThousand = omega arith

redemption-le : (rates : Rates) (a : ℕ) → InRange rates → redemption rates a ≤ 761234
unfolding redemption
redemption-le rates a range = accrued-le rates (if nat_lt a 60 then a - 3 else a) range

-- a bond is worth less than 3.1 million dollars
pub value_le : (rates : Rates) (bond : Bond) (month : ℕ) → InRange rates → value_of rates bond month ≤ 304493600
value_le rates bond month range = mul-le-mul (units_le bond.denom) (redemption-le rates (month - bond.issued) range)

pub line_le : (books : PlainBooks) → IsSound books → (ticket : Ticket) (line : Line) → IsRightLine books.rates books.bonds ticket line → cents_of line ≤ 304493600
line_le books sound ticket line h =
    let right = subst (λ o. IfSome o (IsRightRate (period_start h.0.issued))) h.3 (sound.rates (period_start h.0.issued)) in
    let le = value_le h.1 h.0 (month_of_day ticket.day) right.in_range.1 in
    let is = h.6 in omega (arith, is, le)

ticket_le : (books : PlainBooks) → IsSound books → (ticket : Ticket) → IsRightTicket books.rates books.bonds ticket → total_of ticket ≤ 30449360000
ticket_le books sound ticket right =
    let sum = sum_le cents_of 304493600 ticket.lines (all_map _ _ (line_le books sound ticket) ticket.lines right.lines) in
    let is = right.total in
    let few = right.few in omega (arith, sum, is, few)

module _ (books : PlainBooks) (sound : IsSound books) where
  -- no day has more than 1,000 tickets
  pub few_on : (day : ℕ) → length (of_day day books.tickets) ≤ 1000
  few_on day = let is = length-filter (λ t. eqb t.day day) books.tickets in let few = sound.few day in omega (arith, is, few)

  right_on : (day : ℕ) → AllByRecursion (IsRightTicket books.rates books.bonds) (of_day day books.tickets)
  right_on day = all_filter (IsRightTicket books.rates books.bonds) (λ t. eqb t.day day) books.tickets sound.tickets

  pub bonds_small : (day : ℕ) → sum_by bonds_on (of_day day books.tickets) ≤ 100000
  bonds_small day =
      let sum = sum_le bonds_on 100 (of_day day books.tickets) (all_map _ _ (λ t right. right.few) (of_day day books.tickets) (right_on day)) in
      let few = few_on day in omega (arith, sum, few)

  pub total_small : (day : ℕ) → sum_by total_of (of_day day books.tickets) ≤ 30449360000000
  total_small day =
      let sum = sum_le total_of 30449360000 (of_day day books.tickets) (all_map _ _ (ticket_le books sound) (of_day day books.tickets) (right_on day)) in
      let few = few_on day in omega (arith, sum, few)

  ones : (tickets : List Ticket) → sum_by (λ t. 1) tickets ≡ length tickets
  ones [] = refl
  ones (t ∷ tickets) = let cons = sum_by-cons (λ t. 1) t tickets in let rest = ones tickets in omega (arith, cons, rest)

  all_few : (ds : List ℕ) → AllByRecursion (λ d. day_sum (λ t. 1) books.tickets d ≤ 1000) ds
  all_few [] = tt
  all_few (d ∷ ds) = (let is = ones (of_day d books.tickets) in let few = few_on d in omega (arith, is, few), all_few ds)

  -- 1,000 tickets on each of at most 71,102 days
  pub tickets_small : length books.tickets ≤ 71102000
  tickets_small =
      let all = spread (λ t. 1) (days books) books.tickets sound.rising sound.dated in
      let sum = sum_le (day_sum (λ t. 1) books.tickets) 1000 (days books) (all_few (days books)) in
      let count = rising_length 12904 84005 (days books) (omega arith) sound.rising sound.in_range in
      let is = ones books.tickets in omega (arith, all, sum, count, is)
