-- The month of a day and the day of the month are those of its civil date.
use Rattle.std.proofs.Common.{◌≡◌, ◌∙◌, ℕ, zero, suc, ◌<◌, ◌≤◌, ◌+◌, ◌-◌, ◌*◌, true, false, Bool, length, get_or, refl, sym, ap, arith, inl, inr, ℤ, pos, negsuc, ◌≤ℤ◌, unsigned_abs, ltb-true, nat_lt, add-one, true≢false, neg_ℤ, ◌+ℤ◌, subst, to_z, of_z, w16}
use Rattle.std.specs.List.{position_or_len, range_with_len}
use Rattle.std.proofs.lemmas.Bool.{cases_lt, lt-ltb, le-ltb, le-leb}
use Rattle.std.proofs.lemmas.List.Sums.{position_or_len_is, passes_at_first, fails_before_first}
use Rattle.std.proofs.lemmas.List.FromFn.{get_or-range_with_len, length-range_with_len}
use Rattle.std.proofs.lemmas.Bool.Decides.{nat_tests}
use Rattle.jiff_core.specs.Calendar.{IsCivilDate, day_count, days_from_civil, days_in_month}
use Rattle.jiff_core.proofs.SignedLemmas.{signed_arith, one_part}
use Rattle.std.proofs.lemmas.Int.{by_lt_z, to_z_pos}
use Rattle.jiff_core.proofs.CalendarLemmas.{days_from_civil-day_count, day_count-lt_year, day_count-lt_month, day_count-day, days_in_month_bounds, day_count-next_month, day_count-next_year, day_count-last_of_year}
use Rattle.jiff_core.proofs.MarchLemmas.{day_count-late, day_count-early}
use Rattle.jiff_core.specs.declared.civil.date.Date.{Date}
use Rattle.jiff_core.specs.Date.{epoch_day}
use Rattle.jiff_core.proofs.DateLemmas.{civil}
use Rattle.ee_units.specs.Calendar.{year_of, month_of_year, first_day, month_of_day, day_of_month, is_date}

abbrev count_first : ℕ → ℕ
count_first m = day_count (pos (year_of m)) (month_of_year m) 1

-- a date of one month comes before the first of a later month
month_order : (a b d : ℕ) → IsCivilDate (pos (year_of a)) (month_of_year a) d → a < b → day_count (pos (year_of a)) (month_of_year a) d < count_first b
month_order a b d date lt = elim (cases_lt (year_of a) (year_of b)) [
  | inl later ↦ day_count-lt_year (pos (year_of a)) (month_of_year a) d (pos (year_of b)) (month_of_year b) 1 date (omega arith) (omega (arith, signed_arith))
  | inr same ↦
      let year : year_of b ≡ year_of a = omega arith in
      let month : month_of_year a < month_of_year b = omega arith in
      rw year (day_count-lt_month (pos (year_of a)) (month_of_year a) d (month_of_year b) 1 date (omega arith) month)
]

-- the day counts of 2005-05-01 and 2200-01-01
count_start : count_first 0 ≡ 4384857
count_start = day_count-late (pos 2005) 12005 5 1 refl (omega arith) (omega arith) (omega arith)

count_end : count_first 2336 ≡ 4455959
count_end = day_count-early (pos 2200) 12199 1 1 refl (omega arith) (omega arith) (omega arith)

last_day : day_count (pos 2199) 12 31 ≡ 4455958
last_day = day_count-late (pos 2199) 12199 12 31 refl (omega arith) (omega arith) (omega arith)

last_date : IsCivilDate (pos 2199) 12 31
last_date = (omega (arith, signed_arith), (omega arith, omega arith), (omega arith, omega arith))

first_date : (m : ℕ) → m ≤ 2336 → IsCivilDate (pos (year_of m)) (month_of_year m) 1
first_date m few =
    let long = days_in_month_bounds (pos (year_of m)) (month_of_year m) in
    (omega (arith, signed_arith), (omega arith, omega arith), (omega arith, omega (arith, long)))

at_least_start : (m : ℕ) → m ≤ 2336 → 4384857 ≤ count_first m
at_least_start m few = elim (cases_lt 0 m) [
  | inl later ↦ omega (arith, count_start, month_order 0 m 1 (first_date 0 (omega arith)) later)
  | inr first ↦ let zero_m : m ≡ 0 = omega arith in rw zero_m (omega (arith, count_start))
]

pub first_day-count : (m : ℕ) → m ≤ 2336 → first_day m + 4371953 ≡ count_first m
unfolding first_day
first_day-count m few =
    let z = days_from_civil (pos (year_of m)) (month_of_year m) 1 in
    elim (one_part z) [
      | inl none ↦ omega (arith, signed_arith, days_from_civil-day_count (pos (year_of m)) (month_of_year m) 1, at_least_start m few, none)
      | inr none ↦ omega (arith, signed_arith, days_from_civil-day_count (pos (year_of m)) (month_of_year m) 1, at_least_start m few, none)
    ]

-- the day n days after 1970-01-01 is the date y-m-d
pub record IsDateOf (n : ℕ) (y : ℤ) (m d : ℕ) : Type 0 where
  pub date : IsCivilDate y m d
  pub same : days_from_civil y m d ≡ pos n
  pub low : 12904 ≤ n
  pub high : n ≤ 84005

count_of : (n : ℕ) (y : ℤ) (m d : ℕ) → IsDateOf n y m d → day_count y m d ≡ n + 4371953
count_of n y m d is = omega (arith, signed_arith, days_from_civil-day_count y m d, is.same)

-- a year and a month in range
pub record InYears (y : ℤ) (m : ℕ) : Type 0 where
  pub year : ℕ
  pub is : y ≡ pos year
  pub low : 24065 ≤ 12 * year + m
  pub high : 12 * year + m ≤ 26400

not_negative : (y : ℤ) → pos 2005 ≤ℤ y → y ≡ pos (unsigned_abs y)
not_negative (pos n) from = refl
not_negative (negsuc n) from = absurd (omega (arith, signed_arith))

too_early : (n : ℕ) (y : ℤ) (m d : ℕ) → IsDateOf n y m d → (year : ℕ) → y ≡ pos year → pos 2005 ≤ℤ y → 12 * year + m < 24065 → ⊥
too_early n y m d is year same from early =
    let month = is.date.1 in
    let from_year : 2005 ≤ year = omega (arith, signed_arith) in
    let just : year ≡ 2005 = omega (arith, month) in
    let first : y ≡ pos 2005 = same ∙ ap pos just in
    let there : IsCivilDate (pos 2005) m d = subst (λ (z : ℤ). IsCivilDate z m d) first is.date in
    let early_month : m < 5 = omega arith in
    let count : day_count (pos 2005) m d ≡ n + 4371953 = subst (λ (z : ℤ). day_count z m d ≡ n + 4371953) first (count_of n y m d is) in
    omega (arith, count, is.low, count_start, day_count-lt_month (pos 2005) m d 5 1 there (omega arith) early_month)

pub years : (n : ℕ) (y : ℤ) (m d : ℕ) → IsDateOf n y m d → InYears y m
years n y m d is =
    let count = count_of n y m d is in
    let not_before : pos 2005 ≤ℤ y = by_lt_z y (pos 2005)
    (λ before. absurd (omega (arith, count, is.low, count_start, day_count-lt_year y m d (pos 2005) 5 1 is.date (omega arith) before)))
    (λ from. from) in
    let not_after : y ≤ℤ pos 2199 = by_lt_z (pos 2199) y
    (λ after. absurd (omega (arith, count, is.high, last_day, day_count-lt_year (pos 2199) 12 31 y m d last_date (is.date.2.0) after)))
    (λ to. to) in
    let year = unsigned_abs y in
    let same : y ≡ pos year = not_negative y not_before in
    let month = is.date.1 in
    let low : 24065 ≤ 12 * year + m = elim (cases_lt (12 * year + m) 24065) [
      | inl early ↦ absurd (too_early n y m d is year same not_before early)
      | inr late ↦ late
    ] in
    record { year = year; is = same; low = low; high = (let to_year : year ≤ 2199 = omega (arith, signed_arith) in let month = is.date.1 in omega (arith, month)) }

-- the month of the day and the day of the month are those of the date
pub record IsMonthOf (n year m d : ℕ) : Type 0 where
  pub year_is : year ≡ year_of (month_of_day n)
  pub month_is : m ≡ month_of_year (month_of_day n)
  pub day_is : d ≡ day_of_month n
  pub bound : month_of_day n ≤ 2335

earlier : (n k d : ℕ) → 1 ≤ d → first_day k + d ≡ n + 1 → k ≤ 2335 → (j : ℕ) → j ≤ k → first_day j ≤ n
earlier n k d some starts few j le = elim (cases_lt j k) [
  | inl before ↦ omega (arith, first_day-count j (omega arith), first_day-count k (omega arith), month_order j k 1 (first_date j (omega arith)) before)
  | inr same ↦ let is : j ≡ k = omega arith in rw is (omega arith)
]

-- the first number that satisfies the test
first_that : (test : ℕ → Bool) (size k : ℕ) → k < size → ((j : ℕ) → j < k → test j ≡ false) → test k ≡ true → position_or_len test (range_with_len 0 size) ≡ k
first_that test size k below before here =
    position_or_len_is test (range_with_len 0 size) k 0 (omega (arith, length-range_with_len 0 size))
    (λ j lt. rw (index size j (omega arith)) (before j lt))
    (λ _. rw (index size k below) here)
  where
    index : (size j : ℕ) → j < size → get_or (range_with_len 0 size) j 0 ≡ j
    index size j below = get_or-range_with_len 0 size j 0 below ∙ omega arith

month_of_day-is : (n k : ℕ) → k < 2336 → ((j : ℕ) → j < k → nat_lt n (first_day (j + 1)) ≡ false) → nat_lt n (first_day (k + 1)) ≡ true → month_of_day n ≡ k
unfolding month_of_day
month_of_day-is n k below before here = first_that (λ j. nat_lt n (first_day (j + 1))) 2336 k below before here

pub month_is : (n year m d : ℕ) → IsDateOf n (pos year) m d → 24065 ≤ 12 * year + m → 12 * year + m ≤ 26400 → IsMonthOf n year m d
month_is n year m d is low high =
    let k = 12 * year + m - 24065 in
    let month = is.date.1 in
    let y : year_of k ≡ year = omega (arith, month) in
    let mm : month_of_year k ≡ m = omega (arith, month) in
    let few : k ≤ 2335 = omega arith in
    let count = count_of n (pos year) m d is in
    let date : IsCivilDate (pos (year_of k)) (month_of_year k) d = rw (y, mm) is.date in
    let here : day_count (pos (year_of k)) (month_of_year k) d ≡ n + 4371953 = rw (y, mm) count in
    let starts : first_day k + d ≡ n + 1 = omega (arith, here, first_day-count k (omega arith), day_count-day (pos (year_of k)) (month_of_year k) d 1 (date.2.0) (omega arith)) in
    let at : month_of_day n ≡ k = month_of_day-is n k (omega arith)
    (λ j before. le-ltb n (first_day (j + 1)) (earlier n k d (date.2.0) starts few (j + 1) (omega arith)))
    (lt-ltb n (first_day (k + 1)) (omega (arith, here, first_day-count (k + 1) (omega arith), month_order k (k + 1) d date (omega arith)))) in
    record { year_is = rw at (sym y); month_is = rw at (sym mm); day_is = rw at (omega (arith, starts)); bound = rw at few }

-- a date of the calendar
pub record Found (n : ℕ) (date : Date) : Type 0 where
  pub year : ℕ
  pub is : date.year ≡ pos year
  pub parts : IsMonthOf n year date.month date.day
  pub small : year ≤ 2199

pub found : (n : ℕ) (date : Date) → epoch_day date ≡ pos n → 12904 ≤ n → n ≤ 84005 → Found n date
found n date same low high =
    let is : IsDateOf n date.year date.month date.day = record { date = civil date; same = same; low = low; high = high } in
    let y = years n date.year date.month date.day is in
    record {
      year = y.year;
      is = y.is;
      parts = month_is n y.year date.month date.day (subst (λ (z : ℤ). IsDateOf n z date.month date.day) y.is is) y.low y.high;
      small = omega (arith, y.high);
    }

-- casting its year loses nothing
pub cast_year : (n : ℕ) (date : Date) (f : Found n date) → to_z w16 (of_z w16 date.year) ≡ pos f.year
cast_year n date f = rw f.is (to_z_pos w16 f.year (omega (arith, f.small)))

-- conversely, each day in range has a date
record IsFirst (test : ℕ → Bool) (size k : ℕ) : Type 0 where
  bound : k < size
  passes : test k ≡ true
  before : (j : ℕ) → j < k → test j ≡ false

number_at : (size j : ℕ) → j < size → get_or (range_with_len 0 size) j 0 ≡ j
number_at size j below = get_or-range_with_len 0 size j 0 below ∙ omega arith

first_of_all : (test : ℕ → Bool) (size j : ℕ) → j < size → test j ≡ true → IsFirst test size (position_or_len test (range_with_len 0 size))
first_of_all test size j below here =
    let xs = range_with_len 0 size in
    let long = length-range_with_len 0 size in
    let k = position_or_len test xs in
    let early : k < size = elim (cases_lt j k) [
      | inl lt ↦ absurd (true≢false (sym here ∙ ap test (sym (number_at size j below)) ∙ fails_before_first test xs j 0 lt))
      | inr le ↦ omega arith
    ] in
    let inside : k < length xs = omega (arith, long) in
    record {
      bound = early;
      passes = ap test (sym (number_at size k early)) ∙ passes_at_first test xs 0 inside;
      before = λ i lt. ap test (sym (number_at size i (omega arith))) ∙ fails_before_first test xs i 0 lt;
    }

after_last : (n : ℕ) → n ≤ 84005 → n < first_day 2336
after_last n high = omega (arith, first_day-count 2336 (omega arith), count_end)

month_first : (n : ℕ) → n ≤ 84005 → IsFirst (λ m. nat_lt n (first_day (m + 1))) 2336 (month_of_day n)
unfolding month_of_day
month_first n high = first_of_all (λ m. nat_lt n (first_day (m + 1))) 2336 2335 (omega arith) (lt-ltb n (first_day 2336) (after_last n high))

pub month_bound : (n : ℕ) → n ≤ 84005 → month_of_day n ≤ 2335
month_bound n high = omega (arith, (month_first n high).bound)

not_earlier : (n f : ℕ) → nat_lt n f ≡ false → f ≤ n
not_earlier n f fails = grind (arith, nat_tests)

after_first_day : (n : ℕ) → 12904 ≤ n → n ≤ 84005 → first_day (month_of_day n) ≤ n
after_first_day n low high = go (month_of_day n) refl
  where
    go : (m : ℕ) → month_of_day n ≡ m → first_day m ≤ n
    go zero is = omega (arith, low, first_day-count 0 (omega arith), count_start)
    go (suc m) is = subst (λ k. first_day k ≤ n) (add-one m) (not_earlier n (first_day (m + 1)) ((month_first n high).before m (omega (arith, is))))

before_next : (n : ℕ) → n ≤ 84005 → n < first_day (month_of_day n + 1)
before_next n high = ltb-true n (first_day (month_of_day n + 1)) (month_first n high).passes

next_month : (m : ℕ) → m ≤ 2335 → first_day (m + 1) ≡ first_day m + days_in_month (pos (year_of m)) (month_of_year m)
next_month m few = elim (cases_lt (month_of_year m) 12) [
  | inl within ↦
      let year : year_of (m + 1) ≡ year_of m = omega arith in
      let month : month_of_year (m + 1) ≡ month_of_year m + 1 = omega arith in
      let step : count_first (m + 1) ≡ count_first m + days_in_month (pos (year_of m)) (month_of_year m) = rw (year, month) (day_count-next_month (pos (year_of m)) (month_of_year m) (omega arith)) in
      omega (arith, step, first_day-count m (omega arith), first_day-count (m + 1) (omega arith))
  | inr last ↦
      let year : year_of (m + 1) ≡ year_of m + 1 = omega arith in
      let first : month_of_year (m + 1) ≡ 1 = omega arith in
      let december : month_of_year m ≡ 12 = omega arith in
      let y = pos (year_of m) in
      let from : neg_ℤ (pos 10000) ≤ℤ y = omega (arith, signed_arith) in
      let next : pos (year_of m + 1) ≡ y +ℤ pos 1 = omega (arith, signed_arith) in
      let long : days_in_month y 12 ≡ 31 = refl in
      let step : count_first (m + 1) ≡ count_first m + 31 = rw (year, first, december) (omega (arith, day_count-next_year y (pos (year_of m + 1)) from next, day_count-last_of_year y, day_count-day y 12 1 31 (omega arith) (omega arith))) in
      rw december (omega (arith, long, step, first_day-count m (omega arith), first_day-count (m + 1) (omega arith)))
]

pub date_of_day : (n : ℕ) → 12904 ≤ n → n ≤ 84005 → IsDateOf n (pos (year_of (month_of_day n))) (month_of_year (month_of_day n)) (day_of_month n)
date_of_day n low high =
    let m = month_of_day n in
    let few = month_bound n high in
    let from = after_first_day n low high in
    let before = before_next n high in
    let next = next_month m few in
    let d = day_of_month n in
    let some : 1 ≤ d = omega arith in
    let fits : d ≤ days_in_month (pos (year_of m)) (month_of_year m) = omega (arith, next, before) in
    record {
      date = (omega (arith, signed_arith), (omega arith, omega arith), (some, fits));
      same = (let count = day_count-day (pos (year_of m)) (month_of_year m) d 1 some (omega arith) in let start = first_day-count m (omega arith) in omega (arith, signed_arith, days_from_civil-day_count (pos (year_of m)) (month_of_year m) d, count, start, from));
      low = low;
      high = high;
    }

pub is_date-date : (y m d : ℕ) → IsCivilDate (pos y) m d → is_date y m d ≡ true
is_date-date y m d date = rw (le-leb 1 m (date.1.0), le-leb m 12 (date.1.1), le-leb 1 d (date.2.0), le-leb d (days_in_month (pos y) m) (date.2.1)) refl
