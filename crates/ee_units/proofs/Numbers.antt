-- Numbers of digits, and numbers in a range.
use Rattle.std.proofs.Common.{◌≡◌, ℕ, ◌<◌, ◌≤◌, ◌^◌, true, List, length, Result, Some, IfSome, inl, inr, arith, rules, refl, lit<}
use Rattle.std.specs.Char.{is_ascii_digit}
use Rattle.std.specs.List.{list_all}
use Rattle.std.specs.Result.{result_ok}
use Rattle.std.specs.Str.Parse.{ParsesUnsigned, digits_value}
use Rattle.std.proofs.lemmas.Str.Parse.{IsNumeralModel, numerals_by_value, parse_gives, digits_value_short}
use Rattle.std.proofs.lemmas.Bool.{and_parts, leb-true, le-leb, cases_Bool}
use Rattle.std.proofs.Math.Nat.{pow-le-pow_right}
use Rattle.ee_units.specs.Spelling.{in_range, is_number, number_of}

abbrev pub IsDigits : List ℕ → Type 0
IsDigits ds = list_all is_ascii_digit ds ≡ true

pub own : IsNumeralModel IsDigits (digits_value 10)
own = numerals_by_value _ (search rules)

-- what `is_number` says
pub number_facts : (most : ℕ) (ds : List ℕ) → is_number most ds ≡ true → (1 ≤ length ds) × (length ds ≤ most) × IsDigits ds
unfolding is_number
number_facts most ds e =
    let p = and_parts _ _ e in
    let q = and_parts _ _ p.1 in
    (leb-true _ _ p.0, leb-true _ _ q.0, q.1)

pub in_range_back : (low high n : ℕ) → low ≤ n → n ≤ high → in_range low high n ≡ Some n
in_range_back low high n from to = rw (le-leb low n from, le-leb n high to) refl

-- a number that `is_number` accepts is below 2 ^ 64, so it parses
pub parsed : {E : Type 0} (most : ℕ) (bs : List ℕ) (r : Result ℕ E) → ParsesUnsigned 64 10 bs r → is_number most bs ≡ true → most < 19 → result_ok r ≡ number_of most bs
unfolding number_of
parsed most bs r h e small =
    let f = number_facts most bs e in
    let short = digits_value_short own bs most f.2 f.1 in
    let le : most ≤ 18 = omega arith in
    let wide : 10 ^ most ≤ 10 ^ 18 = pow-le-pow_right {n = 10} (lit< tt) le in
    let top : 10 ^ 18 < 2 ^ 64 = lit< tt in
    let ok = parse_gives own 64 bs r h f.2 (omega arith) (omega arith) in
    rw (ok, e) refl

-- a number of at most two digits is below 100
pub number_of-small : (most : ℕ) (ds : List ℕ) → most ≤ 2 → IfSome (number_of most ds) (λ n. n < 100)
unfolding number_of
number_of-small most ds two = elim (cases_Bool (is_number most ds)) [
  | inl holds ↦
      let f = number_facts most ds holds in
      let short = digits_value_short own ds 2 f.2 (omega arith) in
      rw holds (omega arith)
  | inr fails ↦ rw fails tt
]

-- a number of at most four digits is below 10,000
pub number_of-four : (most : ℕ) (ds : List ℕ) → most ≤ 4 → IfSome (number_of most ds) (λ n. n < 10000)
unfolding number_of
number_of-four most ds four = elim (cases_Bool (is_number most ds)) [
  | inl holds ↦
      let f = number_facts most ds holds in
      let short = digits_value_short own ds 4 f.2 (omega arith) in
      rw holds (omega arith)
  | inr fails ↦ rw fails tt
]
