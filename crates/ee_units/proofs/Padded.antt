-- Two digits as `{:02}` prints them equal those of two separate holes.
use Rattle.std.proofs.Common.{◌≡◌, ◌∙◌, ℕ, ◌+◌, ◌-◌, ◌/◌, ◌%◌, ◌<◌, ◌^◌, [], ◌∷◌, ◌++◌, refl, sym, ap, ap₂, arith, inl, inr, lit<, append_assoc}
use Rattle.std.specs.Fmt.{char_count, decimal, styled_decimal, format_spec, padded_integral}
use Rattle.std.proofs.lemmas.Bool.{cases_lt}
use Rattle.std.proofs.lemmas.Fmt.{decimal_digit, decimal_step}
use Rattle.ee_units.specs.Texts.{two_digits, decimal_text, rate_text, month_text, day_text}
use Rattle.ee_units.specs.Calendar.{year_of, month_of_year, month_of_day, day_of_month}

pub two_padded : (n : ℕ) → n < 100 → styled_decimal (format_spec 32 0 4 2 (2 ^ 64 - 1)) n ≡ two_digits n
unfolding padded_integral char_count
two_padded n small = elim (cases_lt n 10) [
  | inl one ↦
      let d = decimal_digit n one in
      let high : n / 10 ≡ 0 = omega arith in
      let low : n % 10 ≡ n = omega arith in
      rw (d, high, low) refl
  | inr two ↦
      let wide : 100 < 2 ^ 64 = lit< tt in
      let d = decimal_step n two (omega arith) in
      let h : n / 10 < 10 = omega arith in
      rw (d, decimal_digit (n / 10) h) refl
]

pub decimal_text-padded : (n : ℕ) → decimal (n / 100) ++ (46 ∷ styled_decimal (format_spec 32 0 4 2 (2 ^ 64 - 1)) (n % 100)) ≡ decimal_text n
unfolding decimal_text
decimal_text-padded n =
    let small : n % 100 < 100 = omega arith in
    ap (λ t. decimal (n / 100) ++ (46 ∷ t)) (two_padded (n % 100) small)

pub decimal_text-digits : (n : ℕ) → decimal (n / 100) ++ (46 ∷ (decimal (n % 100 / 10) ++ decimal (n % 10))) ≡ decimal_text n
unfolding decimal_text
decimal_text-digits n =
    let tens : n % 100 / 10 < 10 = omega arith in
    let ones : n % 10 < 10 = omega arith in
    let same : n % 10 ≡ n % 100 % 10 = omega arith in
    ap (λ t. decimal (n / 100) ++ (46 ∷ t)) (ap₂ (λ a b. a ++ b) (decimal_digit (n % 100 / 10) tens) (decimal_digit (n % 10) ones ∙ ap (λ d. (48 + d) ∷ []) same))

pub rate_text-padded : (n : ℕ) → decimal (n / 100) ++ (46 ∷ (styled_decimal (format_spec 32 0 4 2 (2 ^ 64 - 1)) (n % 100) ++ (37 ∷ []))) ≡ rate_text n
unfolding rate_text decimal_text
rate_text-padded n =
    let small : n % 100 < 100 = omega arith in
    rw (two_padded (n % 100) small) (sym (append_assoc (decimal (n / 100)) (46 ∷ two_digits (n % 100)) (37 ∷ [])))

pub month_text-padded : (n : ℕ) → decimal (2005 + (n + 4) / 12) ++ (45 ∷ styled_decimal (format_spec 32 0 4 2 (2 ^ 64 - 1)) ((n + 4) % 12 + 1)) ≡ month_text n
unfolding month_text
month_text-padded n =
    let small : (n + 4) % 12 + 1 < 100 = omega arith in
    rw (two_padded ((n + 4) % 12 + 1) small) refl

pub day_text-padded : (n y m d : ℕ) → y ≡ year_of (month_of_day n) → m ≡ month_of_year (month_of_day n) → d ≡ day_of_month n → d < 100
    → decimal y ++ (45 ∷ (styled_decimal (format_spec 32 0 4 2 (2 ^ 64 - 1)) m ++ (45 ∷ styled_decimal (format_spec 32 0 4 2 (2 ^ 64 - 1)) d))) ≡ day_text n
unfolding month_text day_text
day_text-padded n y m d ey em ed small =
    let fits : m < 100 = omega (arith, em) in
    rw (two_padded m fits, two_padded d small, ey, em, ed) (sym (append_assoc (decimal (year_of (month_of_day n))) (45 ∷ two_digits (month_of_year (month_of_day n))) (45 ∷ two_digits (day_of_month n))))
