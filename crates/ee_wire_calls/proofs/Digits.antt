-- A text of digits as `parse` reads it.
use Rattle.std.proofs.Common.{◌≡◌, ℕ, Bool, true, false, ◌&&◌, ◌<◌, ◌≤◌, ◌^◌, List, [], ◌∷◌, length, drop, cond, refl, sym, ap, arith, Result, Err, None, subst, eqb}
use Rattle.std.specs.List.{list_all}
use Rattle.std.specs.Char.{is_ascii_digit, digit_value}
use Rattle.std.specs.Str.Parse.{AllDigits, IsNumeral, digits_value, ParsesUnsigned, without_leading_plus}
use Rattle.std.proofs.lemmas.Int.Digits.{digits_value-lt}
use Rattle.std.proofs.lemmas.Result.{OkIff-at_err}
use Rattle.std.proofs.Math.Nat.{pow-le-pow_right}
use Rattle.std.proofs.lemmas.Bool.Decides.{nat_tests}
use Rattle.ee_wire_calls.specs.Kinds.{number_text}

both : (a b : Bool) → a && b ≡ true → (a ≡ true) × (b ≡ true)
both true true h = (refl, refl)
both true false h = absurd (cc)
both false b h = absurd (cc)

digit : (c : ℕ) → is_ascii_digit c ≡ true → digit_value c < 10
digit c h = grind (arith, nat_tests)

not_plus : (c : ℕ) → is_ascii_digit c ≡ true → eqb c 43 ≡ false
not_plus c h = grind (arith, nat_tests)

all_digits : (cs : List ℕ) → list_all is_ascii_digit cs ≡ true → AllDigits 10 cs
all_digits [] h = tt
all_digits (c ∷ cs) h = (digit c (both (is_ascii_digit c) (list_all is_ascii_digit cs) h).0, all_digits cs (both (is_ascii_digit c) (list_all is_ascii_digit cs) h).1)

no_plus : (cs : List ℕ) → list_all is_ascii_digit cs ≡ true → without_leading_plus cs ≡ cs
no_plus [] h = refl
no_plus (c ∷ cs) h = ap (λ b. drop (cond b 1 0) (c ∷ cs)) (not_plus c (both (is_ascii_digit c) (list_all is_ascii_digit cs) h).0)

small : (n v : ℕ) → n ≤ 19 → v < 10 ^ n → v < 2 ^ 64
small n v h below =
    let few : n ≤ 19 = h in
    let positive : 0 < 10 = omega arith in
    let power : 10 ^ n ≤ 10 ^ 19 = pow-le-pow_right positive few in omega (arith, power, below)

-- `parse` fails on such digits only if there are none
pub not_parsed : {E : Type 0} (cs : List ℕ) (r : Result ℕ E) (e : E) → list_all is_ascii_digit cs ≡ true → length cs ≤ 19 → ParsesUnsigned 64 10 cs r → r ≡ Err e → number_text cs ≡ None
not_parsed [] r e all short p is = refl
not_parsed (c ∷ cs) r e all short p is =
    let same = no_plus (c ∷ cs) all in
    let numeral : IsNumeral 10 (c ∷ cs) = (omega arith, all_digits (c ∷ cs) all) in
    let below : digits_value 10 (c ∷ cs) < 2 ^ 64 = small (length (c ∷ cs)) (digits_value 10 (c ∷ cs)) short (digits_value-lt 10 (c ∷ cs) numeral.1) in
    absurd (OkIff-at_err r _ _ e p is (subst (λ (ds : List ℕ). IsNumeral 10 ds × (digits_value 10 ds < 2 ^ 64)) (sym same) (numeral, below)))
