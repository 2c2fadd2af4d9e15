-- The number that clap read, and its text.
use Rattle.std.proofs.Common.{◌≡◌, ◌∙◌, ℕ, ◌<◌, ◌≤◌, ◌^◌, true, false, List, Option, Some, None, Result, Ok, Err, refl, sym, ap, inl, inr, true≢false}
use Rattle.std.specs.Prelude.{option_and_then, nat_le, ◌&&◌}
use Rattle.std.specs.Str.Parse.{ParsesUnsigned, IsNumeral, digits_value, without_leading_plus}
use Rattle.std.proofs.lemmas.Bool.{cases_Bool, and_parts, leb-true, le-leb}
use Rattle.clap.specs.Words.{ReadsOne}
use Rattle.clap.specs.ValueTests.{is_unsigned_in}
use Rattle.clap.proofs.ValueTestLemmas.{accepts-Accepts, Accepts-accepts}
use Rattle.clap.specs.declared.builder.ValueParser.TheVariants as parser
use Rattle.ee_units.specs.Spelling.{in_range}
use Rattle.ee_cli_commands.specs.CommandLine.{number_word}

-- the number, at a text that is one
at_number : (most : ℕ) (t : List ℕ) (n : ℕ) → IsNumeral 10 (without_leading_plus t) → digits_value 10 (without_leading_plus t) < 2 ^ 64 → n ≡ digits_value 10 (without_leading_plus t) → in_range 1 most n ≡ number_word most t
at_number most t n num fits e = elim (cases_Bool (nat_le 1 n && nat_le n most)) [
  | inl holds ↦
      let p = and_parts (nat_le 1 n) (nat_le n most) holds in
      let low : 1 ≤ digits_value 10 (without_leading_plus t) = rw e at (leb-true 1 n p.0) in
      let high : digits_value 10 (without_leading_plus t) ≤ most = rw e at (leb-true n most p.1) in
      let inside : is_unsigned_in 1 most t ≡ true = Accepts-accepts false (parser.Unsigned 1 most) t (num, fits, low, high) in
      rw (holds, inside) (ap Some e)
  | inr fails ↦ elim (cases_Bool (is_unsigned_in 1 most t)) [
    | inl inside ↦
        let a = accepts-Accepts false (parser.Unsigned 1 most) t inside in
        let low : 1 ≤ n = rw e (a.2) in
        let high : n ≤ most = rw e (a.3) in
        let both : (nat_le 1 n && nat_le n most) ≡ true = rw (le-leb 1 n low, le-leb n most high) refl in
        absurd (true≢false (sym both ∙ fails))
    | inr outside ↦ rw (fails, outside) refl
  ]
]

-- no number, at a text that is none
at_none : (most : ℕ) (t : List ℕ) → ¬ (IsNumeral 10 (without_leading_plus t) × (digits_value 10 (without_leading_plus t) < 2 ^ 64)) → None ≡ number_word most t
at_none most t bad = elim (cases_Bool (is_unsigned_in 1 most t)) [
  | inl inside ↦ let a = accepts-Accepts false (parser.Unsigned 1 most) t inside in absurd (bad (a.0, a.1))
  | inr outside ↦ rw outside refl
]

-- what `get_one` reads, seen by its range
pub number_read : {E : Type 0} (most : ℕ) (gives : List ℕ → Result ℕ E → Type 0) (o : Option (List ℕ)) (r : Option ℕ) → ((bs : List ℕ) (x : Result ℕ E) → gives bs x → ParsesUnsigned 64 10 bs x)
    → (o ≡ None → r ≡ None) → ((t : List ℕ) → o ≡ Some t → ReadsOne gives t r)
    → option_and_then (in_range 1 most) r ≡ option_and_then (number_word most) o
number_read most gives None r parses none some = rw (none refl) refl
number_read most gives (Some t) (Some n) parses none some = let h = parses t (Ok n) (some t refl) in at_number most t n h.0.0 h.0.1 h.1
number_read most gives (Some t) None parses none some = let (e, h) = some t refl in at_none most t (parses t (Err e) h)
