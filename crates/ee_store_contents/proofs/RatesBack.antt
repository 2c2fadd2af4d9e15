-- Rows of rates, with those of extensions, are read as the terms that they were made of, and as no others.
use Rattle.std.proofs.Common.{◌≡◌, ◌==◌, ℕ, ◌≤◌, Bool, true, false, cond, List, [], ◌∷◌, map, filter_map, arith, refl, sym, ap, ◌∙◌, subst}
use Rattle.std.specs.Prelude.{T, Option, Some, None, IfSome, option_map}
use Rattle.std.specs.List.{AllByRecursion, cons_option}
use Rattle.std.specs.Ordering.{nat_cmp, is_lt}
use Rattle.std.specs.Cmp.{nat_cmp_total, tied_itself}
use Rattle.std.specs.FinMap.{is_sorted}
use Rattle.std.specs.FinMap.Entries.{below_all}
use Rattle.std.proofs.lemmas.Bool.{eqb-true, eq-eqb, ne_eqb}
use Rattle.std.proofs.Math.Facts.{yes_and, and_yes}
use Rattle.std.proofs.lemmas.Option.{same_Some}
use Rattle.ee_units.specs.Spelling.{◌>>=◌}
use Rattle.ee_units.proofs.Lemmas.{in_range-is, in_range_back}
use Rattle.ee_value.specs.declared.rates.Rates.{Rates}
use Rattle.ee_value.specs.declared.rates.RateRow.{RateRow}
use Rattle.ee_value.specs.Chain.{InRange, rates_with, named_extension}
use Rattle.ee_value.proofs.Lemmas.{rates-back}
use Rattle.ee_desk_texts.specs.Ranges.{RateRowFits}
use Rattle.ee_store_load.specs.declared.entries.StoredRate.{StoredRate}
use Rattle.ee_store_load.specs.Shown.{rate_entry}
use Rattle.ee_store_contents.proofs.StoredRows.{stored_rate, extension_row, stored_extension}
use Rattle.ee_store_contents.specs.Inner.Reading.{optional_in, issue_in, rate_of, other_rate, rate_in, extension_of, after_extension, rates_in}
use Rattle.ee_store_rows.proofs.Lemmas.{some_from_bind}
use Rattle.ee_store_load.proofs.Lemmas.{bind_some}
use Rattle.ee_store_contents.proofs.ReadBack.{optional_read, map_is, issue_is}

-- ---- one row
cond_else : {A : Type 0} (b : Bool) (o : Option A) (y : A) → cond b None o ≡ Some y → (b ≡ false) × (o ≡ Some y)
cond_else true o y e = absurd (cc)
cond_else false o y e = (refl, e)

-- a rate in range that is another than the fixed one
abbrev IsOther : ℕ → ℕ → Type 0
IsOther fixed rate = (rate ≤ 2000) × ((rate == fixed) ≡ false)

other_read : (fixed rate : ℕ) → IsOther fixed rate → other_rate fixed rate ≡ Some rate
other_read fixed rate h =
    bind_some (rate_of rate) rate (λ rate. cond (rate == fixed) None (Some rate)) (Some rate) (in_range_back 0 2000 rate (omega arith) h.0) (ap (λ b. cond b None (Some rate)) h.1)

other_is : (fixed hundredths rate : ℕ) → other_rate fixed hundredths ≡ Some rate → (hundredths ≡ rate) × ((rate == fixed) ≡ false)
other_is fixed hundredths rate e =
    let read = some_from_bind (rate_of hundredths) (λ rate. cond (rate == fixed) None (Some rate)) rate e in
    let apart = cond_else (read.0 == fixed) (Some read.0) rate read.2 in
    let same = same_Some read.0 rate apart.1 in
    ((in_range-is 0 2000 hundredths read.0 read.1).0 ∙ same, ap (λ n. n == fixed) (sym same) ∙ apart.0)

other_named : (fixed extension : ℕ) (b : Bool) → (extension == fixed) ≡ b → extension ≤ 2000 → IfSome (cond b None (Some extension)) (IsOther fixed)
other_named fixed extension true same small = tt
other_named fixed extension false apart small = (small, apart)

named_fits : (rates : Rates) → InRange rates → IfSome (named_extension rates) (IsOther rates.fixed)
unfolding named_extension
named_fits rates h = other_named rates.fixed rates.extension (rates.extension == rates.fixed) refl h.1

none_named : (fixed : ℕ) → named_extension (rates_with fixed None) ≡ None
unfolding named_extension
none_named fixed = ap (λ b. cond b None (Some fixed)) (eq-eqb fixed fixed refl)

one_named : (fixed extension : ℕ) → (extension == fixed) ≡ false → named_extension (rates_with fixed (Some extension)) ≡ Some extension
unfolding named_extension
one_named fixed extension apart = ap (λ b. cond b None (Some extension)) apart

fixed_with : (fixed : ℕ) (extension : Option ℕ) → (rates_with fixed extension).fixed ≡ fixed
fixed_with fixed None = refl
fixed_with fixed (Some extension) = refl

named_is : (fixed : ℕ) (hundredths extension : Option ℕ) → optional_in (other_rate fixed) hundredths ≡ Some extension → hundredths ≡ named_extension (rates_with fixed extension)
named_is fixed None extension e = sym (none_named fixed) ∙ ap (λ o. named_extension (rates_with fixed o)) (same_Some None extension e)
named_is fixed (Some n) extension e =
    let one = map_is (other_rate fixed n) extension e in
    let other = other_is fixed n one.0 one.1 in
    ap Some other.0 ∙ sym (one_named fixed one.0 other.1) ∙ ap (λ o. named_extension (rates_with fixed o)) (sym one.2)

pub rate_read : (row : RateRow) → RateRowFits row → rate_in (named_extension row.rates) (stored_rate row) ≡ Some row
unfolding rate_in
rate_read row h =
    bind_some (issue_in row.from) row.from _ _ (in_range_back 0 1135 row.from (omega arith) h.0)
    (bind_some (rate_of row.rates.fixed) row.rates.fixed _ _ (in_range_back 0 2000 row.rates.fixed (omega arith) h.1.0)
    (bind_some (optional_in (other_rate row.rates.fixed) (named_extension row.rates)) (named_extension row.rates) _ _
    (optional_read (other_rate row.rates.fixed) (IsOther row.rates.fixed) (other_read row.rates.fixed) (named_extension row.rates) (named_fits row.rates h.1))
    (λ i. Some (record { from = row.from; rates = rates-back row.rates i }))))

pub rate_is : (extension : Option ℕ) (row : StoredRate) (rate : RateRow) → rate_in extension row ≡ Some rate → (row ≡ stored_rate rate) × (extension ≡ named_extension rate.rates)
unfolding rate_in
rate_is extension row rate e =
    let from = some_from_bind (issue_in row.period) _ rate e in
    let fixed = some_from_bind (rate_of row.rate) _ rate from.2 in
    let other = some_from_bind (optional_in (other_rate fixed.0) extension) _ rate fixed.2 in
    let is = same_Some _ rate other.2 in
    let own = (in_range-is 0 2000 row.rate fixed.0 fixed.1).0 ∙ sym (fixed_with fixed.0 other.0) in (
      (λ i. record { period = issue_is row.period from.0 from.1 i; rate = own i }) ∙ ap stored_rate is,
      named_is fixed.0 extension other.0 other.1 ∙ ap (λ (r : RateRow). named_extension r.rates) is,
    )

-- ---- all rows
other_period : (period later : ℕ) → T (is_lt (nat_cmp period later)) → (later == period) ≡ false
other_period period later below =
    ne_eqb later period (λ same. subst (λ r. T (is_lt r)) (tied_itself nat_cmp_total period) (subst (λ n. T (is_lt (nat_cmp period n))) same below))

-- rows of later periods alone
none_at : (period : ℕ) (rows : List StoredRate) → T (below_all nat_cmp period (map rate_entry rows)) → (extension_of period rows ≡ None) × (after_extension period rows ≡ rows)
none_at period [] later = (refl, refl)
none_at period (row ∷ rows) later =
    let below = (and_yes (is_lt (nat_cmp period row.period)) (below_all nat_cmp period (map rate_entry rows)) later).0 in
    let apart : (row.period == period) ≡ false = other_period period row.period below in
    (ap (λ b. cond b (Some row.rate) None) apart, ap (λ b. cond b rows (row ∷ rows)) apart)

-- the extension of a period, before those of later ones
one_at : (period : ℕ) (extension : Option ℕ) (rows : List StoredRate) → T (below_all nat_cmp period (map rate_entry rows))
    → (extension_of period (cons_option (option_map (extension_row period) extension) rows) ≡ extension) × (after_extension period (cons_option (option_map (extension_row period) extension) rows) ≡ rows)
one_at period None rows later = none_at period rows later
one_at period (Some extension) rows later =
    let same = eq-eqb period period refl in
    (ap (λ b. cond b (Some extension) None) same, ap (λ b. cond b rows (extension_row period extension ∷ rows)) same)

extensions_later : (period : ℕ) (rates : List RateRow) → T (below_all nat_cmp period (map rate_entry (map stored_rate rates))) → T (below_all nat_cmp period (map rate_entry (filter_map stored_extension rates)))
extensions_later period [] later = tt
extensions_later period (row ∷ rates) later =
    let both = and_yes (is_lt (nat_cmp period row.from)) (below_all nat_cmp period (map rate_entry (map stored_rate rates))) later in
    let rest = extensions_later period rates both.1 in
    elim (named_extension row.rates) as (λ o. T (below_all nat_cmp period (map rate_entry (cons_option (option_map (extension_row row.from) o) (filter_map stored_extension rates))))) [
      | None ↦ rest
      | Some extension ↦ yes_and _ _ both.0 rest
    ]

pub rates_read : (rates : List RateRow) → AllByRecursion RateRowFits rates → T (is_sorted nat_cmp (map rate_entry (map stored_rate rates)))
    → rates_in (map stored_rate rates) (filter_map stored_extension rates) ≡ Some rates
rates_read [] h rising = refl
rates_read (row ∷ rates) h rising =
    let rows = map stored_rate rates in
    let extensions = filter_map stored_extension rates in
    let both = and_yes (below_all nat_cmp row.from (map rate_entry rows)) (is_sorted nat_cmp (map rate_entry rows)) rising in
    let first = one_at row.from (named_extension row.rates) extensions (extensions_later row.from rates both.0) in
    (λ i. rate_in (first.0 i) (stored_rate row) >>= λ rate. rates_in rows (first.1 i) >>= λ more. Some (rate ∷ more))
    ∙ bind_some (rate_in (named_extension row.rates) (stored_rate row)) row (λ rate. rates_in rows extensions >>= λ more. Some (rate ∷ more)) (Some (row ∷ rates)) (rate_read row h.0)
    (bind_some (rates_in rows extensions) rates (λ more. Some (row ∷ more)) (Some (row ∷ rates)) (rates_read rates h.1 both.1) refl)

-- the rows are the extension of a period, if they begin with it, and those after it
split_again : (period : ℕ) (rows : List StoredRate) → rows ≡ cons_option (option_map (extension_row period) (extension_of period rows)) (after_extension period rows)
split_again period [] = refl
split_again period (row ∷ rows) = by_case (row.period == period) refl
  where
    by_case : (b : Bool) → (row.period == period) ≡ b → row ∷ rows ≡ cons_option (option_map (extension_row period) (cond b (Some row.rate) None)) (cond b rows (row ∷ rows))
    by_case true same = λ i. record { period = eqb-true row.period period same i; rate = row.rate } ∷ rows
    by_case false apart = refl

pub rates_is : (rows extensions : List StoredRate) (rates : List RateRow) → rates_in rows extensions ≡ Some rates
    → (rows ≡ map stored_rate rates) × (extensions ≡ filter_map stored_extension rates)
rates_is [] [] rates e = let is = same_Some [] rates e in (ap (map stored_rate) is, ap (filter_map stored_extension) is)
rates_is [] (extension ∷ extensions) rates e = absurd (cc)
rates_is (row ∷ rows) extensions rates e =
    let later = after_extension row.period extensions in
    let one = some_from_bind (rate_in (extension_of row.period extensions) row) (λ rate. rates_in rows later >>= λ more. Some (rate ∷ more)) rates e in
    let more = some_from_bind (rates_in rows later) (λ more. Some (one.0 ∷ more)) rates one.2 in
    let own = rate_is (extension_of row.period extensions) row one.0 one.1 in
    let rest = rates_is rows later more.0 more.1 in
    let is = same_Some (one.0 ∷ more.0) rates more.2 in (
      (λ i. own.0 i ∷ rest.0 i) ∙ ap (map stored_rate) is,
      split_again row.period extensions ∙ (λ i. cons_option (option_map (extension_row (own.0 i).period) (own.1 i)) (rest.1 i)) ∙ ap (filter_map stored_extension) is,
    )
