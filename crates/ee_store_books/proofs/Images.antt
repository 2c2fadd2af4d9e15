-- Maps whose entries are those of another map or list in another form.
use Rattle.std.proofs.Common.{◌≡◌, ℕ, Bool, true, false, cond, List, [], ◌∷◌, map, filter_map, Option, None, Some, option_and_then, refl, sym, ap, ◌∙◌, subst}
use Rattle.std.specs.Prelude.{T}
use Rattle.std.specs.Option.{option_map}
use Rattle.std.specs.List.{cons_option}
use Rattle.std.specs.Ordering.{nat_cmp, eq_by_cmp, is_lt}
use Rattle.std.specs.Cmp.{IsTotalOrder, nat_cmp_total, then_total, on_total}
use Rattle.std.proofs.lemmas.Map.Lookups.{exact_pairs, exact_unsigned}
use Rattle.std.specs.declared.cmp.Ordering.{Ordering}
use Rattle.std.specs.FinMap as finite
use Rattle.std.specs.FinMap.{FinMap, IsAntisymmetric, nat_cmp-IsAntisymmetric, entries, entries_sorted, find, is_sorted, from_entries, from_sorted, get-entries, get-from_entries, get-from_sorted, entries-from_sorted, same_map}
use Rattle.std.specs.FinMap.Entries.{below_all}
use Rattle.std.proofs.Math.Facts.{yes_and, and_yes}
use Rattle.ee_units.specs.Spelling.{SerialNumber}
use Rattle.ee_value.specs.declared.rates.Rates.{Rates}
use Rattle.ee_value.specs.Chain.{rates_with, named_extension}
use Rattle.ee_value.proofs.Lemmas.{rates-back}
use Rattle.ee_calculator.specs.declared.bonds.Bond.{Bond}
use Rattle.ee_desk_model.specs.declared.changes.Kept.{Kept}
use Rattle.ee_desk_model.specs.declared.replies.Ticket.{Ticket}
use Rattle.ee_desk_model.specs.Serials.{serial_cmp}
use Rattle.ee_desk_model.specs.Numbers.{RequestKey, number_cmp}
use Rattle.ee_desk_model.specs.Seen.{held_as}
use Rattle.ee_desk_model.proofs.Lemmas.Maps.{serials_total, serials_exact, numbers_total, numbers_exact}
use Rattle.std.proofs.lemmas.Map.Views.{tells_apart}
use Rattle.ee_desk_decide.proofs.Lemmas.{none_below}
use Rattle.ee_store_tables.specs.Keyed.{pair_cmp}
use Rattle.ee_store_rows.specs.Rows.{bond_row, key_of}
use Rattle.ee_store_books.specs.Standing.{desk_rows, rate_rows, extension_entry, extension_rows, bond_rows, reply_rows, reply_row}

pub pair_total : IsTotalOrder pair_cmp
pair_total = then_total (on_total (λ (p : ℕ × ℕ). p.0) nat_cmp_total) (on_total (λ (p : ℕ × ℕ). p.1) nat_cmp_total)

pub pair_same : IsAntisymmetric pair_cmp
pair_same a b e = exact_pairs nat_cmp nat_cmp exact_unsigned exact_unsigned a b e

-- what is found under the key of an image
module _ {K L X Y : Type 0} {R : K → K → Ordering} {S : L → L → Ordering} (o : IsTotalOrder R) (p : IsTotalOrder S) (exact : IsAntisymmetric R)
    (key : K → L) (value : K → X → Y) (alike : (q k : K) → eq_by_cmp S (key q) (key k) ≡ eq_by_cmp R q k) where
  find_step : (q k : K) (x : X) (rest : Option X) (more : Option Y) (b : Bool) → eq_by_cmp R q k ≡ b → more ≡ option_map (value q) rest
      → cond b (Some (value k x)) more ≡ option_map (value q) (cond b (Some x) rest)
  find_step q k x rest more true same is = ap (λ k. Some (value k x)) (sym (tells_apart exact q k same))
  find_step q k x rest more false apart is = is

  find_image : (q : K) (es : List (K × X)) → find S (key q) (map (λ e. (key e.0, value e.0 e.1)) es) ≡ option_map (value q) (find R q es)
  find_image q [] = refl
  find_image q (e ∷ es) =
      ap (λ b. cond b (Some (value e.0 e.1)) (find S (key q) (map (λ e. (key e.0, value e.0 e.1)) es))) (alike q e.0)
      ∙ find_step q e.0 e.1 (find R q es) _ (eq_by_cmp R q e.0) refl (find_image q es)

  pub get_image : (m : FinMap R X) (q : K) → finite.get (from_entries {R = S} (map (λ e. (key e.0, value e.0 e.1)) (entries m))) (key q) ≡ option_map (value q) (finite.get m q)
  get_image m q = get-from_entries p _ (key q) ∙ find_image q (entries m) ∙ ap (option_map (value q)) (sym (get-entries m q))

-- what is found under the key of an entry of which only some are picked
module _ {K X Y : Type 0} {R : K → K → Ordering} (o : IsTotalOrder R) (exact : IsAntisymmetric R) (pick : X → Option Y) where
  abbrev picked : K × X → Option (K × Y)
  picked e = option_map (λ y. (e.0, y)) (pick e.1)

  below_picked : (q : K) (es : List (K × X)) → T (below_all R q es) → T (below_all R q (filter_map picked es))
  below_picked q [] h = tt
  below_picked q (e ∷ es) h =
      let both = and_yes (is_lt (R q e.0)) (below_all R q es) h in
      let rest = below_picked q es both.1 in
      elim (pick e.1) as (λ p. T (below_all R q (cons_option (option_map (λ (y : Y). (e.0, y)) p) (filter_map picked es)))) [
        | None ↦ rest
        | Some y ↦ yes_and _ _ both.0 rest
      ]

  pub sorted_picked : (es : List (K × X)) → T (is_sorted R es) → T (is_sorted R (filter_map picked es))
  sorted_picked [] h = tt
  sorted_picked (e ∷ es) h =
      let both = and_yes (below_all R e.0 es) (is_sorted R es) h in
      let rest = sorted_picked es both.1 in
      elim (pick e.1) as (λ p. T (is_sorted R (cons_option (option_map (λ (y : Y). (e.0, y)) p) (filter_map picked es)))) [
        | None ↦ rest
        | Some y ↦ yes_and _ _ (below_picked e.0 es both.0) rest
      ]

  find_picked : (q : K) (es : List (K × X)) → T (is_sorted R es) → find R q (filter_map picked es) ≡ option_and_then pick (find R q es)
  find_picked q [] h = refl
  find_picked q (e ∷ es) h =
      let both = and_yes (below_all R e.0 es) (is_sorted R es) h in
      let rest = filter_map picked es in
      elim (eq_by_cmp R q e.0) as (λ t. eq_by_cmp R q e.0 ≡ t → find R q (filter_map picked (e ∷ es)) ≡ option_and_then pick (cond t (Some e.1) (find R q es))) [
        | true ↦ λ t. elim (pick e.1) as (λ p. find R q (cons_option (option_map (λ (y : Y). (e.0, y)) p) rest) ≡ p) [
          | None ↦ none_below R q rest (below_picked q es (subst (λ k. T (below_all R k es)) (sym (tells_apart exact q e.0 t)) both.0))
          | Some y ↦ ap (λ b. cond b (Some y) (find R q rest)) t
        ]
        | false ↦ λ t. elim (pick e.1) as (λ p. find R q (cons_option (option_map (λ (y : Y). (e.0, y)) p) rest) ≡ option_and_then pick (find R q es)) [
          | None ↦ find_picked q es both.1
          | Some y ↦ ap (λ b. cond b (Some y) (find R q rest)) t ∙ find_picked q es both.1
        ]
      ] refl

  pub get_picked : (m : FinMap R X) (q : K) → finite.get (from_entries {R = R} (filter_map picked (entries m))) q ≡ option_and_then pick (finite.get m q)
  get_picked m q = get-from_entries o _ q ∙ find_picked q (entries m) (entries_sorted m) ∙ ap (option_and_then pick) (sym (get-entries m q))

-- entries in the order of their keys
pub sorted_entries : {K X : Type 0} {R : K → K → Ordering} → IsTotalOrder R → IsAntisymmetric R → (es : List (K × X)) → T (is_sorted R es) → entries (from_entries {R = R} es) ≡ es
sorted_entries {R = R} o exact es sorted =
    ap entries (same_map o exact (from_entries es) (from_sorted es) (λ q. get-from_entries o es q ∙ sym (get-from_sorted R es q sorted))) ∙ entries-from_sorted R es sorted

-- ---- the tables that are images of maps
pub get_rate : (rates : FinMap nat_cmp Rates) (period : ℕ) → finite.get (rate_rows rates) period ≡ option_map (λ rates. rates.fixed) (finite.get rates period)
get_rate rates period = get_image nat_cmp_total nat_cmp_total nat_cmp-IsAntisymmetric (λ k. k) (λ k (rates : Rates). rates.fixed) (λ q k. refl) rates period

pub get_extension : (rates : FinMap nat_cmp Rates) (period : ℕ) → finite.get (extension_rows rates) period ≡ option_and_then named_extension (finite.get rates period)
get_extension rates period = get_picked nat_cmp_total nat_cmp-IsAntisymmetric named_extension rates period

-- the terms of a period are those of its two rows
terms_again : (o : Option Rates) → o ≡ option_map (λ fixed. rates_with fixed (option_and_then named_extension o)) (option_map (λ (r : Rates). r.fixed) o)
terms_again None = refl
terms_again (Some rates) = ap Some (sym (rates-back rates))

pub get_terms : (rates : FinMap nat_cmp Rates) (period : ℕ)
    → finite.get rates period ≡ option_map (λ fixed. rates_with fixed (finite.get (extension_rows rates) period)) (finite.get (rate_rows rates) period)
get_terms rates period = terms_again (finite.get rates period) ∙ λ i. option_map (λ fixed. rates_with fixed (sym (get_extension rates period) i)) (sym (get_rate rates period) i)

pub extension_entries : (rates : FinMap nat_cmp Rates) → entries (extension_rows rates) ≡ filter_map extension_entry (entries rates)
extension_entries rates = sorted_entries nat_cmp_total nat_cmp-IsAntisymmetric _ (sorted_picked nat_cmp_total nat_cmp-IsAntisymmetric named_extension (entries rates) (entries_sorted rates))

pub get_reply : (kept : FinMap number_cmp Kept) (number : RequestKey) → finite.get (reply_rows kept) number ≡ option_map reply_row (finite.get kept number)
get_reply kept number = get_image numbers_total pair_total numbers_exact (λ k. k) (λ k (kept : Kept). reply_row kept) (λ q k. refl) kept number

pub get_bond : (bonds : FinMap serial_cmp Bond) (tickets : List Ticket) (serial : SerialNumber)
    → finite.get (bond_rows bonds tickets) (key_of serial) ≡ option_map (λ bond. bond_row (held_as tickets serial bond)) (finite.get bonds serial)
get_bond bonds tickets serial =
    get_image serials_total pair_total serials_exact key_of (λ serial (bond : Bond). bond_row (held_as tickets serial bond)) (λ q k. refl) bonds serial

pub get_desk : (version : ℕ) (day last_day : Option ℕ) → finite.get (desk_rows version day last_day) 1 ≡ Some (record { version = version; day = day; last_day = last_day })
get_desk version day last_day = get-from_entries nat_cmp_total ((1, record { version = version; day = day; last_day = last_day }) ∷ []) 1
