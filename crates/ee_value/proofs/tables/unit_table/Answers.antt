use Rattle.std.proofs.Common.{◌++◌, ◌∷◌, [], map, sym, ap, ◌∙◌, arith, refl, inl, inr, subst}
use Rattle.std.specs.List.{range_with_len}
use Rattle.std.proofs.lemmas.Bool.{cases_lt}
use Rattle.std.proofs.lemmas.List.FromFn.{map-range_with_len_more}
use Rattle.ee_roots.specs.Roots.{Bounds, IsLow, IsHigh}
use Rattle.ee_value.specs.Chain.{rate_in}
use Rattle.ee_value.specs.Value.{accrued}
use Rattle.ee_value.proofs.Starts.{start-none, rate-original, rate-extended}
use Rattle.ee_value.proofs.OpenAges.{open-past}
use Rattle.ee_value.proofs.FirstOpen.{first_open-None}
use Rattle.ee_value.proofs.Accruals.{accrued-start}
use Rattle.ee_value.proofs.tables.unit_table.Goals as goal

pub push_half_years-requires-clause-begun : goal.push_half_years-requires-clause-begun
push_half_years-requires-clause-begun c = sym (start-none c.args.rates)

pub push_half_years-requires-clause-of_low : goal.push_half_years-requires-clause-of_low
push_half_years-requires-clause-of_low c = λ k _ before.
    subst (λ (s : Bounds). IsLow s.bits (rate_in c.args.rates k) s.low) (sym c.of-fixed.ensures)
    (subst (λ r. IsLow c.root_bounds.result.bits r c.root_bounds.result.low) (c.rate_in.ensures.value ∙ rate-original c.args.rates 0 (omega arith) ∙ sym (rate-original c.args.rates k before))
    (rw c.root_bounds.ensures.bits c.root_bounds.ensures.low))

pub push_half_years-requires-clause-of_high : goal.push_half_years-requires-clause-of_high
push_half_years-requires-clause-of_high c = λ k _ before.
    subst (λ (s : Bounds). IsHigh s.bits (rate_in c.args.rates k) s.high) (sym c.of-fixed.ensures)
    (subst (λ r. IsHigh c.root_bounds.result.bits r c.root_bounds.result.high) (c.rate_in.ensures.value ∙ rate-original c.args.rates 0 (omega arith) ∙ sym (rate-original c.args.rates k before))
    (rw c.root_bounds.ensures.bits c.root_bounds.ensures.high))

pub push_half_years-requires-2-clause-of_low : goal.push_half_years-requires-2-clause-of_low
push_half_years-requires-2-clause-of_low c = λ k after _.
    subst (λ r. IsLow c.powers_after-extension.result.bits r c.powers_after-extension.result.low) (rate-extended c.args.rates 40 (omega arith) ∙ sym (rate-extended c.args.rates k after))
    (rw c.powers_after-extension.ensures.bits c.powers_after-extension.ensures.low)

pub push_half_years-requires-2-clause-of_high : goal.push_half_years-requires-2-clause-of_high
push_half_years-requires-2-clause-of_high c = λ k after _.
    subst (λ r. IsHigh c.powers_after-extension.result.bits r c.powers_after-extension.result.high) (rate-extended c.args.rates 40 (omega arith) ∙ sym (rate-extended c.args.rates k after))
    (rw c.powers_after-extension.ensures.bits c.powers_after-extension.ensures.high)

pub invariant_of-result : goal.invariant_of-result
invariant_of-result c =
    let rates = c.args.rates in
    let small = c.rate_in.ensures.range in (
      c.in_ok-push.ensures.items
          ∙ ap (λ xs. xs ++ c.in_ok-unit-2.unit ∷ []) c.in_ok-unit-2.ensures.1
          ∙ ap (λ x. map (accrued rates) (range_with_len 0 360) ++ x ∷ [])
          (c.in_ok-unit-2.ensures.0 ∙ sym (accrued-start rates 60 small (omega arith)))
          ∙ sym (map-range_with_len_more (accrued rates) 0 360 360 (omega arith)),
      small,
    )

pub returns-clause-value : goal.returns-clause-value
returns-clause-value c = (
  λ a. elim (cases_lt a 360) [
    | inl lt ↦ rw (sym (c.powers_after-extension.ensures.bits ∙ ap (λ (s : Bounds). s.bits) c.of-fixed.ensures ∙ c.root_bounds.ensures.bits)) (c.in_ok-unit-2.ensures.2 a lt)
    | inr le ↦ open-past c.args.rates a c.args.bits le
  ],
  refl,
)

pub returns-clause-first_open : goal.returns-clause-first_open
returns-clause-first_open c = first_open-None c.args.rates c.args.bits (returns-clause-value c).0
