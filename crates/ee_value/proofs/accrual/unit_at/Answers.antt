use Rattle.std.proofs.Common.{◌≡◌, ◌/◌, ◌%◌, true, false, min, ap, ◌∙◌, arith, refl}
use Rattle.ee_value.specs.Chain.{rate_in, start}
use Rattle.ee_value.specs.Value.{accrued}
use Rattle.ee_value.specs.Open.{is_open, Close}
use Rattle.ee_value.specs.declared.faults.Unsettled.{Unsettled}
use Rattle.ee_value.proofs.Accruals.{rounds_part}
use Rattle.ee_value.proofs.OpenAges.{unit_answer, err_part}
use Rattle.std.specs.Option.{ok_or}
use Rattle.ee_value.proofs.Starts.{start-le, start-ge}
use Rattle.ee_value.proofs.accrual.unit_at.Goals as goal

pub grown_once-requires-clause-some : goal.grown_once-requires-clause-some
grown_once-requires-clause-some c =
    omega (arith, c.start_unit-start.ensures, start-ge c.args.rates (c.min-counted.result / 6) c.rate_in-rate.ensures.range)

pub grown_once-requires-clause-small : goal.grown_once-requires-clause-small
grown_once-requires-clause-small c =
    omega (arith, c.start_unit-start.ensures, start-le c.args.rates (c.min-counted.result / 6) c.rate_in-rate.ensures.range (omega arith))

pub returns-clause-value : goal.returns-clause-value
returns-clause-value c =
    let rates = c.args.rates in let a = c.args.age in let b = c.args.bits in
    let e : Unsettled = record { age = c.args.age } in
    rw c.ok_or.ensures.value (unit_answer rates a b c.start_unit-start.result c.rate_in-rate.result c.min-counted.result c.grown_once.result e
    (λ x. (is_open rates a b ≡ true) × (x.age ≡ c.args.age))
    (c.min-counted.ensures ∙ ap (λ n. min n 360) c.months-months.ensures.value) c.start_unit-start.ensures c.rate_in-rate.ensures.value c.grown_once.ensures (λ p. (p.0, refl)))

pub returns-clause-close : goal.returns-clause-close
returns-clause-close c =
    let rates = c.args.rates in let a = c.args.age in let b = c.args.bits in
    let e : Unsettled = record { age = c.args.age } in
    let both = unit_answer rates a b c.start_unit-start.result c.rate_in-rate.result c.min-counted.result c.grown_once.result e
    (λ x. Close (start rates (a / 6)) (rate_in rates (a / 6)) (a % 6) b)
    (c.min-counted.ensures ∙ ap (λ n. min n 360) c.months-months.ensures.value) c.start_unit-start.ensures c.rate_in-rate.ensures.value c.grown_once.ensures (λ p. p.1) in
    rw c.ok_or.ensures.value (err_part (ok_or c.grown_once.result e) (λ n. (is_open rates a b ≡ false) × (n ≡ accrued rates a))
    (λ _. Close (start rates (a / 6)) (rate_in rates (a / 6)) (a % 6) b) both)

pub returns-clause-rounds : goal.returns-clause-rounds
returns-clause-rounds c =
    let rates = c.args.rates in let a = c.args.age in let b = c.args.bits in
    let e : Unsettled = record { age = c.args.age } in
    rw c.ok_or.ensures.value (rounds_part (ok_or c.grown_once.result e) rates a (λ _. is_open rates a b ≡ false)
    (λ x. (is_open rates a b ≡ true) × (x.age ≡ c.args.age)) c.rate_in-rate.ensures.range
    (unit_answer rates a b c.start_unit-start.result c.rate_in-rate.result c.min-counted.result c.grown_once.result e
    (λ x. (is_open rates a b ≡ true) × (x.age ≡ c.args.age))
    (c.min-counted.ensures ∙ ap (λ n. min n 360) c.months-months.ensures.value) c.start_unit-start.ensures c.rate_in-rate.ensures.value c.grown_once.ensures (λ p. (p.0, refl))))
