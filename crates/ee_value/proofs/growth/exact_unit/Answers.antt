use Rattle.std.proofs.Common.{◌≡◌, ◌+◌, ◌*◌, ◌/◌, sym, ap, ◌∙◌, arith}
use Rattle.ee_value.specs.Rounding.{grown}
use Rattle.ee_value.specs.Open.{is_unsettled}
use Rattle.ee_value.proofs.Rounding.{grown-none, grown-is}
use Rattle.ee_value.proofs.Settled.{Rounds-zero, Rounds-by_root}
use Rattle.ee_value.proofs.OpenAges.{unsettled-none, unsettled-zero, unsettled-exact}
use Rattle.ee_value.proofs.growth.exact_unit.Goals as goal
use Rattle.ee_value.proofs.growth.exact_unit.Goals.{then-months-eq0-via-then-months-eq0, then-months-eq0-via-else-months-eq0+then-hundredths-eq0}

pub returns-then-months-eq0-clause-value : goal.returns-then-months-eq0-clause-value
returns-then-months-eq0-clause-value c =
    let u = c.args.unit in let r = c.args.rate in let m = c.args.months in
    elim c.then-months-eq0.branch [
      | then-months-eq0-via-then-months-eq0 w ↦
          let e = w.if-months-eq0.true in
          (λ b. ap (λ k. is_unsettled u r k b) e ∙ unsettled-none u r b, sym (ap (λ k. grown u r k) e ∙ grown-none u r c.requires.some c.hundredths-hundredths.ensures.range))
      | then-months-eq0-via-else-months-eq0+then-hundredths-eq0 w ↦
          let e : c.args.rate ≡ 0 = omega arith in
          (λ b. ap (λ k. is_unsettled u k m b) e ∙ unsettled-zero u m b, sym (ap (λ k. grown u k m) e ∙ grown-is u 0 m u (omega arith) (omega arith) (Rounds-zero u m c.requires.some)))
    ]

pub returns-in-Some-clause-value : goal.returns-in-Some-clause-value
returns-in-Some-clause-value c =
    let u = c.args.unit in let r = c.args.rate in let n = c.in-Some.growth in
    let e = c.if-months-eq-QUARTER.true in let x = c.in-Some.ensures in (
      λ b. ap (λ k. is_unsettled u r k b) e ∙ unsettled-exact u r b x.0,
      sym (ap (λ k. grown u r k) e ∙ grown-is u r 3 ((2 * u * n + 100) / 200) (omega arith) c.hundredths-hundredths.ensures.range (Rounds-by_root u r n x.1 x.2 c.requires.some)),
    )
