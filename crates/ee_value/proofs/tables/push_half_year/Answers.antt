use Rattle.std.proofs.Common.{◌≡◌, ◌+◌, ◌*◌, ◌++◌, ◌∷◌, [], map, false, below_more, sym, ap, ◌∙◌, arith}
use Rattle.std.specs.List.{range_with_len}
use Rattle.std.proofs.lemmas.List.FromFn.{map-range_with_len_more}
use Rattle.ee_value.specs.Value.{accrued}
use Rattle.ee_value.specs.Open.{is_open}
use Rattle.ee_value.proofs.Starts.{start-le, start-ge}
use Rattle.ee_value.proofs.Accruals.{walk_some, walk_none}
use Rattle.ee_value.proofs.tables.push_half_year.Goals as goal

pub grown_unit-requires-clause-some : goal.grown_unit-requires-clause-some
grown_unit-requires-clause-some c =
    omega (arith, c.requires.begun, start-ge c.args.rates.now c.args.half_year c.rate_in-rate.ensures.range)

pub grown_unit-requires-clause-small : goal.grown_unit-requires-clause-small
grown_unit-requires-clause-small c =
    omega (arith, c.requires.begun, start-le c.args.rates.now c.args.half_year c.rate_in-rate.ensures.range (omega arith))

pub returns-in-None : goal.returns-in-None
returns-in-None c =
    let m = c.loop-months.months in let rates = c.args.rates.now in let b = c.args.powers.now.bits in let k = c.args.half_year in
    let opened = walk_none rates b k c.loop-months.months c.args.unit c.rate_in-rate.result c.requires.early (omega arith) c.requires.begun c.rate_in-rate.ensures.value c.in-None.ensures.0 in
    let at : c.from_months-age.result ≡ 6 * k + m = omega arith in
    rw at (opened, c.loop-months.invariant.settled)

pub loop-months-preserved : goal.loop-months-preserved
loop-months-preserved c =
    let rates = c.args.rates.now in let b = c.args.powers.now.bits in let k = c.args.half_year in let m = c.loop-months.months in
    let v = walk_some rates b k c.loop-months.months c.args.unit c.rate_in-rate.result c.in-Some.value c.requires.early (omega arith) c.requires.begun c.rate_in-rate.ensures.value c.in-Some.ensures in
    let next : 6 * c.args.half_year + (c.loop-months.months + 1) ≡ 6 * c.args.half_year + c.loop-months.months + 1 = omega arith in
    rw next (record {
      filled = c.in_ok-push-in-Some.ensures.items ∙ ap (λ xs. xs ++ c.in-Some.value ∷ []) c.loop-months.invariant.filled
          ∙ ap (λ x. map (accrued rates) (range_with_len 0 (6 * k + m)) ++ x ∷ []) v.1
          ∙ sym (map-range_with_len_more (accrued rates) 0 (6 * k + m) (6 * k + m) (omega arith));
      settled = below_more (λ a. is_open rates a b ≡ false) _ c.loop-months.invariant.settled v.0;
    })
