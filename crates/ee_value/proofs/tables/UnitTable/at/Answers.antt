use Rattle.std.proofs.Common.{◌≡◌, ◌<◌, ℕ, List, min, map, get_or, ap, ◌∙◌, arith}
use Rattle.std.specs.List.{range_with_len}
use Rattle.std.proofs.lemmas.List.FromFn.{get_or-map-range_with_len}
use Rattle.ee_value.specs.declared.rates.Rates.{Rates}
use Rattle.ee_value.specs.Value.{accrued}
use Rattle.ee_value.proofs.Accruals.{accrued-counted, accrued-ge, accrued-le}
use Rattle.ee_value.proofs.tables.UnitTable.at.Goals as goal

read_value : (r : Rates) (a i x : ℕ) (xs : List ℕ) → xs ≡ map (accrued r) (range_with_len 0 361) → i ≡ min a 360 → x ≡ get_or xs i x → x ≡ accrued r a
read_value r a i x xs table counted read =
    let k : min a 360 < 361 = omega arith in
    read ∙ ap (λ ys. get_or ys i x) table ∙ ap (λ j. get_or (map (accrued r) (range_with_len 0 361)) j x) counted
    ∙ get_or-map-range_with_len (accrued r) 0 361 (min a 360) (min a 360) x k (omega arith) ∙ accrued-counted r a

pub returns-clause-value : goal.returns-clause-value
returns-clause-value c =
    let counted : c.from.result ≡ min c.args.age 360 = c.from.ensures ∙ c.min.ensures ∙ ap (λ n. min n 360) c.months.ensures.value in
    read_value c.self.inside.rates c.args.age c.from.result c.index.result.now c.self.inside.units.items c.self.invariant.0 counted c.index.ensures
    ∙ ap (λ x. accrued x c.args.age) c.self.view_is

pub returns-clause-at_least_price : goal.returns-clause-at_least_price
returns-clause-at_least_price c =
    let r = c.self.inside.rates in
    let v = read_value r c.args.age c.from.result c.index.result.now c.self.inside.units.items c.self.invariant.0 (c.from.ensures ∙ c.min.ensures ∙ ap (λ n. min n 360) c.months.ensures.value) c.index.ensures in
    omega (arith, v, accrued-ge r c.args.age c.self.invariant.1)

pub returns-clause-small : goal.returns-clause-small
returns-clause-small c =
    let r = c.self.inside.rates in
    let v = read_value r c.args.age c.from.result c.index.result.now c.self.inside.units.items c.self.invariant.0 (c.from.ensures ∙ c.min.ensures ∙ ap (λ n. min n 360) c.months.ensures.value) c.index.ensures in
    omega (arith, v, accrued-le r c.args.age c.self.invariant.1)
