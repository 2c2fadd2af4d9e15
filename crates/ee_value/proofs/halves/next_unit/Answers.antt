use Rattle.std.proofs.Common.{◌+◌, ◌*◌, ◌/◌, sym, ◌∙◌, ap}
use Rattle.ee_value.proofs.Rounding.{grown-half_year}
use Rattle.ee_value.proofs.halves.next_unit.Goals as goal

pub returns : goal.returns
returns c =
    ap (λ r. (2 * c.args.unit * (20000 + r) + 20000) / 40000) (c.from.ensures ∙ c.hundredths.ensures.value)
    ∙ sym (grown-half_year c.args.unit c.args.rate c.requires.some c.hundredths.ensures.range)
