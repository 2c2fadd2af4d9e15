use Rattle.std.proofs.Common.{ap, sym, ◌∙◌, take}
use Rattle.std.specs.FinMap.{nat_cmp-IsAntisymmetric}
use Rattle.std.specs.Cmp.{nat_cmp_total}
use Rattle.ee_desk_decide.specs.Noted.{rates_in}
use Rattle.ee_desk_decide.specs.Inner.NewRows.{rate_row, with_row}
use Rattle.ee_desk.specs.Inner.Added.{without_changes}
use Rattle.ee_desk.proofs.Added.{undone, new_take, with_more}
use Rattle.ee_desk.proofs.additions.add_rates.Goals as goal

pub returns-in-Err-clause-err : goal.returns-in-Err-clause-err
returns-in-Err-clause-err c =
    c.take_rates.ensures ∙ ap (λ m. without_changes rate_row m (take c.loop-i.i c.args.changes.now)) (ap rates_in c.in-Err.ensures.err ∙ c.loop-i.invariant)
    ∙ undone nat_cmp_total nat_cmp-IsAntisymmetric rate_row _ (take c.loop-i.i c.args.changes.now) (new_take rate_row _ c.loop-i.i c.args.changes.now c.requires)

pub loop-i-preserved : goal.loop-i-preserved
loop-i-preserved c =
    c.in-Ok.ensures.ok ∙ (λ i. with_row (c.loop-i.invariant i) (rate_row (c.index-changes-i.is i)))
    ∙ sym (with_more rate_row _ c.args.changes.now c.loop-i.i c.index-changes-i.result c.loop-i-test.true)
