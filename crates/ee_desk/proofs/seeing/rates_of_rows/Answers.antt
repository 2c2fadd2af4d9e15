use Rattle.std.proofs.Common.{sym, ◌∙◌}
use Rattle.std.specs.FinMap as finite
use Rattle.std.specs.Cmp.{nat_cmp_total}
use Rattle.std.specs.FinMap.{nat_cmp-IsAntisymmetric}
use Rattle.ee_desk_decide.specs.Inner.Noted.{noted}
use Rattle.ee_desk_decide.proofs.Lemmas.{found_for_next_key}
use Rattle.ee_desk.proofs.seeing.rates_of_rows.Goals as goal

pub loop-row-preserved : goal.loop-row-preserved
loop-row-preserved c =
    c.in_ok-note_rate.ensures ∙ (λ i. noted (finite.get c.args.ledger.now.rates) (c.loop-row.invariant i) (c.row-item.is i).from)
    ∙ sym (found_for_next_key nat_cmp_total nat_cmp-IsAntisymmetric (finite.get c.args.ledger.now.rates) (λ row. row.from) c.args.rows.now c.loop-row.row-index c.row-item.result c.loop-row-test.true)
