use Rattle.std.proofs.Common.{sym, ap, ◌∙◌}
use Rattle.std.specs.FinMap as finite
use Rattle.std.specs.Cmp.{nat_cmp_total}
use Rattle.std.specs.FinMap.{nat_cmp-IsAntisymmetric}
use Rattle.ee_units.specs.Calendar.{period_start}
use Rattle.ee_calculator.specs.declared.bonds.Bond.{Bond}
use Rattle.ee_desk_decide.specs.Noted.{rates_in}
use Rattle.ee_desk_decide.specs.Inner.Noted.{noted}
use Rattle.ee_desk_decide.proofs.Lemmas.{found_for_next_key}
use Rattle.ee_desk.proofs.seeing.rates_of_bonds.Goals as goal

pub loop-bond-preserved : goal.loop-bond-preserved
loop-bond-preserved c =
    c.in_ok-note_rate.ensures ∙ ap (noted (finite.get c.args.ledger.now.rates) (rates_in c.loop-bond.found.entries)) c.period_of.ensures.value ∙ (λ i. noted (finite.get c.args.ledger.now.rates) (c.loop-bond.invariant i) (period_start (c.bond-item.is i).issued))
    ∙ sym (found_for_next_key nat_cmp_total nat_cmp-IsAntisymmetric (finite.get c.args.ledger.now.rates) (λ (b : Bond). period_start b.issued) c.args.bonds.now c.loop-bond.bond-index c.bond-item.result c.loop-bond-test.true)
