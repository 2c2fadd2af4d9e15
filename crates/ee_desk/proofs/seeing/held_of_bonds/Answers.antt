use Rattle.std.proofs.Common.{sym, ◌∙◌}
use Rattle.ee_calculator.specs.declared.bonds.Bond.{Bond}
use Rattle.ee_desk_model.specs.Seen.{held_of}
use Rattle.ee_desk_model.proofs.Lemmas.Maps.{serials_total, serials_exact}
use Rattle.ee_desk_decide.specs.Inner.Noted.{noted}
use Rattle.ee_desk_decide.proofs.Lemmas.{found_for_next_key}
use Rattle.ee_desk.proofs.seeing.held_of_bonds.Goals as goal

pub loop-bond-preserved : goal.loop-bond-preserved
loop-bond-preserved c =
    c.in_ok-note_held.ensures ∙ (λ i. noted (held_of c.args.ledger.now) (c.loop-bond.invariant i) (c.bond-item.is i).serial)
    ∙ sym (found_for_next_key serials_total serials_exact (held_of c.args.ledger.now) (λ (b : Bond). b.serial) c.args.bonds.now c.loop-bond.bond-index c.bond-item.result c.loop-bond-test.true)
