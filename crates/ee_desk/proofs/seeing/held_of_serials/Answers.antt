use Rattle.std.proofs.Common.{sym, ◌∙◌}
use Rattle.ee_desk_model.specs.Seen.{held_of}
use Rattle.ee_desk_model.proofs.Lemmas.Maps.{serials_total, serials_exact}
use Rattle.ee_desk_decide.specs.Inner.Noted.{noted}
use Rattle.ee_desk_decide.proofs.Lemmas.{found_for_next}
use Rattle.ee_desk.proofs.seeing.held_of_serials.Goals as goal

pub loop-serial-preserved : goal.loop-serial-preserved
loop-serial-preserved c =
    c.in_ok-note_held.ensures ∙ (λ i. noted (held_of c.args.ledger.now) (c.loop-serial.invariant i) (c.serial-item.is i))
    ∙ sym (found_for_next serials_total serials_exact (held_of c.args.ledger.now) c.args.serials.now c.loop-serial.serial-index c.serial-item.result c.loop-serial-test.true)
