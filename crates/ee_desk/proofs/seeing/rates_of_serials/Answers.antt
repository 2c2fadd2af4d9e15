use Rattle.std.proofs.Common.{ℕ, Option, sym, ◌∙◌}
use Rattle.std.specs.Option.{option_map}
use Rattle.std.specs.FinMap as finite
use Rattle.std.specs.FinMap.{nat_cmp-IsAntisymmetric}
use Rattle.std.specs.Cmp.{nat_cmp_total}
use Rattle.ee_units.specs.Spelling.{SerialNumber}
use Rattle.ee_desk_model.specs.Seen.{held_of}
use Rattle.ee_desk_model.specs.Views.{period_of_held}
use Rattle.ee_desk_decide.specs.Inner.Noted.{noted_at}
use Rattle.ee_desk_decide.proofs.Lemmas.{found_for_next_if}
use Rattle.ee_desk.proofs.seeing.rates_of_serials.Goals as goal

pub loop-serial-preserved : goal.loop-serial-preserved
loop-serial-preserved c =
    let key : SerialNumber → Option ℕ = λ s. option_map period_of_held (held_of c.args.ledger.now s) in
    c.in_ok-note_bond_rate.ensures ∙ (λ i. noted_at (finite.get c.args.ledger.now.rates) (c.loop-serial.invariant i) (key (c.serial-item.is i)))
    ∙ sym (found_for_next_if nat_cmp_total nat_cmp-IsAntisymmetric (finite.get c.args.ledger.now.rates) key c.args.serials.now c.loop-serial.serial-index c.serial-item.result c.loop-serial-test.true)
