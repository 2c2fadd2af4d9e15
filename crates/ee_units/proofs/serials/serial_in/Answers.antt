use Rattle.std.proofs.lemmas.Bool.{false≢true}
use Rattle.ee_units.proofs.Texts.{no_serial}
use Rattle.ee_units.proofs.serials.serial_in.Goals as goal

pub returns-in_err-letter : goal.returns-in_err-letter
returns-in_err-letter c = rw (c.from_residual.ensures, no_serial c.args.text.now c.utf8.text (λ cut. false≢true (c.in_err-letter.ensures.variant.1 cut)))
