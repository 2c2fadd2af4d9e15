use Rattle.std.proofs.Common.{subst, true, Some}
use Rattle.ee_io.specs.Written.{WritesFront}
use Rattle.ee_calculator.specs.Sheets.{sheet_text}
use Rattle.ee_wire.proofs.Texts.{taken}
use Rattle.ee_wire.proofs.bodies.sheet_bytes.Goals as goal

pub returns-in-Ok : goal.returns-in-Ok
returns-in-Ok c =
    taken c.write_sheet.new.writer.items (sheet_text c.args.sheet.now)
    (subst (λ l. WritesFront (Some l) (Some c.write_sheet.new.writer.items) (sheet_text c.args.sheet.now) true) c.new-text.ensures.items c.in-Ok.ensures.written)
