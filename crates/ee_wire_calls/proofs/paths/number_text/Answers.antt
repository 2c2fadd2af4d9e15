use Rattle.std.proofs.Common.{sym, arith}
use Rattle.ee_wire_calls.proofs.Digits.{not_parsed}
use Rattle.ee_wire_calls.proofs.paths.number_text.Goals as goal

pub returns-in_default-3 : goal.returns-in_default-3
returns-in_default-3 c =
    sym (not_parsed c.args.text.now c.parse.result c.in_default.field-0 (sym c.if-not-is_all_digits.ensures) (omega arith) c.parse.ensures.value.0 c.in_default.is)
