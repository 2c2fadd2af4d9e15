use Rattle.ee_wire_framing.proofs.FieldSteps.{word_test}
use Rattle.ee_wire_framing.proofs.fields.same_word.Goals as goal

pub returns : goal.returns
returns c = word_test c.eq_ignore_ascii_case.result c.args.a.now c.args.b.now c.eq_ignore_ascii_case.ensures.test
