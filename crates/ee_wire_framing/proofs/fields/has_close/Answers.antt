use Rattle.std.proofs.Common.{sym, ap, ◌∙◌, codes}
use Rattle.ee_wire_framing.specs.Framing.{same_word}
use Rattle.ee_wire_framing.proofs.FieldSteps.{close_at}
use Rattle.ee_wire_framing.proofs.fields.has_close.Goals as goal

pub returns-then-same_word-2 : goal.returns-then-same_word-2
returns-then-same_word-2 c =
    sym (close_at c.args.lines.now c.args.fields.now c.loop-field.field-index _ c.loop-field-test.true
    (ap (λ l. same_word l (codes "connection")) (sym c.of.ensures) ∙ sym c.same_word.ensures ∙ c.if-same_word.true)
    (ap (λ l. same_word l (codes "close")) (sym c.of-then-same_word.ensures) ∙ sym c.same_word-then-same_word.ensures ∙ c.if-same_word-2.true))
