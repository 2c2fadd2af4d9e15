use Rattle.std.proofs.Common.{ap, ◌∙◌}
use Rattle.ee_wire_framing.specs.Framing.{same_word}
use Rattle.ee_wire_framing.proofs.FieldSteps.{values_step}
use Rattle.ee_wire_framing.proofs.fields.values_of.Goals as goal

pub loop-field-preserved : goal.loop-field-preserved
loop-field-preserved c =
    values_step c.args.lines.now c.args.name.now c.args.fields.now c.loop-field.field-index _ c.same_word-is_named.result c.loop-field.values c.next_if-values.result c.loop-field-test.true
    c.requires (c.same_word-is_named.ensures ∙ ap (λ l. same_word l c.args.name.now) c.of.ensures) c.loop-field.invariant c.next_if-values.ensures
