use Rattle.std.proofs.Common.{◌∙◌, rules}
use Rattle.ee_units.proofs.Numbers.{parsed, number_of-small, number_of-four}
use Rattle.ee_units.proofs.pieces.number.Goals as goal

pub returns-then-is_number-clause-value : goal.returns-then-is_number-clause-value
returns-then-is_number-clause-value c =
    c.ok.ensures.value ∙ parsed c.args.most c.args.text.now _ c.parse.ensures.value.0 (search rules) c.requires

pub returns-then-is_number-clause-two : goal.returns-then-is_number-clause-two
returns-then-is_number-clause-two c two =
    rw (c.ok.ensures.value ∙ parsed c.args.most c.args.text.now _ c.parse.ensures.value.0 (search rules) c.requires) (number_of-small c.args.most c.args.text.now two)

pub returns-then-is_number-clause-four : goal.returns-then-is_number-clause-four
returns-then-is_number-clause-four c four =
    rw (c.ok.ensures.value ∙ parsed c.args.most c.args.text.now _ c.parse.ensures.value.0 (search rules) c.requires) (number_of-four c.args.most c.args.text.now four)
