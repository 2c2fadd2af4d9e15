use Rattle.std.proofs.Common.{◌∙◌, rules, ap, arith}
use Rattle.std.specs.Prelude.{option_and_then}
use Rattle.ee_units.specs.Spelling.{in_range, is_number, number_of}
use Rattle.ee_units.proofs.Lemmas.{parse_gives_number}
use Rattle.ee_desk_model.specs.Inner.Desks.{is_desk}
use Rattle.ee_desk_model.proofs.desks.read_desk.Goals as goal

pub returns-then-is_desk : goal.returns-then-is_desk
unfolding is_desk is_number
returns-then-is_desk c =
    c.desk_at.ensures ∙ ap (option_and_then (in_range 0 999)) (c.ok.ensures.value ∙ parse_gives_number 3 c.args.text.now _ c.parse.ensures.value.0 (search rules) (omega arith))

pub returns-else-is_desk : goal.returns-else-is_desk
unfolding is_desk is_number number_of
returns-else-is_desk c = search rules
