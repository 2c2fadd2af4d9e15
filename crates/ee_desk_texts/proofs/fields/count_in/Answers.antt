use Rattle.std.proofs.Common.{sym, ◌∙◌}
use Rattle.ee_desk_texts.proofs.Counts.{count_parsed}
use Rattle.ee_desk_texts.proofs.fields.count_in.Goals as goal

pub returns-then-is_whole : goal.returns-then-is_whole
returns-then-is_whole c = c.ok.ensures.value ∙ count_parsed c.args.text.now _ c.parse.ensures.value.0 (sym c.is_whole.ensures ∙ c.if-is_whole.true)
