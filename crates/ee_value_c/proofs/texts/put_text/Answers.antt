use Rattle.std.proofs.Common.{rules}
use Rattle.ee_value_c.specs.Statuses.{text_into}
use Rattle.ee_value_c.proofs.texts.put_text.Goals as goal

pub returns : goal.returns
unfolding text_into
returns c = search rules
