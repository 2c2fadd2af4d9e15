use Rattle.std.proofs.Common.{lit<}
use Rattle.std.proofs.lemmas.Str.Pattern.{strip_prefix_char}
use Rattle.ee_units.proofs.Texts.{strip_prefix_or}
use Rattle.ee_units.proofs.serials.without_first_hyphen.Goals as goal

pub returns : goal.returns
returns c =
    strip_prefix_or 45 c.args.text c.unwrap_or.result c.strip_prefix.result (strip_prefix_char 45 c.args.text.now c.strip_prefix.result c.strip_prefix.ensures.cases (lit< tt)) c.unwrap_or.ensures
