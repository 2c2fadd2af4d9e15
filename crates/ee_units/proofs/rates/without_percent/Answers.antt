use Rattle.std.proofs.Common.{lit<}
use Rattle.std.proofs.lemmas.Str.Pattern.{strip_suffix_char}
use Rattle.ee_units.proofs.Texts.{strip_suffix_or}
use Rattle.ee_units.proofs.rates.without_percent.Goals as goal

pub returns : goal.returns
returns c =
    strip_suffix_or 37 c.args.text c.unwrap_or.result c.strip_suffix.result (strip_suffix_char 37 c.args.text.now c.strip_suffix.result c.strip_suffix.ensures.cases (lit< tt)) c.unwrap_or.ensures
