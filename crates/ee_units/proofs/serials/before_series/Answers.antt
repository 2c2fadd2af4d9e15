use Rattle.ee_units.proofs.Texts.{before_end_is}
use Rattle.ee_units.proofs.serials.before_series.Goals as goal

pub returns : goal.returns
returns c = before_end_is _ c.args.text.now c.strip_suffix.result c.strip_suffix.ensures.cases
