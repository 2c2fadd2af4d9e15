use Rattle.std.proofs.Common.{sym, ◌∙◌}
use Rattle.std.specs.Cmp.{nat_cmp_total}
use Rattle.ee_desk_model.proofs.Lemmas.Maps.{get_lookup}
use Rattle.ee_desk_decide.proofs.sheets.terms_at.Goals as goal

pub returns : goal.returns
returns c = c.get.ensures.value ∙ sym (get_lookup nat_cmp_total _ c.args.period)
