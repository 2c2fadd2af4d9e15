use Rattle.std.proofs.Common.{sym, ap, ◌∙◌}
use Rattle.std.specs.FinMap as finite
use Rattle.std.specs.Cmp.{nat_cmp_total}
use Rattle.ee_desk_model.proofs.Lemmas.Maps.{get_lookup}
use Rattle.ee_desk_decide.proofs.views.View.terms.Goals as goal

pub returns : goal.returns
returns c = c.get.ensures.value ∙ sym (get_lookup nat_cmp_total _ c.args.period) ∙ ap (λ v. finite.get v.rates c.args.period) c.self.view_is
