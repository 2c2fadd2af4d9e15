use Rattle.std.proofs.Common.{sym, ap, ◌∙◌}
use Rattle.ee_desk_model.specs.Acts.{same_act}
use Rattle.ee_desk_model.proofs.SameActs.{act_is, act_self}
use Rattle.ee_desk_model.proofs.laws.same_acts_law.Goals as goal

pub returns : goal.returns
returns c = λ one other. (act_is one other, λ e. ap (same_act one) (sym e) ∙ act_self one)
