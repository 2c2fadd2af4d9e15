use Rattle.ee_desk_model.proofs.Soundness.{act_sound}
use Rattle.ee_desk_model.proofs.ActsInRange.{stays_sound}
use Rattle.ee_desk_model.proofs.laws.acts_keep_sound_law.Goals as goal

pub returns : goal.returns
returns c = record { acts = stays_sound; changes = act_sound }
