use Rattle.ee_desk_soundness.proofs.SoundParts as lemma
use Rattle.ee_desk_soundness.proofs.laws.parts_law.Goals as goal

pub returns : goal.returns
returns c = lemma.parts_tell
