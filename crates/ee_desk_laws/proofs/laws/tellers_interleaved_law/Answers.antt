use Rattle.ee_desk_laws.proofs.InTurn.{interleaved}
use Rattle.ee_desk_laws.proofs.laws.tellers_interleaved_law.Goals as goal

pub returns : goal.returns
returns c = interleaved
