use Rattle.ee_wire_framing.proofs.OneSplit.{split_once}
use Rattle.ee_wire_framing.proofs.laws.one_split_law.Goals as goal

pub returns : goal.returns
returns c = split_once
