use Rattle.ee_counter.proofs.Same.{all_left}
use Rattle.ee_counter.proofs.laws.served_requests_law.Goals as goal

pub returns : goal.returns
returns c = λ d told. all_left d told
