use Rattle.ee_counter.proofs.Streams.{one_stream}
use Rattle.ee_counter.proofs.laws.one_stream_law.Goals as goal

pub returns : goal.returns
returns c = λ d bytes rest other_rest one other x y l a b. one_stream 0 d bytes rest other_rest one other x y l a b
