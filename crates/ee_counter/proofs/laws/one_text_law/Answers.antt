use Rattle.ee_counter.specs.Answering.{call_of}
use Rattle.ee_counter.proofs.Texts.{one_text}
use Rattle.ee_counter.proofs.laws.one_text_law.Goals as goal

pub returns : goal.returns
returns c = λ d message one other closing x y. one_text d (call_of message) one other closing x y
