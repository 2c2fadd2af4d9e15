use Rattle.std.proofs.Common.{rules}
use Rattle.ee_wire_calls.specs.Bodies.{rate_row}
use Rattle.ee_wire_calls.proofs.bodies.read_rate.Goals as goal

pub returns : goal.returns
unfolding rate_row
returns c = search rules

pub returns-in_err-no_other : goal.returns-in_err-no_other
unfolding rate_row
returns-in_err-no_other c = search rules
