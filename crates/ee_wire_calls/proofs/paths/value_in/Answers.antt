use Rattle.std.proofs.Common.{rules}
use Rattle.ee_wire_calls.specs.Paths.{query_of}
use Rattle.ee_wire_calls.proofs.paths.value_in.Goals as goal

pub returns : goal.returns
unfolding query_of
returns c = search rules

pub returns-in_err-issued : goal.returns-in_err-issued
unfolding query_of
returns-in_err-issued c = search rules
