use Rattle.std.proofs.Common.{rules}
use Rattle.ee_desk_model.proofs.terms.Terms.new.Goals as goal

pub returns-in_err-table : goal.returns-in_err-table
returns-in_err-table c = search rules

pub invariant_of-result : goal.invariant_of-result
invariant_of-result c = search rules

pub returns : goal.returns
returns c = search rules
