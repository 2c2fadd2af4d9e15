use Rattle.std.proofs.Common.{rules}
use Rattle.ee_store.proofs.adopting.prepared.Goals as goal

pub returns-in-Err-Unusable-clause-unusable : goal.returns-in-Err-Unusable-clause-unusable
returns-in-Err-Unusable-clause-unusable c is = c.in-Err-Unusable.ensures.unusable c.in-Err-Unusable.field-0-is

pub returns-in-Err-Unusable-clause-ok : goal.returns-in-Err-Unusable-clause-ok
returns-in-Err-Unusable-clause-ok c = search rules

pub returns-in-Err-Unusable-clause-left : goal.returns-in-Err-Unusable-clause-left
returns-in-Err-Unusable-clause-left c = search rules

pub returns-in-Err-NoMemory-clause-unusable : goal.returns-in-Err-NoMemory-clause-unusable
returns-in-Err-NoMemory-clause-unusable c = search rules
