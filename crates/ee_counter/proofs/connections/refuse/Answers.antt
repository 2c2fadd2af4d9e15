use Rattle.std.proofs.Common.{rules}
use Rattle.ee_counter.proofs.connections.refuse.Goals as goal

pub returns-clause-refuses : goal.returns-clause-refuses
returns-clause-refuses g c = search rules

pub returns-in-Err-WriteFailed-clause-refuses : goal.returns-in-Err-WriteFailed-clause-refuses
returns-in-Err-WriteFailed-clause-refuses g c = search rules

pub returns-in-Ok-clause-refuses : goal.returns-in-Ok-clause-refuses
returns-in-Ok-clause-refuses g c = search rules

pub returns-in-Err-WriteFailed-clause-device : goal.returns-in-Err-WriteFailed-clause-device
returns-in-Err-WriteFailed-clause-device g c = c.in-Err-WriteFailed.ensures.failed c.in-Err-WriteFailed.field-0-is

pub returns-in-Ok-clause-device : goal.returns-in-Ok-clause-device
returns-in-Ok-clause-device g c = tt

pub returns-clause-device : goal.returns-clause-device
returns-clause-device g c = tt
