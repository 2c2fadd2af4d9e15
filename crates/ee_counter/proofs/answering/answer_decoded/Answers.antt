use Rattle.std.proofs.Common.{rules}
use Rattle.ee_desk_model.specs.declared.refusals.Unserved.TheVariants.{NoMemory}
use Rattle.ee_wire_calls.specs.Calls.{decoded}
use Rattle.ee_counter.proofs.Right.{starved}
use Rattle.ee_counter.proofs.answering.answer_decoded.Goals as goal

pub returns-in-Err-NoMemory-clause-answers : goal.returns-in-Err-NoMemory-clause-answers
returns-in-Err-NoMemory-clause-answers g c clean d has =
    let asked = decoded c.args.target.now c.args.method.now c.args.body.now in
    (tt, (has, starved (g.K.Keeper.went c.args.keeper.now) asked NoMemory (g.met.K.Keeper.missed c.args.keeper.now)))

pub returns-in-Err-NoMemory-clause-failed : goal.returns-in-Err-NoMemory-clause-failed
returns-in-Err-NoMemory-clause-failed g c = search rules

pub returns-in-Ok-answer_call-clause-answers : goal.returns-in-Ok-answer_call-clause-answers
returns-in-Ok-answer_call-clause-answers g c = search rules

pub returns-in-Ok-answer_call-clause-failed : goal.returns-in-Ok-answer_call-clause-failed
returns-in-Ok-answer_call-clause-failed g c = search rules

pub returns-in-Ok-clause-answers : goal.returns-in-Ok-clause-answers
returns-in-Ok-clause-answers g c = search rules

pub returns-in-Ok-clause-failed : goal.returns-in-Ok-clause-failed
returns-in-Ok-clause-failed g c = search rules
