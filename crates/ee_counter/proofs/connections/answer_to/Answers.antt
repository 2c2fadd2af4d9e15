use Rattle.ee_keeper.specs.Keeping.{HasAfter}
use Rattle.ee_wire_framing.specs.Reading.{message_in}
use Rattle.ee_counter.proofs.Right.{of_parts}
use Rattle.ee_counter.proofs.connections.answer_to.Goals as goal

pub returns-clause-answers : goal.returns-clause-answers
returns-clause-answers g c = λ clean d has.
    of_parts (message_in c.args.buffer.now.shown c.args.message) c.part-target.result.now c.part-method.result.now c.part-body.result.now d c.answer_decoded.result
    (HasAfter (g.K.Keeper.has c.answer_decoded.new.keeper) (g.K.Keeper.went c.args.keeper.now) (g.K.Keeper.went c.answer_decoded.new.keeper))
    c.part-target.ensures.bytes c.part-method.ensures.bytes c.part-body.ensures.bytes (c.answer_decoded.ensures.answers clean d has)
