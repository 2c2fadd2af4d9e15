use Rattle.ee_desk_model.specs.Sound.{IsSound}
use Rattle.ee_desk.proofs.History.{goes}
use Rattle.ee_desk.proofs.list.ListKeeperKeeper.deliver.Goals as goal

pub returns-clause-goes : goal.returns-clause-goes
returns-clause-goes c clean =
    goes IsSound c.args.self.now c.deliver-answer.new.self c.args.request.now c.deliver-answer.result c.deliver-answer.ensures.content c.deliver-answer.ensures.err c.known.ensures.sound
