use Rattle.std.proofs.Common.{◌+◌, arith}
use Rattle.ee_keeper.proofs.Lemmas.{takes_fewer}
use Rattle.ee_cli_actions.proofs.serving.serve_next.Goals as goal

pub returns-in-Err-clause-ready : goal.returns-in-Err-clause-ready
returns-in-Err-clause-ready g c = λ clean d has n takes. takes_fewer g.K.Keeper.takes c.args.keeper.now (g.met.K.Keeper.fewer c.args.keeper.now) n (n + 1000) (omega arith) takes
