use Rattle.std.proofs.Common.{sym, rules}
use Rattle.ee_value.proofs.Starts.{start-none}
use Rattle.ee_value.proofs.halves.start_unit.Goals as goal

pub loop-k-init : goal.loop-k-init
loop-k-init c = sym (start-none c.args.rates.now)

pub loop-k-preserved : goal.loop-k-preserved
loop-k-preserved c = search rules
