use Rattle.std.proofs.Common.{◌∙◌, sym}
use Rattle.ee_cli_actions.proofs.Devices.{device_of}
use Rattle.ee_cli_actions.proofs.applying.apply_to.Goals as goal

pub returns-clause-device : goal.returns-clause-device
returns-clause-device g c = λ is.
    device_of (g.R.Source.may_have_failed c.serve-ended.new.reader) (g.W.Sink.may_have_failed c.serve-ended.new.writer) c.serve-ended.result.store_failed c.serve-ended.result.why
    c.serve-ended.ensures.device (sym c.ending.ensures ∙ is)
