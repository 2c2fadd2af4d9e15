use Rattle.std.proofs.Common.{◌∙◌}
use Rattle.ee_wire_calls.proofs.FaultSteps.{decoded_none, decoded_some}
use Rattle.ee_wire_calls.proofs.requests.decode_with.Goals as goal

pub returns-in_default : goal.returns-in_default
returns-in_default c = λ _. decoded_none c.args.path.now c.args.method.now c.args.body.now c.in_default.ensures.cases.0

pub returns : goal.returns
returns c = λ other. c.called.ensures other
    ∙ decoded_some c.args.path.now c.args.method.now c.args.body.now c.in-Ok.path.now c.in_ok-route.route
    c.in-Ok.ensures.cases.0 c.in-Ok.ensures.cases.1 c.in_ok-route.ensures
