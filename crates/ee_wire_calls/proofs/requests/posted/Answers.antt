use Rattle.std.proofs.Common.{ap, sym, ◌∙◌}
use Rattle.std.proofs.lemmas.Result.{err_from_is_err_and}
use Rattle.serde_json.specs.View.{view}
use Rattle.ee_wire_calls.specs.declared.calls.Call.TheVariants as call
use Rattle.ee_wire_calls.specs.Bodies.{request_of}
use Rattle.ee_wire_calls.specs.Calls.{posted, as_call}
use Rattle.ee_wire_calls.proofs.Names.{json_some, json_none, not_memory}
use Rattle.ee_wire_calls.proofs.FaultSteps.{fault_of}
use Rattle.ee_wire_calls.proofs.requests.posted.Goals as goal

pub returns-in_ok-request_in-in-Ok : goal.returns-in_ok-request_in-in-Ok
returns-in_ok-request_in-in-Ok c = λ _.
    let read = json_some c.args.body.now (view c.in-Ok.value) c.in-Ok.ensures.ok.0 c.in-Ok.ensures.ok.1 in
    sym (ap (posted c.args.post) read ∙ ap (as_call call.Request) c.in_ok-request_in-in-Ok.ensures)

pub returns-in_err-request_in-in-Ok : goal.returns-in_err-request_in-in-Ok
returns-in_err-request_in-in-Ok c =
    let read = json_some c.args.body.now (view c.in-Ok.value) c.in-Ok.ensures.ok.0 c.in-Ok.ensures.ok.1 in
    let p = err_from_is_err_and c.from_residual.result c.from_residual.ensures.1 in
    rw (p.1, ap (posted c.args.post) read) (fault_of c.in_err-request_in-in-Ok.field-0.0 p.0 (request_of c.args.post (view c.in-Ok.value)) c.in_err-request_in-in-Ok.ensures p.2)

pub returns-in-Err-2 : goal.returns-in-Err-2
returns-in-Err-2 c = λ _. sym (ap (posted c.args.post) (json_none c.args.body.now (c.in-Err.ensures.err (not_memory c.in-Err.e c.is_memory.result c.if-is_memory.false c.is_memory.ensures))))
