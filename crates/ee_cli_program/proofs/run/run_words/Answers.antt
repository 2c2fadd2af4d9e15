use Rattle.std.proofs.Common.{refl, inl, inr}
use Rattle.ee_cli_commands.specs.Answer.{view_of}
use Rattle.ee_cli_commands.proofs.Lemmas.{asks_unrefused}
use Rattle.ee_cli_program.specs.Statuses.{Carries}
use Rattle.ee_cli_program.proofs.Ended.{answered, settled, value_printed, version_printed}
use Rattle.ee_cli_program.proofs.run.run_words.Goals as goal

pub returns-in-Ok-clause-status : goal.returns-in-Ok-clause-status
returns-in-Ok-clause-status g c = settled _ _ _ (view_of c.in-Ok.command) _ _ c.in-Ok.ensures c.carry_out-carried.ensures.carries c.settle.ensures

pub returns-in-Ok-clause-printed : goal.returns-in-Ok-clause-printed
returns-in-Ok-clause-printed g c =
    let old = g.W.Write.contents c.args.output.now in
    let new = g.W.Write.contents c.carry_out-carried.new.output in
    value_printed _ old new (Unit {0}) c.settle.result
    (settled _ (Carries old new) (Unit {0}) (view_of c.in-Ok.command) _ _ c.in-Ok.ensures c.carry_out-carried.ensures.carries c.settle.ensures)

pub returns-in-Ok-clause-version : goal.returns-in-Ok-clause-version
returns-in-Ok-clause-version g c = λ version zero. absurd (asks_unrefused _ _ _ c.in-Ok.ensures version)

pub returns-in-Ok-clause-over : goal.returns-in-Ok-clause-over
returns-in-Ok-clause-over g c = λ contents holds.
    settled _ _ _ (view_of c.in-Ok.command) _ _ c.in-Ok.ensures (c.carry_out-carried.ensures.over contents holds) c.settle.ensures

pub returns-in-Ok-clause-line : goal.returns-in-Ok-clause-line
returns-in-Ok-clause-line g c = λ contents holds. inl record {
  asked = view_of c.in-Ok.command;
  is_asked = c.in-Ok.ensures;
  ended = c.carry_out-carried.result.carried.ended;
  carried = c.carry_out-carried.ensures.over contents holds;
  has_status = c.settle.ensures;
}

pub returns-in-Ok-clause-untouched : goal.returns-in-Ok-clause-untouched
returns-in-Ok-clause-untouched g c = λ none. absurd (none (view_of c.in-Ok.command) c.in-Ok.ensures)

pub returns-in-Err-clause-status : goal.returns-in-Err-clause-status
returns-in-Err-clause-status g c = answered _ _ _ c.in-Err.fault _ _ _ c.in-Err.ensures (λ same. (refl, same)) c.answer_words.ensures

pub returns-in-Err-clause-printed : goal.returns-in-Err-clause-printed
returns-in-Err-clause-printed g c =
    let old = g.W.Write.contents c.args.output.now in
    let new = g.W.Write.contents c.answer_words.new.output in
    value_printed _ old new (Unit {0}) c.answer_words.result
    (answered _ (Carries old new) (Unit {0}) c.in-Err.fault _ _ _ c.in-Err.ensures (λ same. tt) c.answer_words.ensures)

pub returns-in-Err-clause-version : goal.returns-in-Err-clause-version
returns-in-Err-clause-version g c = version_printed _ c.in-Err.fault _ _ _ c.in-Err.ensures c.answer_words.ensures

pub returns-in-Err-clause-over : goal.returns-in-Err-clause-over
returns-in-Err-clause-over g c = λ contents holds. answered _ _ _ c.in-Err.fault _ _ _ c.in-Err.ensures (λ same. (refl, same)) c.answer_words.ensures

pub returns-in-Err-clause-line : goal.returns-in-Err-clause-line
returns-in-Err-clause-line g c = λ contents holds. inr refl
