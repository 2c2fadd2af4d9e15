use Rattle.ee_cli_actions.proofs.serving.serve_stream.Goals as goal

pub returns-clause-serves : goal.returns-clause-serves
returns-clause-serves g c = λ clean d has. (_, _, _, c.serve_timed-ended.ensures.serves clean d has)
