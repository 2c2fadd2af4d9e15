use Rattle.ee_cli_commands.proofs.rows.apply_command.Goals as goal

pub returns-clause-shape : goal.returns-clause-shape
returns-clause-shape c =
    let one = c.with-row.ensures.shape _ _ c.store_arg.ensures.rule c.named-row.ensures.shape in
    c.with.ensures.shape _ _ c.explain_arg.ensures.rule one
