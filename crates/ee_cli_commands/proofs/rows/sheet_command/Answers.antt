use Rattle.ee_cli_commands.proofs.rows.sheet_command.Goals as goal

pub returns-clause-shape : goal.returns-clause-shape
returns-clause-shape c =
    let one = c.with-row.ensures.shape _ _ c.customer_arg.ensures.rule c.named-row.ensures.shape in
    let two = c.with-row-2.ensures.shape _ _ c.positional.ensures.rule one in
    let three = c.with-row-3.ensures.shape _ _ c.store_arg.ensures.rule two in
    c.with.ensures.shape _ _ c.explain_arg.ensures.rule three
