use Rattle.ee_cli_commands.proofs.rows.value_command.Goals as goal

pub returns-clause-shape : goal.returns-clause-shape
returns-clause-shape c =
    let one = c.with-row.ensures.shape _ _ c.positional.ensures.rule c.named-row.ensures.shape in
    let two = c.with-row-2.ensures.shape _ _ c.positional-2.ensures.rule one in
    let three = c.with-row-3.ensures.shape _ _ c.positional-3.ensures.rule two in
    let four = c.with-row-4.ensures.shape _ _ c.positional-4.ensures.rule three in
    let five = c.with-row-5.ensures.shape _ _ c.extension_arg.ensures.rule four in
    c.with.ensures.shape _ _ c.explain_arg.ensures.rule five
