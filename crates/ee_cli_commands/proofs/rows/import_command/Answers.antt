use Rattle.std.proofs.lemmas.Result.{IfOk-weaker}
use Rattle.ee_cli_commands.proofs.rows.import_command.Goals as goal

pub returns-clause-shape : goal.returns-clause-shape
returns-clause-shape c =
    let (kinds, known, kind, local) = c.kind_arg.ensures in
    let one = c.with-row.ensures.shape _ _ kind c.named-row.ensures.shape in
    let two = c.with-row-2.ensures.shape _ _ c.positional.ensures.rule one in
    let three = c.with-row-3.ensures.shape _ _ c.store_arg.ensures.rule two in
    let four = c.with-row-4.ensures.shape _ _ c.request_number_arg.ensures.rule three in
    let five = c.with-row-5.ensures.shape _ _ c.desk_arg.ensures.rule four in
    IfOk-weaker c.with.result _ _ (λ row shape. (kinds, known, shape)) (c.with.ensures.shape _ _ c.explain_arg.ensures.rule five)
