use Rattle.std.proofs.Common.{rules, ◌≡◌}
use Rattle.std.proofs.lemmas.Result.{err_from_is_err_and}
use Rattle.ee_cli_actions.specs.Printed.{connection_line}
use Rattle.ee_cli_actions.proofs.Connections.{printed_line, printed_none}
use Rattle.ee_cli_actions.proofs.serving.print_line.Goals as goal

pub returns-in_err-line-clause-printed : goal.returns-in_err-line-clause-printed
returns-in_err-line-clause-printed g c =
    let p = err_from_is_err_and c.from_residual.result c.from_residual.ensures.1 in
    printed_none _ c.args.ended c.args.number c.from_residual.result p.0 p.1

pub returns-clause-printed : goal.returns-clause-printed
returns-clause-printed g c =
    let same : c.deref.result.now ≡ connection_line c.args.number c.args.ended = search rules in
    printed_line _ _ c.deref.result.now c.args.ended c.args.number c.print.result same c.print.ensures.printed
