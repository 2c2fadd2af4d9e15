use Rattle.std.proofs.Common.{◌≡◌, ◌∙◌, ap, map, [], sym, subst}
use Rattle.clap.specs.Words.{App, HasKind, fault_of, is_simple, is_simple_and_free, subcommand_of, subcommand_rows_of}
use Rattle.ee_cli_commands.specs.CommandLine.{program}
use Rattle.ee_cli_commands.proofs.LineLemmas.{answers, refuses, is_free, is_plain}
use Rattle.ee_cli_commands.proofs.commands.read_command.Goals as goal

pub returns-in-Ok : goal.returns-in-Ok
returns-in-Ok g c =
    let (k, known, shape) = c.in_ok-program.ensures in
    let words = map g.S.AsStr.text c.args.words.now in
    let none : fault_of (program k) words ≡ [] = ap (λ (a : App). fault_of a words) (sym shape) ∙ c.in-Ok.ensures.kinds (ap is_simple_and_free shape ∙ is_free k) in
    let found : subcommand_rows_of c.in-Ok.matches ≡ subcommand_of (program k) words = (c.in-Ok.ensures.matches (ap is_simple shape ∙ is_plain k)).1 ∙ ap (λ (a : App). subcommand_of a words) shape in
    answers k words c.line.result (subcommand_rows_of c.in-Ok.matches) known none found c.line.ensures

pub returns-in_ok-refusal-in-Err : goal.returns-in_ok-refusal-in-Err
returns-in_ok-refusal-in-Err g c =
    let (k, known, shape) = c.in_ok-program.ensures in
    let words = map g.S.AsStr.text c.args.words.now in
    let kind = c.in-Err.ensures.kinds (ap is_simple_and_free shape ∙ is_free k) in
    refuses k words c.in-Err.error c.in_ok-refusal-in-Err.field-0 known (subst (λ (a : App). HasKind (fault_of a words) c.in-Err.error) shape kind) c.in_ok-refusal-in-Err.ensures
