use Rattle.std.proofs.Common.{◌≡◌, ◌∙◌, ap₂, subst, Result, Ok, IfOk}
use Rattle.std.proofs.lemmas.Result.{IfOk-weaker}
use Rattle.clap.specs.Words.{App, with_subcommand}
use Rattle.ee_cli_commands.proofs.rows.program.Goals as goal

-- what a result has that is known to be this one
of_made : {X E : Type 0} (P : X → Type 0) (r : Result X E) (x : X) → r ≡ Ok x → IfOk r P → P x
of_made {X} {E} P r x is has = subst (λ (q : Result X E). IfOk q P) is has

pub returns : goal.returns
returns c = IfOk-weaker c.with_row.result _ _ (λ rows last.
    let joined = λ (a b : App). with_subcommand a b.top in
    let (three, serve, three_is, serve_is, four_joined) = last in
    let (two, sheet, two_is, sheet_is, three_joined) = of_made _ c.with_row-rows-3.result three three_is c.with_row-rows-3.ensures in
    let (one, exported, one_is, exported_is, two_joined) = of_made _ c.with_row-rows-2.result two two_is c.with_row-rows-2.ensures in
    let (first, imported, first_is, imported_is, one_joined) = of_made _ c.with_row-rows.result one one_is c.with_row-rows.ensures in
    let (kinds, known, imports) = of_made _ c.import_command.result imported imported_is c.import_command.ensures.shape in
    let with_one = one_joined ∙ ap₂ joined (of_made _ c.first_rows-rows.result first first_is c.first_rows-rows.ensures) imports in
    let with_two = two_joined ∙ ap₂ joined with_one (of_made _ c.export_command.result exported exported_is c.export_command.ensures.shape) in
    let with_three = three_joined ∙ ap₂ joined with_two (of_made _ c.sheet_command.result sheet sheet_is c.sheet_command.ensures.shape) in
    (kinds, known, four_joined ∙ ap₂ joined with_three (of_made _ c.serve_command.result serve serve_is c.serve_command.ensures.shape)))
    c.with_row.ensures
