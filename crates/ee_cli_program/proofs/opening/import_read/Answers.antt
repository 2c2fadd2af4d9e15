use Rattle.std.proofs.Common.{inl, ◌∙◌}
use Rattle.ee_cli_actions.proofs.Lemmas.{bytes_known}
use Rattle.ee_cli_program.proofs.opening.import_read.Goals as goal

pub returns-in-Ok-clause-imports : goal.returns-in-Ok-clause-imports
returns-in-Ok-clause-imports g c = λ clean content holds.
    inl (bytes_known _ _ _ _ _ _ _ _ _ (λ source is. c.deref.ensures.value ∙ (c.in-Ok.ensures.whole source is).0) (c.import_bytes.ensures.imports clean content holds))
