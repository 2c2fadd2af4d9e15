use Rattle.std.proofs.Common.{inl, inr, subst}
use Rattle.sqlite.specs.Files.{image_of}
use Rattle.ee_store.specs.Holding.{AreSettled}
use Rattle.ee_cli_stores.specs.Running.{MayBeStopped}
use Rattle.ee_cli_stores.proofs.InFiles.{line_stopped, ran_with, run_with}
use Rattle.ee_cli_stores.proofs.stopping.run_stopped.Goals as goal

pub returns-clause-line : goal.returns-clause-line
returns-clause-line g c settled content holds found may =
    let law = c.lines_law.ensures in
    let held = image_of g.D.Disk c.args.stores.files in
    elim (c.run_words.ensures.line (λ _. content) (λ _. holds)) [
      | inl ran ↦ inl (ran_with _ _ _ _ (λ asked ended it. line_stopped _ law.closes law.at_rest law.leaves law.refused law.waits held found (AreSettled g.D.Disk c.args.stores.files) settled _ may content _ _ _ _ _ _ _ asked ended it) ran)
      | inr same ↦ inr (subst (λ it. MayBeStopped held it found) same may)
    ]

pub returns-clause-ends : goal.returns-clause-ends
returns-clause-ends g c settled content holds found may =
    let law = c.lines_law.ensures in
    let held = image_of g.D.Disk c.args.stores.files in
    run_with _ _ _ _ _ _ (λ asked ended it. line_stopped _ law.closes law.at_rest law.leaves law.refused law.waits held found (AreSettled g.D.Disk c.args.stores.files) settled _ may content _ _ _ _ _ _ _ asked ended it)
    (λ untouched. (subst (λ it. MayBeStopped held it found) untouched.0 may, untouched.1)) (c.run_words.ensures.over (λ _. content) (λ _. holds))
