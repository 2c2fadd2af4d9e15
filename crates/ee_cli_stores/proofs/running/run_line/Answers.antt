use Rattle.std.proofs.Common.{inl, inr, subst, true, false}
use Rattle.sqlite.specs.WalFiles.{image_at}
use Rattle.sqlite_std_file.specs.File.{IsFresh}
use Rattle.ee_cli_stores.specs.Running.{MayBeFound}
use Rattle.ee_cli_stores.proofs.InFiles.{line_in_files, ran_with, run_with}
use Rattle.ee_cli_stores.proofs.running.run_line.Goals as goal

pub returns-clause-line : goal.returns-clause-line
returns-clause-line g c content holds found may =
    let law = c.lines_law.ensures in
    elim (c.run_words.ensures.line (λ _. content) (λ _. holds)) [
      | inl ran ↦ inl (ran_with _ _ _ _ (λ asked ended it. line_in_files _ law.closes law.at_rest law.leaves law.refused law.waits (image_at g.F.Start) found (λ files. IsFresh true files.log) (λ files. IsFresh false files.db) _ _ may content _ _ _ _ _ _ _ asked ended it) ran)
      | inr same ↦ inr (subst (λ it. MayBeFound (image_at g.F.Start) it found) same may)
    ]

pub returns-clause-ends : goal.returns-clause-ends
returns-clause-ends g c content holds found may =
    let law = c.lines_law.ensures in
    run_with _ _ _ _ _ _ (λ asked ended it. line_in_files _ law.closes law.at_rest law.leaves law.refused law.waits (image_at g.F.Start) found (λ files. IsFresh true files.log) (λ files. IsFresh false files.db) _ _ may content _ _ _ _ _ _ _ asked ended it)
    (λ untouched. (subst (λ it. MayBeFound (image_at g.F.Start) it found) untouched.0 may, untouched.1)) (c.run_words.ensures.over (λ _. content) (λ _. holds))

pub returns-clause-status : goal.returns-clause-status
returns-clause-status g c = run_with _ _ _ _ _ _ (λ asked ended it. it) (λ untouched. untouched.1) c.run_words.ensures.status
