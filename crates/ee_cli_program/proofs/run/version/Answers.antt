use Rattle.std.proofs.Common.{◌≡◌, ◌++◌, [], ◌∷◌, codes, decimal, ap, ◌∙◌, arith}
use Rattle.std.proofs.lemmas.Fmt.{decimal-digits_of}
use Rattle.std.proofs.lemmas.Result.{IfOk-weaker}
use Rattle.ee_cli_program.proofs.run.version.Goals as goal

two : decimal 2 ≡ 50 ∷ []
two = decimal-digits_of 2 (omega arith) (omega arith)

pub returns : goal.returns
returns c = IfOk-weaker c.format.result _ _ (λ line same. same ∙ ap (λ number. codes "ee_cli 1.1.0, store version " ++ (number ++ 10 ∷ [])) two) c.format.ensures.ok
