use Rattle.std.proofs.Common.{refl}
use Rattle.ee_value.specs.Open.{is_exact}
use Rattle.ee_value.proofs.OpenAges.{inexact}
use Rattle.ee_value.proofs.laws.exact_law.Goals as goal

pub returns-clause-exact : goal.returns-clause-exact
unfolding is_exact
returns-clause-exact c = (refl, refl, refl, refl, refl)

pub returns-clause-inexact : goal.returns-clause-inexact
returns-clause-inexact c = λ r small a b d e f. inexact r a b d e f small
