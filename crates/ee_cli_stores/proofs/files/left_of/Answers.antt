use Rattle.std.proofs.Common.{arith, refl, sym, subst}
use Rattle.ee_cli_stores.specs.declared.files.Refused.TheVariants as refused
use Rattle.ee_cli_stores.specs.Inner.Faults.{IsLeftOf}
use Rattle.ee_cli_stores.proofs.files.left_of.Goals as goal

pub returns-in-Connection : goal.returns-in-Connection
returns-in-Connection g c =
    let quiet = c.into_store.ensures.quiet in
    subst (λ rest. IsLeftOf rest (refused.Store c.into_store.result)) (sym c.in-Connection.is)
    (c.into_store.result, refl, (quiet.outcomes, λ clean. (omega (arith, clean, quiet.clean), c.into_store.ensures.numbered clean)))
