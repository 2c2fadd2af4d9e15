use Rattle.std.proofs.Common.{◌∙◌, arith, sym, subst}
use Rattle.sqlite.specs.Files.{file_state}
use Rattle.sqlite.specs.State.{HasCleanDisk}
use Rattle.ee_store.specs.NextRun.{IsNumbered}
use Rattle.ee_store.proofs.NextRun.{leaves_standing}
use Rattle.ee_store.proofs.opening.SqlKeeper+FileStore+D.stop.Goals as goal

pub returns-clause-leaves : goal.returns-clause-leaves
returns-clause-leaves g c clean =
    let numbered : IsNumbered c.close.result = sym c.into_store.ensures.undone.numbered ∙ c.into_store.ensures.numbered clean in
    leaves_standing c.args.self.conn (subst IsNumbered c.close.ensures numbered)

pub returns-clause-left : goal.returns-clause-left
returns-clause-left g c db may = subst (λ conn. (file_state conn).may_leave db) c.close.ensures (c.into_store.ensures.quiet.outcomes db may)

pub returns-clause-was_clean : goal.returns-clause-was_clean
returns-clause-was_clean g c clean =
    let quiet = c.into_store.ensures.quiet.clean in
    subst (λ conn. HasCleanDisk (file_state conn)) c.close.ensures (omega (arith, clean, quiet))
