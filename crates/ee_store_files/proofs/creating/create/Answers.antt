use Rattle.std.proofs.Common.{arith, ◌∙◌, inr, sym, ap, subst}
use Rattle.std.proofs.lemmas.Result.{err_from_is_err_and}
use Rattle.sqlite_trees.proofs.Doubt.{clean_of as sure, no_doubt}
use Rattle.sqlite_store.specs.FileStore.{view as shown}
use Rattle.sqlite_store.specs.Laws.{settled_at}
use Rattle.sqlite.specs.Files.{IsEmpty}
use Rattle.sqlite.proofs.ListingLemmas.{empty_is_sound}
use Rattle.ee_store_files.proofs.Failing.{connection_fails}
use Rattle.ee_store_files.proofs.creating.create.Goals as goal

pub returns-in-Ok-clause-made : goal.returns-in-Ok-clause-made
returns-in-Ok-clause-made g c =
    λ now.
    let before = sure (shown c.in_ok-store.store).is_clean (omega (arith, c.in-Ok.ensures.clean)) in
    let made = c.in_ok-store.ensures in
    let trees = sym (ap (λ d. d.trees) (c.in-Ok.ensures.opens now).0.clean) ∙ c.in-Ok.ensures.trees now ∙ made.ready.clean in
    (made.honest before, subst IsEmpty (sym trees) (made.empty before))

pub returns-in-Err-clause-unharmed : goal.returns-in-Err-clause-unharmed
returns-in-Err-clause-unharmed g c =
    λ late.
    let now = no_doubt _ late in
    let before = sure (shown c.in_ok-store.store).is_clean (omega (arith, c.in-Err.ensures.unharmed.clean)) in
    let made = c.in_ok-store.ensures in
    inr (
      c.requires.uncreated (made.honest before),
      λ found may. subst IsEmpty
          (sym (settled_at c.in_ok-store.store g.met.D.Disk.seen_may_stay found (made.ready.is_open (no_doubt _ before)) (c.in-Err.ensures.unharmed.outcomes found may)))
          (made.empty before),
    )

pub returns-in-Ok-clause-sums : goal.returns-in-Ok-clause-sums
returns-in-Ok-clause-sums g c now =
    c.in-Ok.ensures.sums now ∙ c.in_ok-store.ensures.sums (sure (shown c.in_ok-store.store).is_clean (omega (arith, c.in-Ok.ensures.clean)))

pub returns-in-Ok-clause-guarded : goal.returns-in-Ok-clause-guarded
returns-in-Ok-clause-guarded g c now =
    c.in-Ok.ensures.shield (c.in_ok-store.ensures.guarded (sure (shown c.in_ok-store.store).is_clean (omega (arith, c.in-Ok.ensures.clean))))

pub returns-in_err-store-clause-unharmed : goal.returns-in_err-store-clause-unharmed
returns-in_err-store-clause-unharmed g c =
    let p = err_from_is_err_and c.from_residual.result c.from_residual.ensures.1 in
    rw (p.1, p.2) c.in_err-store.ensures.unharmed

pub returns-in_err-store-clause-cause : goal.returns-in_err-store-clause-cause
returns-in_err-store-clause-cause g c =
    let p = err_from_is_err_and c.from_residual.result c.from_residual.ensures.1 in
    rw (p.1, p.2) c.in_err-store.ensures.cause

pub returns-in-Err-clause-cause : goal.returns-in-Err-clause-cause
returns-in-Err-clause-cause g c late =
    let now = no_doubt _ late in
    let before = sure (shown c.in_ok-store.store).is_clean (omega (arith, c.in-Err.ensures.unharmed.clean)) in
    let made = c.in_ok-store.ensures in
    let empty : IsEmpty (shown c.in_ok-store.store).trees = subst IsEmpty (sym made.ready.clean) (made.empty before) in
    connection_fails _ _ _ _ _ _ c.in-Err.error (omega (arith, made.counts before, c.in-Err.ensures.unharmed.counts)) (empty_is_sound _ empty.1) (c.in-Err.ensures.err now)
