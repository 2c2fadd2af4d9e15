use Rattle.std.proofs.Common.{◌∙◌, arith, inl, inr, ap, sym, subst}
use Rattle.sqlite_disk.specs.declared.Disk.{Ghosts}
use Rattle.sqlite_trees.specs.declared.error.StoreError.{StoreError}
use Rattle.sqlite_trees.specs.declared.error.StoreError.TheVariants.{OutOfMemory, Io, Corrupt, Full, Broken, Unstorable}
use Rattle.sqlite.specs.declared.FileStore.{FileStore}
use Rattle.sqlite.specs.Held.{Held}
use Rattle.sqlite.specs.State.{store_error}
use Rattle.sqlite.specs.Closing.{IsCopied}
use Rattle.sqlite.specs.Files.{IsClosed, ExcusesClose, FailsToClose, file_state}
use Rattle.sqlite.specs.FileStore.{recovers}
use Rattle.ee_desk_laws.proofs.Lemmas.{leaves_as_before}
use Rattle.ee_store_tables.specs.Failures.{failure_of}
use Rattle.ee_store_books.specs.Seen.{StandsFor}
use Rattle.ee_store.specs.Ended.{FailsToEnd}
use Rattle.ee_store.proofs.AtRest.{at_rest}
use Rattle.ee_store.proofs.History.{rests_after}
use Rattle.ee_store.proofs.Tested.{clean_or_collided}
use Rattle.ee_store.proofs.ending.SqlKeeper+FileStore+D.close_files.Goals as goal

pub returns-in-Ok-clause-at_rest : goal.returns-in-Ok-clause-at_rest
returns-in-Ok-clause-at_rest g c = λ clean content has.
    at_rest c.args.self.conn c.in-Ok.files content c.schema-schema.ensures.live (subst (λ conn. IsCopied conn c.in-Ok.files) c.close.ensures (c.in-Ok.ensures.copied clean)) has

pub returns-in-Ok-clause-history : goal.returns-in-Ok-clause-history
returns-in-Ok-clause-history g c =
    rests_after c.args.self.conn c.in-Ok.files c.whole_history_law.ensures.content
    (λ clean content has. at_rest c.args.self.conn c.in-Ok.files content c.schema-schema.ensures.live (subst (λ conn. IsCopied conn c.in-Ok.files) c.close.ensures (c.in-Ok.ensures.copied clean)) has)

pub returns-in-Ok-clause-clean : goal.returns-in-Ok-clause-clean
returns-in-Ok-clause-clean g c = λ clean. (subst (λ conn. IsCopied conn c.in-Ok.files) c.close.ensures (c.in-Ok.ensures.copied clean)).was_clean

pub returns-in-Ok-clause-tested : goal.returns-in-Ok-clause-tested
returns-in-Ok-clause-tested g c =
    let ended = c.in-Ok.ensures.ok in
    let closed = subst (λ conn. IsClosed conn ended.0) c.close.ensures ended.2 in
    λ shielded. clean_or_collided g.D.Disk ended.0 c.in-Ok.files ended.1 (closed.quiet.shield shielded)

pub returns-in-Err-clause-tested : goal.returns-in-Err-clause-tested
returns-in-Err-clause-tested g c = tt

pub returns-in-Err-clause-at_rest : goal.returns-in-Err-clause-at_rest
returns-in-Err-clause-at_rest g c = tt

pub returns-in-Err-clause-clean : goal.returns-in-Err-clause-clean
returns-in-Err-clause-clean g c = tt

pub returns-in-Err-clause-history : goal.returns-in-Err-clause-history
returns-in-Err-clause-history g c = tt

pub returns-in-Err-clause-left : goal.returns-in-Err-clause-left
returns-in-Err-clause-left g c =
    let closed = subst (λ conn. IsClosed conn c.in-Err.store) c.close.ensures c.in-Err.ensures.err.0 in
    λ db may. closed.quiet.outcomes db may

pub returns-in-Err-clause-follows : goal.returns-in-Err-clause-follows
returns-in-Err-clause-follows g c =
    let closed = subst (λ conn. IsClosed conn c.in-Err.store) c.close.ensures c.in-Err.ensures.err.0 in
    λ w follows. leaves_as_before StandsFor (file_state c.args.self.conn).may_leave (recovers c.in-Err.store) w closed.quiet.outcomes follows.1

excused_end : {D : Type 0} {g : Ghosts D} (c : Held (FileStore D g)) (last : FileStore D g) (cause : StoreError) → ExcusesClose c last cause → FailsToEnd c last (failure_of (store_error cause))
excused_end c last OutOfMemory excuse failed = absurd (cc)
excused_end c last Io excuse failed = inl excuse
excused_end c last Corrupt excuse failed = inl excuse
excused_end c last Full excuse failed = inl excuse
excused_end c last Broken (inl shut) failed = inr shut
excused_end c last Broken (inr faults) failed = inl faults
excused_end c last Unstorable excuse failed = absurd excuse

pub returns-in-Err-clause-cause : goal.returns-in-Err-clause-cause
returns-in-Err-clause-cause g c clean =
    let fails = subst (λ conn. FailsToClose conn c.in-Err.store c.in-Err.error) c.close.ensures (c.in-Err.ensures.err.1 clean) in
    subst (FailsToEnd c.args.self.conn c.in-Err.store) (sym (c.from.ensures ∙ ap failure_of fails.1)) (excused_end c.args.self.conn c.in-Err.store fails.0 fails.2)

pub returns-in-Err-clause-was_clean : goal.returns-in-Err-clause-was_clean
returns-in-Err-clause-was_clean g c = λ clean.
    let closed = subst (λ conn. IsClosed conn c.in-Err.store) c.close.ensures c.in-Err.ensures.err.0 in
    omega (arith, clean, closed.quiet.clean)
