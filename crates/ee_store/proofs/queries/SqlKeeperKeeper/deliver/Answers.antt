use Rattle.std.proofs.Common.{◌≡◌, ◌+◌, ◌*◌, [], ◌∷◌, arith, subst}
use Rattle.sqlite.specs.Held.{state}
use Rattle.ee_desk_model.specs.Repeats.{Content}
use Rattle.ee_desk_model.specs.Contents.{content_after}
use Rattle.ee_store_tables.specs.Rows.{HasRoom}
use Rattle.ee_store_tables.proofs.Lemmas.Causes.{room_less}
use Rattle.ee_store_books.specs.Seen.{StandsFor, HasContent}
use Rattle.ee_store_delivery.specs.Known.{IsInformed}
use Rattle.ee_store.proofs.Asked.{delivers_both, if_served, if_unserved}
use Rattle.ee_store.proofs.Shut.{continued}
use Rattle.ee_store.proofs.Going.{goes_at}
use Rattle.ee_store.proofs.queries.SqlKeeperKeeper.deliver.Goals as goal

pub returns-clause-continues : goal.returns-clause-continues
returns-clause-continues g c =
    let old = state g.S.Store c.args.self.now.conn in
    continued c.args.self.now c.deliver.new.self (λ k. state g.S.Store k.conn) (λ db. IsInformed old c.args.self.now.known
    → (content : Content) → HasContent old content → StandsFor db (content_after content (c.args.request.now ∷ []))) c.deliver.ensures.acts.crash

pub returns-clause-delivers : goal.returns-clause-delivers
returns-clause-delivers g c clean content has =
    delivers_both content c.args.request.now c.deliver.result (HasContent (state g.S.Store c.deliver.new.self.conn)) (IsInformed (state g.S.Store c.deliver.new.self.conn) c.deliver.new.self.known)
    (c.deliver.ensures.delivers clean has.1 content has.0) (c.deliver.ensures.acts.informed has.1)

pub returns-clause-opened : goal.returns-clause-opened
returns-clause-opened g c clean = if_served c.deliver.result (λ served content has fresh. c.deliver.ensures.acts.opened clean content (served, has.0, fresh))

pub returns-clause-cause : goal.returns-clause-cause
returns-clause-cause g c clean content has n takes fits =
    let old = state g.S.Store c.args.self.now.conn in
    if_unserved _ c.deliver.result (c.deliver.ensures.acts.cause clean has.1 content (takes.0, has.0, fits, room_less old 501 (501 * (n + 1)) (omega arith) (takes.1 (n + 1) (omega arith))))

pub returns-clause-ready : goal.returns-clause-ready
returns-clause-ready g c clean content has n takes = (
  c.deliver.ensures.acts.ready takes.0,
  λ m few. let one_more : 501 * (m + 1) ≡ 501 + 501 * m = omega arith in
      c.deliver.ensures.acts.room clean takes.0 content has.0 (501 * m) (subst (λ k. HasRoom k (state g.S.Store c.args.self.now.conn)) one_more (takes.1 (m + 1) (omega (arith, few)))),
)

pub returns-clause-goes : goal.returns-clause-goes
returns-clause-goes g c clean =
    let old = state g.S.Store c.args.self.now.conn in
    let new = state g.S.Store c.deliver.new.self.conn in
    goes_at old new (IsInformed old c.args.self.now.known) (IsInformed new c.deliver.new.self.known) c.args.request.now c.deliver.result (c.deliver.ensures.acts.goes clean) c.deliver.ensures.acts.informed
