use Rattle.std.proofs.Common.{◌≡◌, false, List, [], ◌∷◌, inl, inr, refl, sym, subst, ◌∙◌}
use Rattle.std.specs.FinMap.{contains_key}
use Rattle.sqlite.specs.Held.{state}
use Rattle.sqlite.specs.State.{HasCleanDisk}
use Rattle.sqlite.specs.Tree.{Trees}
use Rattle.ee_desk_model.specs.Contents.{content_after}
use Rattle.ee_desk_model.specs.Numbers.{number_of}
use Rattle.ee_desk_model.specs.Repeats.{Content}
use Rattle.ee_desk_model.specs.declared.refusals.Unserved.TheVariants as unserved
use Rattle.ee_desk_laws.specs.Events.{World, Told, decided as with_decided, unserved as with_unserved}
use Rattle.ee_store_tables.specs.Statements.{IsExcused}
use Rattle.ee_store_tables.specs.declared.failures.Failure.{Failure}
use Rattle.ee_store_tables.specs.declared.failures.Failure.TheVariants.{NoMemory, StoreFailed}
use Rattle.ee_store_tables.proofs.Lemmas.Transactions.{clean_before}
use Rattle.ee_store_books.specs.Seen.{StandsFor, HasContent}
use Rattle.ee_store_books.proofs.Lemmas.Lookups.{stands_committed}
use Rattle.ee_store_delivery.specs.Known.{IsInformed}
use Rattle.ee_store.specs.Served.{FollowsWorld}
use Rattle.ee_store.specs.Inner.Served.{unserved_as}
use Rattle.ee_store.proofs.Following.{follows_decided}
use Rattle.ee_store.proofs.History.{goes_decided, goes_lost, goes_unserved}
use Rattle.ee_store.proofs.keeper.SqlKeeper.respond.Goals as goal

was_failed : (failure : Failure) → unserved_as failure ≡ unserved.StoreFailed → failure ≡ StoreFailed
was_failed NoMemory told = absurd (cc)
was_failed StoreFailed told = refl

pub returns-in-Ok-clause-acts : goal.returns-in-Ok-clause-acts
returns-in-Ok-clause-acts g c =
    let old = state g.S.Store c.args.self.now.conn in
    let new = state g.S.Store c.deliver_on.new.conn in
    let q = c.args.request.now in
    let it = c.in-Ok.ensures in
    let durable : HasCleanDisk new → IsInformed old c.args.self.now.known → (content : Content) → HasContent old content → contains_key content.kept (number_of q) ≡ false
    → (db : Trees) → new.may_leave db → StandsFor db (content_after content (q ∷ []))
    = λ clean informed content has none db may.
    let is_open = it.opened clean content has none in
    stands_committed new (content_after content (q ∷ [])) (it.kept clean informed content has) is_open (c.schema-schema.ensures.live is_open).1 db (it.durable clean content has none db may) in
    let decided : HasCleanDisk new → IsInformed old c.args.self.now.known → (w : World) (told : List Told) → FollowsWorld old w → FollowsWorld new (with_decided w q told)
    = λ clean informed w told follows.
    follows_decided old new q w follows told (it.kept clean informed w.now follows.0) (durable clean informed w.now follows.0) (it.again clean w.now follows.0) in
    record {
      clean = clean_before old new it.crash;
      informed = it.informed;
      opened = λ clean content given. it.opened clean content given.1 given.2;
      crash = it.crash;
      durable = λ clean informed content given. durable clean informed content given.1 given.2;
      again = λ clean content given. it.again clean content given.1 given.2;
      others = it.others;
      ready = it.ready;
      room = it.room;
      cause = λ clean informed content can. tt;
      decided = λ clean informed served. decided clean informed;
      unserved = λ clean informed. tt;
      goes = λ clean informed. (goes_decided old new q (decided clean informed), goes_lost old new q (decided clean informed));
    }

pub returns-in-Err-clause-acts : goal.returns-in-Err-clause-acts
returns-in-Err-clause-acts g c =
    let old = state g.S.Store c.args.self.now.conn in
    let new = state g.S.Store c.deliver_on.new.conn in
    let q = c.args.request.now in
    let it = c.in-Err.ensures in
    let later = record c.args.self.now { conn = c.deliver_on.new.conn } in
    let missed : HasCleanDisk new → IsInformed old c.args.self.now.known → (w : World) → FollowsWorld old w → FollowsWorld new (with_unserved w q)
    = λ clean informed w follows. (
      it.failed clean w.now follows.0,
      c.ties_to_stores_law.ensures.unserved c.args.self.now later w q (λ db may. elim (it.crash.crash clean db may) [
        | inl before ↦ inl before
        | inr after ↦ inr (after informed w.now follows.0)
      ]) follows.1,
    ) in
    record {
      clean = clean_before old new it.crash;
      informed = it.informed;
      opened = λ clean content given. absurd (let e = given.0 in cc);
      crash = it.crash;
      durable = λ clean informed content given. absurd (let e = given.0 in cc);
      again = λ clean content given. absurd (let e = given.0 in cc);
      others = it.others;
      ready = it.ready;
      room = it.room;
      cause = λ clean informed content can told.
          subst (IsExcused old new) (was_failed c.in-Err.failure (sym c.unserved.ensures ∙ told)) (it.cause clean informed content can);
      decided = λ clean informed served. absurd (cc);
      unserved = missed;
      goes = λ clean informed. goes_unserved old new q (missed clean informed);
    }
