use Rattle.std.proofs.Common.{◌*◌}
use Rattle.sqlite.specs.Held.{state}
use Rattle.ee_desk_model.specs.Queries.{ShowsQuery}
use Rattle.ee_store_books.specs.Seen.{HasContent}
use Rattle.ee_store_delivery.specs.Known.{IsInformed}
use Rattle.ee_store.proofs.Asked.{shows_both, may_fail}
use Rattle.ee_store.proofs.Going.{asks_at}
use Rattle.ee_store.proofs.Shut.{continued}
use Rattle.ee_store.proofs.queries.SqlKeeperKeeper.ask.Goals as goal

pub returns-clause-asks : goal.returns-clause-asks
returns-clause-asks g c =
    let was = c.args.self.now in
    let is = c.ask.new.self in
    let old = state g.S.Store was.conn in
    let new = state g.S.Store is.conn in
    record {
      continues = continued was is (λ k. state g.S.Store k.conn) (λ _. ⊥) c.ask.ensures.crash;
      shows = λ clean content has. shows_both (ShowsQuery content.books c.args.query.now) c.ask.result (HasContent new content) (IsInformed new is.known)
          (c.ask.ensures.shows clean content has.0) (c.ask.ensures.informed has.1);
      failed = may_fail c.ask.result;
      cause = λ clean content has n takes. c.ask.ensures.cause clean takes.0 content has.0;
      ready = λ clean content has n takes. (c.ask.ensures.ready takes.0, λ m few. c.ask.ensures.room clean content has.0 (501 * m) (takes.1 m few));
      goes = λ clean. asks_at old new (IsInformed old was.known) (IsInformed new is.known) (c.ask.ensures.follows clean) c.ask.ensures.informed;
    }
