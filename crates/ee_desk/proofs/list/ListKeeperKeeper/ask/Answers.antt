use Rattle.ee_desk_laws.proofs.Lemmas.{lead_nowhere}
use Rattle.ee_desk_model.specs.Queries.{ShowsQuery}
use Rattle.ee_desk.proofs.Asked.{shows_same, never_fails, never_shut}
use Rattle.ee_desk.proofs.list.ListKeeperKeeper.ask.Goals as goal

pub returns-clause-asks : goal.returns-clause-asks
returns-clause-asks c = record {
  continues = record { clean = λ clean. clean; guarded = λ guarded. guarded; shut = λ clean. never_shut };
  shows = λ clean content has. shows_same (λ books. ShowsQuery books c.args.query.now) c.args.self.now content c.ask.result _ has.0 c.ask.ensures.shown has;
  failed = never_fails _ c.ask.result c.ask.ensures.memory;
  cause = λ clean content has n takes. never_fails _ c.ask.result c.ask.ensures.memory;
  ready = λ clean content has n takes. takes;
  goes = λ clean. lead_nowhere _;
}
