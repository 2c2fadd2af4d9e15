use Rattle.std.proofs.Common.{rules}
use Rattle.sqlite.specs.Held.{state}
use Rattle.ee_store.proofs.Asked.{follows_still, still_informed}
use Rattle.ee_store.proofs.keeper.SqlKeeper.ask.Goals as goal

pub returns-in-Ok-clause-room : goal.returns-in-Ok-clause-room
returns-in-Ok-clause-room g c = c.ask.ensures.room

pub returns-in-Ok-clause-informed : goal.returns-in-Ok-clause-informed
returns-in-Ok-clause-informed g c =
    still_informed (state g.S.Store c.args.self.now.conn) (state g.S.Store c.ask.new.conn) c.args.self.now.known c.ask.ensures.crash c.ask.ensures.kept

pub returns-in-Err-clause-informed : goal.returns-in-Err-clause-informed
returns-in-Err-clause-informed g c =
    still_informed (state g.S.Store c.args.self.now.conn) (state g.S.Store c.ask.new.conn) c.args.self.now.known c.ask.ensures.crash c.ask.ensures.kept

pub returns-in-Err-clause-cause : goal.returns-in-Err-clause-cause
returns-in-Err-clause-cause g c = search rules

pub returns-in-Err-clause-clean : goal.returns-in-Err-clause-clean
returns-in-Err-clause-clean g c = search rules

pub returns-in-Err-clause-crash : goal.returns-in-Err-clause-crash
returns-in-Err-clause-crash g c = search rules

pub returns-in-Err-clause-follows : goal.returns-in-Err-clause-follows
returns-in-Err-clause-follows g c = follows_still (state g.S.Store c.args.self.now.conn) (state g.S.Store c.ask.new.conn) c.ask.ensures.crash c.ask.ensures.kept

pub returns-in-Err-clause-ready : goal.returns-in-Err-clause-ready
returns-in-Err-clause-ready g c = search rules

pub returns-in-Err-clause-shows : goal.returns-in-Err-clause-shows
returns-in-Err-clause-shows g c = search rules

pub returns-in-Ok-clause-cause : goal.returns-in-Ok-clause-cause
returns-in-Ok-clause-cause g c = search rules

pub returns-in-Ok-clause-clean : goal.returns-in-Ok-clause-clean
returns-in-Ok-clause-clean g c = search rules

pub returns-in-Ok-clause-crash : goal.returns-in-Ok-clause-crash
returns-in-Ok-clause-crash g c = search rules

pub returns-in-Ok-clause-follows : goal.returns-in-Ok-clause-follows
returns-in-Ok-clause-follows g c = follows_still (state g.S.Store c.args.self.now.conn) (state g.S.Store c.ask.new.conn) c.ask.ensures.crash c.ask.ensures.kept

pub returns-in-Ok-clause-ready : goal.returns-in-Ok-clause-ready
returns-in-Ok-clause-ready g c = search rules

pub returns-in-Ok-clause-shows : goal.returns-in-Ok-clause-shows
returns-in-Ok-clause-shows g c = search rules
