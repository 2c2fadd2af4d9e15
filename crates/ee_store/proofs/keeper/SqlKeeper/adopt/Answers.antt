use Rattle.std.proofs.Common.{rules}
use Rattle.sqlite.specs.Held.{state}
use Rattle.ee_store.proofs.Opened.{some_content}
use Rattle.ee_store.proofs.keeper.SqlKeeper.adopt.Goals as goal

pub returns-in-Err-clause-ready : goal.returns-in-Err-clause-ready
returns-in-Err-clause-ready g c = search rules

pub returns-in-Err-clause-version : goal.returns-in-Err-clause-version
returns-in-Err-clause-version g c clean = c.in-Err.ensures.version clean

pub returns-in-Err-clause-other : goal.returns-in-Err-clause-other
returns-in-Err-clause-other g c clean = c.in-Err.ensures.other clean

pub returns-in-Err-clause-unusable : goal.returns-in-Err-clause-unusable
returns-in-Err-clause-unusable g c clean = c.in-Err.ensures.unusable clean

pub returns-in-Err-clause-tested : goal.returns-in-Err-clause-tested
returns-in-Err-clause-tested g c clean = c.in-Err.ensures.tested clean

pub returns-in-Err-clause-cause : goal.returns-in-Err-clause-cause
returns-in-Err-clause-cause g c clean = c.in-Err.ensures.cause clean

pub returns-in-Ok-clause-present : goal.returns-in-Ok-clause-present
returns-in-Ok-clause-present g c clean = c.in-Ok.ensures.present clean

pub returns-in-Ok-clause-found : goal.returns-in-Ok-clause-found
returns-in-Ok-clause-found g c clean = c.in-Ok.ensures.found clean

pub returns-in-Ok-clause-room : goal.returns-in-Ok-clause-room
returns-in-Ok-clause-room g c clean = c.in-Ok.ensures.room clean

pub returns-in-Ok-clause-informed : goal.returns-in-Ok-clause-informed
returns-in-Ok-clause-informed g c clean =
    let some = some_content (state g.S.Store c.args.conn) (state g.S.Store c.ready.new.conn) (c.in-Ok.ensures.stands clean) in
    (some.0, some.1, c.nothing.ensures some.0.books)

pub returns-in-Ok-clause-begins : goal.returns-in-Ok-clause-begins
returns-in-Ok-clause-begins g c clean = c.in-Ok.ensures.begins clean

pub returns-in-Ok-clause-begun : goal.returns-in-Ok-clause-begun
returns-in-Ok-clause-begun g c clean = c.in-Ok.ensures.begun clean

pub returns-in-Ok-clause-stands : goal.returns-in-Ok-clause-stands
returns-in-Ok-clause-stands g c clean = c.in-Ok.ensures.stands clean

pub returns-in-Ok-clause-follows : goal.returns-in-Ok-clause-follows
returns-in-Ok-clause-follows g c clean = c.in-Ok.ensures.follows clean

pub returns-in-Ok-clause-goes_on : goal.returns-in-Ok-clause-goes_on
returns-in-Ok-clause-goes_on g c clean = c.in-Ok.ensures.goes_on clean

pub returns-in-Ok-clause-ready : goal.returns-in-Ok-clause-ready
returns-in-Ok-clause-ready g c = c.in-Ok.ensures.ready

pub returns-in-Ok-clause-crash : goal.returns-in-Ok-clause-crash
returns-in-Ok-clause-crash g c = c.in-Ok.ensures.crash

pub returns-in-Ok-clause-left : goal.returns-in-Ok-clause-left
returns-in-Ok-clause-left g c clean = c.in-Ok.ensures.left clean

pub returns-in-Err-clause-kept : goal.returns-in-Err-clause-kept
returns-in-Err-clause-kept g c clean = c.in-Err.ensures.kept clean

pub returns-in-Err-clause-waits : goal.returns-in-Err-clause-waits
returns-in-Err-clause-waits g c clean = c.in-Err.ensures.waits clean

pub returns-in-Err-clause-crash : goal.returns-in-Err-clause-crash
returns-in-Err-clause-crash g c = c.in-Err.ensures.crash

pub returns-in-Err-clause-left : goal.returns-in-Err-clause-left
returns-in-Err-clause-left g c clean = c.in-Err.ensures.left clean
