use Rattle.std.proofs.Common.{rules, arith}
use Rattle.sqlite.specs.State.{HasCleanDisk}
use Rattle.sqlite.specs.Files.{file_state}
use Rattle.ee_store.proofs.AtRest.{found_alone}
use Rattle.ee_store.proofs.opening.open_on.Goals as goal

pub returns-in-Err-clause-left : goal.returns-in-Err-clause-left
returns-in-Err-clause-left g c = c.in-Err.ensures.unharmed

pub returns-in-Err-clause-cause : goal.returns-in-Err-clause-cause
returns-in-Err-clause-cause g c clean = (c.in-Err.error, c.of_error-cause.ensures, c.in-Err.ensures.cause clean)

pub returns-in-Err-clause-held : goal.returns-in-Err-clause-held
returns-in-Err-clause-held g c clean settled = c.holding_law.ensures.leaves c.args.files _ settled (c.in-Err.ensures.unharmed clean)

pub returns-in-Ok-adopt-clause-opened : goal.returns-in-Ok-adopt-clause-opened
returns-in-Ok-adopt-clause-opened g c clean =
    let was = c.in-Ok.conn in
    let it = c.in-Ok-adopt.ensures in
    let early : HasCleanDisk (file_state was) = omega (arith, it.crash.clean, clean) in
    record {
      was = was;
      opened = c.in-Ok.ensures.opened early;
      found = c.in-Ok.ensures.found early;
      alone = λ content alone. found_alone _ (file_state was) _ content (c.in-Ok.ensures.found early) (it.goes_on clean) alone;
      begins = it.begins clean;
      begun = it.begun clean;
      keeps = it.found clean;
      present = it.present clean;
      some = it.stands clean;
      follows = it.follows clean;
      goes_on = it.goes_on clean;
      crash = it.crash;
      left = it.left clean;
      ready = it.ready (c.in-Ok.ensures.fresh.autocommit, c.in-Ok.ensures.fresh.unlimited);
      room = it.room clean;
      shielded = it.crash.shield (c.in-Ok.ensures.guarded early);
    }

pub returns-in-Err-adopt-clause-refused : goal.returns-in-Err-adopt-clause-refused
returns-in-Err-adopt-clause-refused g c clean =
    let was = c.in-Ok.conn in
    let it = c.in-Err-adopt.ensures in
    let early : HasCleanDisk (file_state was) = omega (arith, it.crash.clean, clean) in
    record {
      was = was;
      opened = c.in-Ok.ensures.opened early;
      found = c.in-Ok.ensures.found early;
      kept = it.kept clean;
      version = it.version clean;
      other = it.other clean;
      unusable = it.unusable clean;
      tested = it.tested clean;
      cause = it.cause clean;
      waits = it.waits clean;
      crash = it.crash;
      left = it.left clean;
      ready = it.ready (c.in-Ok.ensures.fresh.autocommit, c.in-Ok.ensures.fresh.unlimited);
    }

pub returns-in-Err-clause-fault : goal.returns-in-Err-clause-fault
returns-in-Err-clause-fault g c = search rules
