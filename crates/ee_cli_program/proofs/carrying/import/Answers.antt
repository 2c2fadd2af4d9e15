use Rattle.std.proofs.Common.{inl}
use Rattle.ee_cli_program.proofs.carrying.import.Goals as goal

pub returns-in-Ok-clause-works : goal.returns-in-Ok-clause-works
returns-in-Ok-clause-works g c = inl record {
  first = c.in-Ok.store;
  left = c.import_path-tried.new.keeper;
  ended = c.import_path-tried.result.ended;
  since = (
    c.in-Ok.ensures.opened,
    record {
      continues = c.import_path-tried.ensures.continues;
      carried = c.import_path-tried.ensures.imports;
      cause = c.import_path-tried.ensures.cause;
    },
  );
  carried = tt;
  closes = c.end.ensures.closes;
}
