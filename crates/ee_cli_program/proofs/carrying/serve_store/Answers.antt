use Rattle.std.proofs.Common.{inl}
use Rattle.ee_cli_program.proofs.carrying.serve_store.Goals as goal

pub returns-in-Ok-clause-works : goal.returns-in-Ok-clause-works
returns-in-Ok-clause-works g c = inl record {
  first = c.in-Ok.store;
  left = c.serve_port-tried.new.keeper;
  ended = c.serve_port-tried.result.ended;
  since = (
    c.in-Ok.ensures.opened,
    record {
      continues = c.serve_port-tried.ensures.continues;
      carried = c.serve_port-tried.ensures.over;
      cause = c.serve_port-tried.ensures.cause;
    },
  );
  carried = tt;
  closes = c.end.ensures.closes;
}
