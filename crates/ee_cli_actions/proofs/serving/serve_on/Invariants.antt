use Rattle.std.proofs.Common.{◌≡◌, ◌+◌, ◌*◌, ℕ, false, List, length}
use Rattle.std.specs.Io.KnownBytes.{Appends}
use Rattle.ee_desk_model.specs.Repeats.{Content}
use Rattle.ee_counter.specs.Serving.{most_messages}
use Rattle.ee_counter.specs.declared.connections.Ended.{Ended}
use Rattle.ee_keeper.specs.Keeping.{Continues, HasAfter}
use Rattle.ee_cli_actions.specs.Connections.{ServesEach, any_failed}
use Rattle.ee_cli_actions.specs.Printed.{connection_lines}
use Rattle.ee_cli_actions.proofs.serving.serve_on.Given as goal

abbrev pub invariant-loop-connection : goal.invariant-loop-connection
invariant-loop-connection g l = record {
  continues : Continues g.K.Keeper.is_clean g.K.Keeper.is_guarded g.K.Keeper.is_open g.K.Keeper.faults l.fn.keeper l.keeper;
  ready : g.K.Keeper.is_clean l.keeper → (c : Content) → g.K.Keeper.has l.fn.keeper c → (n : ℕ) → g.K.Keeper.takes (n + l.connection * most_messages) l.fn.keeper → g.K.Keeper.takes n l.keeper;
  held : g.K.Keeper.is_clean l.keeper → (c : Content) → g.K.Keeper.has l.fn.keeper c → (d : Content) × g.K.Keeper.has l.keeper d;
  so_far : (ended : List Ended) × (length ended ≡ l.connection) × (any_failed ended ≡ false)
      × Appends (g.W.Write.contents l.fn.output) (g.W.Write.contents l.output) (connection_lines 0 ended)
      × (g.K.Keeper.is_clean l.keeper → (c : Content) → g.K.Keeper.has l.fn.keeper c → ServesEach (g.L.Listens.coming l.fn.listener) (g.L.Listens.coming l.listener) c ended (HasAfter (g.K.Keeper.has l.keeper) (g.K.Keeper.went l.fn.keeper) (g.K.Keeper.went l.keeper)));
}
