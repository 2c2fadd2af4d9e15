use Rattle.std.proofs.Common.{◌≡◌, ◌+◌, ℕ, true, None}
use Rattle.ee_desk_model.specs.Repeats.{Content}
use Rattle.ee_keeper.specs.Keeping.{Continues, FailedIn, HasAfter}
use Rattle.ee_counter.specs.Answering.{FitMessages}
use Rattle.ee_counter.proofs.Turns.{HasTold}
use Rattle.ee_counter.proofs.connections.serve.Given as goal

abbrev pub invariant-loop-messages : goal.invariant-loop-messages
invariant-loop-messages g l =
    record {
      open_yet : l.buffer.ended ≡ None;
      failed : l.store_failed ≡ true → g.K.Keeper.may_fail;
      continues : Continues g.K.Keeper.is_clean g.K.Keeper.is_guarded g.K.Keeper.is_open g.K.Keeper.faults l.fn.keeper l.keeper;
      ready : g.K.Keeper.is_clean l.keeper → (c : Content) → g.K.Keeper.has l.fn.keeper c → (n : ℕ) → g.K.Keeper.takes (n + l.messages) l.fn.keeper → g.K.Keeper.takes n l.keeper;
      cause : g.K.Keeper.is_clean l.keeper → (c : Content) → g.K.Keeper.has l.fn.keeper c → (n : ℕ) → g.K.Keeper.takes (n + l.messages) l.fn.keeper → FitMessages g.K.Keeper.fits
          → l.store_failed ≡ true → FailedIn g.K.Keeper.is_open g.K.Keeper.faults l.fn.keeper l.keeper;
      so_far : g.K.Keeper.is_clean l.keeper → (c : Content) → g.K.Keeper.has l.fn.keeper c
          → HasTold (g.R.Read.remaining l.fn.reader) (g.R.Read.remaining l.reader) l.buffer.held (g.W.Write.contents l.fn.writer) (g.W.Write.contents l.writer) c l.messages l.store_failed
          (HasAfter (g.K.Keeper.has l.keeper) (g.K.Keeper.went l.fn.keeper) (g.K.Keeper.went l.keeper));
    }
