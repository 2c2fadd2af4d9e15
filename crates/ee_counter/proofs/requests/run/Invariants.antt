use Rattle.std.proofs.Common.{◌≡◌, ℕ, ◌+◌, [], length, take, vec_len, vec_capacity}
use Rattle.std.specs.List.{AllByRecursion}
use Rattle.ee_desk_model.specs.Repeats.{Content}
use Rattle.ee_desk_model.specs.Contents.{content_after}
use Rattle.ee_desk_model.specs.Answers.{served, AreAnswers}
use Rattle.ee_keeper.specs.Keeping.{Continues, FailsOnlyIf, HasCause}
use Rattle.ee_desk_laws.specs.Attempts.{LeadOn}
use Rattle.ee_counter.specs.Served.{FitInTurn, attempts_at}
use Rattle.ee_counter.proofs.requests.run.Given as goal

abbrev pub invariant-loop-request : goal.invariant-loop-request
invariant-loop-request g l = record {
  count : vec_len l.answers ≡ l.request-index;
  room : vec_capacity l.answers ≡ length l.requests;
  continues : Continues g.K.Keeper.is_clean g.K.Keeper.is_guarded g.K.Keeper.is_open g.K.Keeper.faults l.fn.keeper l.keeper;
  failed : AllByRecursion (FailsOnlyIf g.K.Keeper.may_fail) l.answers.items;
  told : g.K.Keeper.is_clean l.keeper → (c : Content) → g.K.Keeper.has l.fn.keeper c
      → AreAnswers c [] (take l.request-index l.requests) l.answers.items
      × g.K.Keeper.has l.keeper (content_after c (served (take l.request-index l.requests) l.answers.items));
  goes : g.K.Keeper.is_clean l.keeper → LeadOn (g.K.Keeper.went l.fn.keeper) (attempts_at (take l.request-index l.requests) l.answers.items) (g.K.Keeper.went l.keeper);
  ready : g.K.Keeper.is_clean l.keeper → (c : Content) → g.K.Keeper.has l.fn.keeper c → (n : ℕ) → g.K.Keeper.takes (n + l.request-index) l.fn.keeper → g.K.Keeper.takes n l.keeper;
  cause : g.K.Keeper.is_clean l.keeper → (c : Content) → g.K.Keeper.has l.fn.keeper c → (n : ℕ) → g.K.Keeper.takes (n + l.request-index) l.fn.keeper
      → FitInTurn g.K.Keeper.fits c [] (take l.request-index l.requests) l.answers.items
      → AllByRecursion (FailsOnlyIf (HasCause (g.K.Keeper.faults l.fn.keeper) (g.K.Keeper.faults l.keeper) (g.K.Keeper.is_open l.fn.keeper))) l.answers.items;
}
