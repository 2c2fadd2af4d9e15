-- A keeper's calls go on in the history of its store.
use Rattle.std.proofs.Common.{List, [], ◌∷◌, ◌++◌, Result, Ok, Err, sym, subst, append-nil}
use Rattle.std.specs.Prelude.{MatchOption}
use Rattle.std.specs.Result.{result_err}
use Rattle.std.proofs.Math.Logic.{∥∥₁_map}
use Rattle.sqlite.specs.State.{State}
use Rattle.ee_desk_model.specs.declared.acts.Request.{Request}
use Rattle.ee_desk_model.specs.declared.refusals.Unserved.{Unserved}
use Rattle.ee_desk_model.specs.Repeats.{Content}
use Rattle.ee_desk_laws.specs.Attempts.{LeadOn}
use Rattle.ee_desk_laws.specs.Events.{Event, World}
use Rattle.ee_desk_laws.specs.Events.Event.{Deliver, Lose, Unserved as NotServed}
use Rattle.ee_desk_laws.proofs.Lemmas.{lead_by_reply, lead_unserved}
use Rattle.ee_keeper.specs.Keeping.{attempt_at}
use Rattle.ee_store.specs.Served.{FollowsWorld}
use Rattle.ee_store.specs.History.{HasCome, Goes}

-- the store has gone through these events, and the cache is correct
abbrev pub Went : State → Type 0 → Content → List Event → Type 0
Went now informed start events = HasCome start events now × informed

pub goes_at : {R : Type 0} (old new : State) (was is : Type 0) (q : Request) (result : Result R Unserved)
    → (was → MatchOption (result_err result) (Goes old (Deliver q ∷ []) new × Goes old (Lose q ∷ []) new) (λ _. Goes old (NotServed q ∷ []) new))
    → (was → is) → LeadOn (Went old was) (attempt_at q result) (Went new is)
goes_at old new was is q (Ok reply) goes stays = lead_by_reply (Went old was) (Went new is) q (λ start earlier went.
    let both = goes went.1 in
    ((both.0 start earlier went.0, stays went.1), (both.1 start earlier went.0, stays went.1)))
goes_at old new was is q (Err cause) goes stays = lead_unserved (Went old was) (Went new is) q (λ start earlier went.
    (goes went.1 start earlier went.0, stays went.1))

-- a store that follows the same worlds has gone through the same events
goes_unchanged : (old new : State) → ((w : World) → FollowsWorld old w → FollowsWorld new w) → (start : Content) (events : List Event)
    → HasCome start events old → HasCome start events new
goes_unchanged old new follows start events come = ∥∥₁_map come (λ (w, happened, up, before). (w, happened, up, follows w before))

pub asks_at : (old new : State) (was is : Type 0) → ((w : World) → FollowsWorld old w → FollowsWorld new w) → (was → is)
    → LeadOn (Went old was) [] (Went new is)
asks_at old new was is follows stays start earlier more went none =
    subst (λ l. Went new is start (earlier ++ l)) (sym none)
    (subst (Went new is start) (sym (append-nil earlier)) (goes_unchanged old new follows start earlier went.0, stays went.1))
