use Rattle.std.proofs.lemmas.Result.{IfOk-weaker}
use Rattle.ee_store_delivery.proofs.view.find_day_state.Goals as goal

pub returns-in-None-clause-found : goal.returns-in-None-clause-found
returns-in-None-clause-found g c clean inside =
    IfOk-weaker c.day_state_in.result _ _ (λ day_state is S sees known. is S sees) (c.day_state_in.ensures.found clean inside)
