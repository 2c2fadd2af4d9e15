use Rattle.std.proofs.Common.{sym, ◌∙◌}
use Rattle.std.proofs.lemmas.Result.{IfOk-weaker}
use Rattle.ee_store_tables.proofs.SameLemmas.{same_sums}
use Rattle.ee_store_tables.proofs.tickets.day_tickets.Goals as goal

pub returns-clause-found : goal.returns-clause-found
returns-clause-found g c clean =
    IfOk-weaker c.read_each.result _ _ (λ found exact rows sees. same_sums _ _ (sym exact ∙ c.in_ok-rows.ensures.found clean rows sees)) (rw c.deref.ensures.value at c.read_each.ensures.exact)
