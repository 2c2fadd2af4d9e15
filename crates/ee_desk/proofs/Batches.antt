-- The batch that is found is that of its day's tickets.
use Rattle.std.proofs.Common.{◌≡◌, ℕ, ◌==◌, Bool, true, false, cond, List, [], ◌∷◌, Some, refl, ap, ◌∙◌}
use Rattle.std.specs.Option.{IfSome}
use Rattle.std.specs.List.{find, AllByRecursion}
use Rattle.std.proofs.lemmas.Bool.{eqb-true}
use Rattle.ee_desk_model.specs.declared.replies.Batch.{Batch}
use Rattle.ee_desk_model.specs.declared.replies.Ticket.{Ticket}
use Rattle.ee_desk_model.specs.PlainBooks.{batch_of}

pub found_is_right : (tickets : List Ticket) (day : ℕ) (batches : List Batch) → AllByRecursion (λ batch. batch ≡ batch_of batch.day tickets) batches
    → IfSome (find (λ batch. batch.day == day) batches) (λ batch. batch ≡ batch_of day tickets)
found_is_right tickets day [] h = tt
found_is_right tickets day (batch ∷ batches) h = at (found_is_right tickets day batches h.1) (batch.day == day) refl
  where
    at : IfSome (find (λ batch. batch.day == day) batches) (λ batch. batch ≡ batch_of day tickets) → (b : Bool) → (batch.day == day) ≡ b → IfSome (cond b (Some batch) (find (λ batch. batch.day == day) batches)) (λ batch. batch ≡ batch_of day tickets)
    at rest true is = h.0 ∙ ap (λ d. batch_of d tickets) (eqb-true batch.day day is)
    at rest false is = rest
