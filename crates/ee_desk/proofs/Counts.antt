-- The counts of a day with one ticket more.
use Rattle.std.proofs.Common.{◌≡◌, ℕ, ◌+◌, eqb, cond, List, [], ◌∷◌, ◌++◌, length, Some, arith, refl, sym, ap, ◌∙◌, Option, subst}
use Rattle.std.specs.List.{sum_by}
use Rattle.std.proofs.lemmas.Bool.{eq-eqb}
use Rattle.std.proofs.lemmas.List.Elements.{filter-append}
use Rattle.std.proofs.lemmas.List.Sums.{sum_by-append}
use Rattle.ee_desk_model.specs.declared.replies.Ticket.{Ticket}
use Rattle.ee_desk_model.specs.PlainBooks.{of_day, batch_so_far, bonds_on, total_of}
use Rattle.ee_desk_decide.specs.declared.views.DayCounts.{DayCounts}
use Rattle.ee_desk.specs.Inner.Kept.{AreCounts}

pub of_day_push : (tickets : List Ticket) (t : Ticket) → of_day t.day (tickets ++ t ∷ []) ≡ of_day t.day tickets ++ t ∷ []
of_day_push tickets t =
    filter-append (λ u. eqb u.day t.day) tickets (t ∷ []) ∙ ap (λ b. of_day t.day tickets ++ cond b (t ∷ []) []) (eq-eqb t.day t.day refl)

long_push : (tickets : List Ticket) (t : Ticket) → length (tickets ++ t ∷ []) ≡ length tickets + 1
long_push [] t = refl
long_push (u ∷ tickets) t = let rest = long_push tickets t in omega (arith, rest)

pub count_push : (tickets : List Ticket) (t : Ticket) → length (of_day t.day (tickets ++ t ∷ [])) ≡ length (of_day t.day tickets) + 1
count_push tickets t = ap length (of_day_push tickets t) ∙ long_push (of_day t.day tickets) t

pub sum_push : (weight : Ticket → ℕ) (tickets : List Ticket) (t : Ticket) → sum_by weight (of_day t.day (tickets ++ t ∷ [])) ≡ sum_by weight (of_day t.day tickets) + weight t
sum_push weight tickets t =
    let more = sum_by-append weight (of_day t.day tickets) (t ∷ []) in
    ap (sum_by weight) (of_day_push tickets t) ∙ omega (arith, more)

-- counts of the open day, with a ticket more of that day
pub counts_more : (day : Option ℕ) (tickets pushed : List Ticket) (t : Ticket) (counts : DayCounts) (now : DayCounts) → AreCounts (batch_so_far day tickets) counts → day ≡ Some t.day
    → pushed ≡ tickets ++ t ∷ [] → now.tickets ≡ counts.tickets + 1 → now.bonds ≡ counts.bonds + length t.lines → now.total.0 ≡ counts.total.0 + t.total.0
    → AreCounts (batch_so_far day pushed) now
counts_more day tickets pushed t counts now are opened push one two three =
    let old = subst (λ o. AreCounts (batch_so_far o tickets) counts) opened are in
    let a = old.0 in
    let b = old.1 in
    let c = old.2 in
    let x = count_push tickets t in
    let y = sum_push bonds_on tickets t in
    let z = sum_push total_of tickets t in
    subst (λ (p : Option ℕ × List Ticket). AreCounts (batch_so_far p.0 p.1) now) (λ i. (sym opened i, sym push i))
    (omega (arith, one, a, x), omega (arith, two, b, y), omega (arith, three, c, z))
