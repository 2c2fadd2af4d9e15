-- Tickets by their numbers.
use Rattle.std.proofs.Common.{◌≡◌, ◌==◌, ℕ, zero, suc, ◌+◌, ◌<◌, ◌≤◌, Bool, false, cond, List, [], ◌∷◌, length, get_or, Some, None, find, arith, refl, sym, ap, ◌∙◌}
use Rattle.std.proofs.lemmas.Bool.{eqb-true, eq-eqb, false_from_ne_true}
use Rattle.ee_desk_model.specs.declared.replies.Ticket.{Ticket}
use Rattle.ee_desk_model.specs.Sound.{NumberedFrom}

differ : (m n : ℕ) → (m ≡ n → ⊥) → (m == n) ≡ false
differ m n apart = false_from_ne_true (m == n) (λ e. apart (eqb-true m n e))

-- the ticket at a place has the number of that place
pub numbered_at : (k : ℕ) (tickets : List Ticket) (i n : ℕ) (t : Ticket) → NumberedFrom k tickets → n ≡ k + i → i < length tickets → t ≡ get_or tickets i t
    → find (λ (other : Ticket). other.ticket == n) tickets ≡ Some t
numbered_at k [] i n t h e below is = absurd (omega (arith, below))
numbered_at k (u ∷ tickets) zero n t h e below is =
    let own = h.0 in
    ap (λ (b : Bool). cond b (Some u) (find (λ (other : Ticket). other.ticket == n) tickets)) (eq-eqb u.ticket n (let same : u.ticket ≡ n = omega (arith, own, e) in same)) ∙ ap Some (sym is)
numbered_at k (u ∷ tickets) (suc i) n t h e below is =
    let own = h.0 in
    ap (λ (b : Bool). cond b (Some u) (find (λ (other : Ticket). other.ticket == n) tickets)) (differ u.ticket n (λ same. absurd (omega (arith, own, e, same))))
    ∙ numbered_at (suc k) tickets i n t h.1 (omega (arith, e)) (omega (arith, below)) is

-- a number below the first isn't found, nor is one above the last
pub not_numbered : (k : ℕ) (tickets : List Ticket) (n : ℕ) → NumberedFrom k tickets → (k ≤ n → k + length tickets ≤ n) → find (λ (other : Ticket). other.ticket == n) tickets ≡ None
not_numbered k [] n h out = refl
not_numbered k (u ∷ tickets) n h out =
    let own = h.0 in
    ap (λ (b : Bool). cond b (Some u) (find (λ (other : Ticket). other.ticket == n) tickets)) (differ u.ticket n (λ same. absurd (outside k n own same out)))
    ∙ not_numbered (suc k) tickets n h.1 (λ le. let far = out (omega (arith, le)) in omega (arith, far))
  where
    outside : (k n : ℕ) → u.ticket ≡ k → u.ticket ≡ n → (k ≤ n → k + length (u ∷ tickets) ≤ n) → ⊥
    outside k n own same out = let far = out (omega (arith, own, same)) in omega (arith, far, own, same)
