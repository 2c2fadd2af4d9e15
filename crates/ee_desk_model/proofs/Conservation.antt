-- What the batches and the open day hold is what was paid.
use Rattle.std.proofs.Common.{◌≡◌, ℕ, ◌+◌, ◌<◌, eqb, Bool, true, false, cond, ◌||◌, List, [], ◌∷◌, map, Option, Some, None, true≢false, arith, refl, sym, ◌∙◌, subst}
use Rattle.std.specs.List.{AllByRecursion, list_any, sum_by}
use Rattle.std.proofs.lemmas.Bool.{eqb-true, false_from_ne_true}
use Rattle.std.proofs.lemmas.List.Sums.{sum_by-cons, sum_by-append}
use Rattle.ee_desk_model.specs.Lists.{Rising}
use Rattle.ee_desk_model.specs.declared.replies.Ticket.{Ticket}
use Rattle.ee_desk_model.specs.declared.replies.Batch.{Batch}
use Rattle.ee_desk_model.specs.PlainBooks.{PlainBooks, of_day, batch_of, total_of, cents_of}
use Rattle.ee_desk_model.specs.Paid.{paid_lines}
use Rattle.ee_desk_model.specs.Sound.{IsSound, IsRightTicket, days, open_days, day_of_batch}
use Rattle.ee_desk_model.specs.Conserved.{IsConserved, batch_total, open_total}

-- what the tickets of a day weigh
abbrev pub day_sum : (Ticket → ℕ) → List Ticket → ℕ → ℕ
day_sum weight tickets d = sum_by weight (of_day d tickets)

abbrev pub day_total : List Ticket → ℕ → ℕ
day_total tickets d = day_sum total_of tickets d

abbrev times : ℕ → ℕ → ℕ → ℕ
times t d x = cond (eqb t d) x 0

none_later : (t x : ℕ) (ds : List ℕ) → AllByRecursion (λ y. t < y) ds → sum_by (λ d. times t d x) ds ≡ 0
none_later t x [] h = refl
none_later t x (d ∷ ds) h = sum_by-cons (λ d. times t d x) d ds ∙ (λ i. cond (other i) x 0 + none_later t x ds h.1 i)
  where
    other : eqb t d ≡ false
    other = false_from_ne_true (eqb t d) (λ e. let s = eqb-true t d e in absurd (omega (arith, s, h.0)))

-- a day that stands in days that rise stands there once
once_there : (t x : ℕ) (ds : List ℕ) → Rising ds → list_any (eqb t) ds ≡ true → sum_by (λ d. times t d x) ds ≡ x
once_there t x [] h e = absurd (true≢false (sym e))
once_there t x (d ∷ ds) h e = sum_by-cons (λ d. times t d x) d ds ∙ by_case (once_there t x ds h.1) (eqb t d) refl e
  where
    by_case : (list_any (eqb t) ds ≡ true → sum_by (λ d. times t d x) ds ≡ x) → (b : Bool) → eqb t d ≡ b → (b || list_any (eqb t) ds) ≡ true → cond b x 0 + sum_by (λ d. times t d x) ds ≡ x
    by_case later true is e =
        let zero = none_later t x ds (subst (λ k. AllByRecursion (λ y. k < y) ds) (sym (eqb-true t d is)) h.0) in omega (arith, zero)
    by_case later false is e = let r = later e in omega (arith, r)

module _ (weight : Ticket → ℕ) where
  day_more : (t : Ticket) (tickets : List Ticket) (d : ℕ) → day_sum weight (t ∷ tickets) d ≡ times t.day d (weight t) + day_sum weight tickets d
  day_more t tickets d = by_case (eqb t.day d)
    where
      by_case : (b : Bool) → sum_by weight (cond b (t ∷ of_day d tickets) (of_day d tickets)) ≡ cond b (weight t) 0 + day_sum weight tickets d
      by_case true = sum_by-cons weight t (of_day d tickets)
      by_case false = omega arith

  days_more : (t : Ticket) (tickets : List Ticket) (ds : List ℕ) → sum_by (day_sum weight (t ∷ tickets)) ds ≡ sum_by (λ d. times t.day d (weight t)) ds + sum_by (day_sum weight tickets) ds
  days_more t tickets [] = refl
  days_more t tickets (d ∷ ds) =
      let a = sum_by-cons (day_sum weight (t ∷ tickets)) d ds in
      let b = sum_by-cons (λ d. times t.day d (weight t)) d ds in
      let c = sum_by-cons (day_sum weight tickets) d ds in
      let m = day_more t tickets d in
      let r = days_more t tickets ds in
      a ∙ (λ i. m i + r i) ∙ omega (arith, b, c)

  empty_days : (ds : List ℕ) → sum_by (day_sum weight []) ds ≡ 0
  empty_days [] = refl
  empty_days (d ∷ ds) = empty_days ds

  -- over days that rise and have each ticket's day
  pub spread : (ds : List ℕ) (tickets : List Ticket) → Rising ds → AllByRecursion (λ t. list_any (λ d. eqb t.day d) ds ≡ true) tickets
      → sum_by (day_sum weight tickets) ds ≡ sum_by weight tickets
  spread ds [] rising dated = empty_days ds
  spread ds (t ∷ tickets) rising dated =
      let here = once_there t.day (weight t) ds rising dated.0 in
      let rest = spread ds tickets rising dated.1 in
      days_more t tickets ds ∙ (λ i. here i + rest i) ∙ sym (sum_by-cons weight t tickets)

lines_total : (books : PlainBooks) (tickets : List Ticket) → AllByRecursion (IsRightTicket books.rates books.bonds) tickets → sum_by total_of tickets ≡ sum_by cents_of (paid_lines tickets)
lines_total books [] h = refl
lines_total books (t ∷ tickets) h =
    sum_by-cons total_of t tickets ∙ (λ i. h.0.total i + lines_total books tickets h.1 i) ∙ sym (sum_by-append cents_of t.lines (paid_lines tickets))

closed_total : (tickets : List Ticket) (batches : List Batch) → AllByRecursion (λ b. b ≡ batch_of b.day tickets) batches → sum_by batch_total batches ≡ sum_by (day_total tickets) (map day_of_batch batches)
closed_total tickets [] h = refl
closed_total tickets (b ∷ batches) h =
    sum_by-cons batch_total b batches ∙ (λ i. (h.0 i).total.0 + closed_total tickets batches h.1 i) ∙ sym (sum_by-cons (day_total tickets) b.day (map day_of_batch batches))

opened_total : (tickets : List Ticket) (day : Option ℕ) → open_total day tickets ≡ sum_by (day_total tickets) (open_days day)
opened_total tickets None = refl
opened_total tickets (Some day) = omega arith

pub conserved : (books : PlainBooks) → IsSound books → IsConserved books
conserved books sound =
    (λ i. closed_total books.tickets books.batches sound.batches i + opened_total books.tickets books.day i)
    ∙ sym (sum_by-append (day_total books.tickets) (map day_of_batch books.batches) (open_days books.day))
    ∙ spread total_of (days books) books.tickets sound.rising sound.dated
    ∙ lines_total books books.tickets sound.tickets
