-- One teller's requests among others, and alone.
use Rattle.std.proofs.Common.{◌≡◌, ◌==◌, ℕ, suc, ◌+◌, ◌<◌, ◌≤◌, Bool, true, false, cond, not, ◌||◌, nat_lt, nat_le, List, [], ◌∷◌, ◌++◌, map, length, drop, find, Option, Some, None, true≢false, arith, refl, sym, ap, ◌∙◌, append_assoc, append-nil, length-append}
use Rattle.std.specs.Option.{is_some, option_map, option_or, option_map_or}
use Rattle.std.specs.List.{AllByRecursion, filter, list_any, count_by, sum_by}
use Rattle.std.specs.FinMap as finite
use Rattle.std.specs.FinMap.{FinMap}
use Rattle.std.proofs.lemmas.Bool.{eqb-true, lt-ltb, lt-leb}
use Rattle.std.proofs.lemmas.List.{length-map, drop_at, map-append}
use Rattle.std.proofs.lemmas.List.Sums.{length-filter, count_by-le-length, sum_by-append}
use Rattle.std.proofs.lemmas.List.Elements.{filter-append}
use Rattle.std.proofs.lemmas.List.Folds.{find-append}
use Rattle.ee_units.specs.Spelling.{SerialNumber}
use Rattle.ee_desk_model.specs.declared.acts.Act.{Act}
use Rattle.ee_desk_model.specs.declared.acts.Act.TheVariants.{AddRates, AddBonds, OpenDay, Redeem, CloseDay}
use Rattle.ee_calculator.specs.declared.bonds.Bond.{Bond}
use Rattle.ee_desk_model.specs.declared.replies.Line.{Line}
use Rattle.ee_desk_model.specs.declared.changes.Kept.{Kept}
use Rattle.ee_desk_model.specs.declared.replies.Ticket.{Ticket}
use Rattle.ee_desk_model.specs.declared.refusals.Refusal.{Refusal}
use Rattle.ee_desk_model.specs.declared.refusals.Refusal.TheVariants.{AlreadyPaid, NumberReused, DayIsOther, DayFull}
use Rattle.ee_desk_model.specs.declared.replies.Reply.{Reply}
use Rattle.ee_desk_model.specs.declared.replies.Reply.TheVariants.{Refused}
use Rattle.ee_desk_model.specs.declared.replies.Reply.TheVariants as reply
use Rattle.ee_desk_model.specs.declared.acts.Request.{Request}
use Rattle.ee_desk_model.specs.Serials.{same_serial}
use Rattle.ee_units.specs.Calendar.{month_of_day}
use Rattle.ee_desk_model.specs.PlainBooks.{PlainBooks, names, ticket_of, batch_so_far, cents_of}
use Rattle.ee_desk_model.specs.Seen.{shown, held_as, ticket_for, worth, line_for, value_in}
use Rattle.ee_desk_model.specs.declared.changes.Held.{Held}
use Rattle.ee_desk_model.specs.Refusals.{first, first_of, when, repeated, refusal_of_day, refusal_of_held, refusal_of_serial, refusal_of, refusal_of_length, most_serials, most_tickets}
use Rattle.ee_desk_model.specs.Acts.{same_act, unless_refused}
use Rattle.ee_desk_model.specs.Outcomes.{Outcome}
use Rattle.ee_desk_model.specs.Effects as effects
use Rattle.ee_desk_model.specs.Numbers.{RequestKey, number_cmp, same_number, number_of, numbered}
use Rattle.ee_desk_model.proofs.Lemmas.Maps.{same_number-is, same_serial-is, all_append}
use Rattle.ee_desk_laws.specs.Events.{one}
use Rattle.ee_desk_model.proofs.Lemmas.Requests.{content_after-known, content_after-new, get_kept-insert, content_after-first, content_after-append, answer_after}
use Rattle.ee_desk_model.specs.Repeats.{Content}
use Rattle.ee_desk_model.specs.Contents.{content_after, books_after}
use Rattle.ee_desk_model.specs.Answers.{answer, answer_for, reply_again}
use Rattle.ee_desk_laws.specs.Tellers.{Asked, requests, asked_by, IsRedeem, open_tickets, told, for_teller, old_number, unnumbered_refusal, unnumbered}
use Rattle.ee_desk_model.specs.Views.{serials_of}
use Rattle.ee_desk_laws.proofs.Lists.{map_map, or_alike}

-- a ticket without its number
abbrev pub blank : Ticket → Ticket
blank t = record t { ticket = 0 }

abbrev nought : Ticket → ℕ
nought t = 0

module _ (old : ℕ) where
  refused_alike : (s : SerialNumber) (o : Option ℕ) → option_map (unnumbered_refusal old) (option_map (AlreadyPaid s) o) ≡ option_map (AlreadyPaid s) (option_map (old_number old) o)
  refused_alike s None = refl
  refused_alike s (Some n) = refl

  bond_alike : (month payee : ℕ) (s : SerialNumber) (b : Option Bond) (xs ys : List Ticket) → option_map (old_number old) (ticket_of xs s) ≡ option_map (old_number old) (ticket_of ys s)
      → option_map (unnumbered_refusal old) (refusal_of_held month payee s (option_map (held_as xs s) b)) ≡ option_map (unnumbered_refusal old) (refusal_of_held month payee s (option_map (held_as ys s) b))
  bond_alike month payee s None xs ys e = refl
  bond_alike month payee s (Some bond) xs ys e =
      or_alike (unnumbered_refusal old) _ _ _ _ refl
      (or_alike (unnumbered_refusal old) (option_map (AlreadyPaid s) (ticket_of xs s)) (option_map (AlreadyPaid s) (ticket_of ys s)) _ _
      (refused_alike s (ticket_of xs s) ∙ ap (option_map (AlreadyPaid s)) e ∙ sym (refused_alike s (ticket_of ys s))) refl)

  first_alike : (f g : SerialNumber → Option Refusal) (ss : List SerialNumber) → AllByRecursion (λ s. option_map (unnumbered_refusal old) (f s) ≡ option_map (unnumbered_refusal old) (g s)) ss
      → option_map (unnumbered_refusal old) (first_of f ss) ≡ option_map (unnumbered_refusal old) (first_of g ss)
  first_alike f g [] h = refl
  first_alike f g (s ∷ ss) h = or_alike (unnumbered_refusal old) (f s) (g s) (first_of f ss) (first_of g ss) h.0 (first_alike f g ss h.1)

  -- the tests from the day on
  abbrev day_tests : Option ℕ → ℕ → Bool → Option Refusal → Option Refusal
  day_tests opened day full rest = option_or (refusal_of_day opened day) (option_or (when full DayFull) (option_or rest None))

  days_alike : (opened : Option ℕ) (day : ℕ) (full_m full_t : Bool) (m t : Option Refusal)
      → (opened ≡ Some day → full_m ≡ false) → (opened ≡ Some day → full_t ≡ false)
      → option_map (unnumbered_refusal old) m ≡ option_map (unnumbered_refusal old) t
      → option_map (unnumbered_refusal old) (day_tests opened day full_m m) ≡ option_map (unnumbered_refusal old) (day_tests opened day full_t t)
  days_alike None day full_m full_t m t room_m room_t e = refl
  days_alike (Some x) day full_m full_t m t room_m room_t e = by_case (x == day) refl
    where
      by_case : (b : Bool) → (x == day) ≡ b → option_map (unnumbered_refusal old) (option_or (when (not b) DayIsOther) (option_or (when full_m DayFull) (option_or m None)))
          ≡ option_map (unnumbered_refusal old) (option_or (when (not b) DayIsOther) (option_or (when full_t DayFull) (option_or t None)))
      by_case false other = refl
      by_case true same =
          let is : Some x ≡ Some day = ap Some (eqb-true x day same) in
          ap (λ f. option_map (unnumbered_refusal old) (option_or (when f DayFull) (option_or m None))) (room_m is)
          ∙ or_alike (unnumbered_refusal old) m t None None e refl
          ∙ sym (ap (λ f. option_map (unnumbered_refusal old) (option_or (when f DayFull) (option_or t None))) (room_t is))

module _ (S : Content) (mine : SerialNumber → Bool) (own : RequestKey → Bool) where
  abbrev pub before : ℕ
  before = length S.books.tickets

  abbrev pub books_with : List Ticket → PlainBooks
  books_with new = record S.books { tickets = S.books.tickets ++ new }

  abbrev pub with : List Ticket → FinMap number_cmp Kept → Content
  with new kept = record { books = books_with new; kept = kept }

  -- whether a ticket pays one of the teller's serials
  abbrev pub pays : Ticket → Bool
  pays t = list_any (λ line. mine line.serial) t.lines

  abbrev pub hidden : Kept → Kept
  hidden k = record { act = k.act; reply = unnumbered before k.reply }

  abbrev pub Above : Ticket → Type 0
  Above t = nat_lt before t.ticket ≡ true

  -- a merge's new tickets and kept replies, and those of the teller alone
  pub record Alike (new_m new_t : List Ticket) (kept_m kept_t : FinMap number_cmp Kept) : Type 0 where
    pub same : map blank (filter pays new_m) ≡ map blank new_t
    pub above_m : AllByRecursion Above new_m
    pub above_t : AllByRecursion Above new_t
    pub kept : (n : RequestKey) → own n ≡ true → option_map hidden (finite.get kept_m n) ≡ option_map hidden (finite.get kept_t n)

  names_mine : (s : SerialNumber) (lines : List Line) → mine s ≡ true → list_any (λ l. same_serial s l.serial) lines ≡ true → list_any (λ l. mine l.serial) lines ≡ true
  names_mine s [] m h = h
  names_mine s (l ∷ lines) m h = by_case (same_serial s l.serial) refl h (names_mine s lines m)
    where
      or_true : (b : Bool) → (b || true) ≡ true
      or_true true = refl
      or_true false = refl

      by_case : (b : Bool) → same_serial s l.serial ≡ b → (b || list_any (λ x. same_serial s x.serial) lines) ≡ true
          → (list_any (λ x. same_serial s x.serial) lines ≡ true → list_any (λ x. mine x.serial) lines ≡ true) → (mine l.serial || list_any (λ x. mine x.serial) lines) ≡ true
      by_case true is h rest = ap (λ b. b || list_any (λ x. mine x.serial) lines) (sym (ap mine (same_serial-is s l.serial is)) ∙ m)
      by_case false is h rest = ap (λ b. mine l.serial || b) (rest h) ∙ or_true (mine l.serial)

  found_mine : (s : SerialNumber) (xs : List Ticket) → mine s ≡ true → find (names s) xs ≡ find (names s) (filter pays xs)
  found_mine s [] m = refl
  found_mine s (x ∷ xs) m = by_case (names s x) (pays x) refl refl (found_mine s xs m)
    where
      by_case : (b c : Bool) → names s x ≡ b → pays x ≡ c → find (names s) xs ≡ find (names s) (filter pays xs)
          → cond b (Some x) (find (names s) xs) ≡ find (names s) (cond c (x ∷ filter pays xs) (filter pays xs))
      by_case true true n p h = sym (ap (λ b. cond b (Some x) (find (names s) (filter pays xs))) n)
      by_case true false n p h = absurd (true≢false (sym (names_mine s x.lines m n) ∙ p))
      by_case false true n p h = h ∙ sym (ap (λ b. cond b (Some x) (find (names s) (filter pays xs))) n)
      by_case false false n p h = h

  found_above : (s : SerialNumber) (xs : List Ticket) → AllByRecursion Above xs → option_map (λ t. old_number before t.ticket) (find (names s) xs) ≡ option_map nought (find (names s) xs)
  found_above s [] h = refl
  found_above s (x ∷ xs) h = by_case (names s x) (found_above s xs h.1)
    where
      by_case : (b : Bool) → option_map (λ t. old_number before t.ticket) (find (names s) xs) ≡ option_map nought (find (names s) xs)
          → option_map (λ t. old_number before t.ticket) (cond b (Some x) (find (names s) xs)) ≡ option_map nought (cond b (Some x) (find (names s) xs))
      by_case true e = ap (λ b. Some (cond b 0 x.ticket)) h.0
      by_case false e = e

  found_blank : (s : SerialNumber) (xs : List Ticket) → option_map nought (find (names s) xs) ≡ option_map nought (find (names s) (map blank xs))
  found_blank s [] = refl
  found_blank s (x ∷ xs) = by_case (names s x) (found_blank s xs)
    where
      by_case : (b : Bool) → option_map nought (find (names s) xs) ≡ option_map nought (find (names s) (map blank xs))
          → option_map nought (cond b (Some x) (find (names s) xs)) ≡ option_map nought (cond b (Some (blank x)) (find (names s) (map blank xs)))
      by_case true h = refl
      by_case false h = h

  -- the ticket of one of the teller's serials
  same_ticket : (new_m new_t : List Ticket) (kept_m kept_t : FinMap number_cmp Kept) → Alike new_m new_t kept_m kept_t → (s : SerialNumber) → mine s ≡ true
      → option_map (old_number before) (ticket_of (S.books.tickets ++ new_m) s) ≡ option_map (old_number before) (ticket_of (S.books.tickets ++ new_t) s)
  same_ticket new_m new_t kept_m kept_t a s m =
      map_map (old_number before) (λ t. t.ticket) (find (names s) (S.books.tickets ++ new_m))
      ∙ ap (option_map (λ t. old_number before t.ticket)) (find-append (names s) S.books.tickets new_m)
      ∙ or_alike (λ t. old_number before t.ticket) (find (names s) S.books.tickets) (find (names s) S.books.tickets) (find (names s) new_m) (find (names s) new_t) refl
      (found_above s new_m a.above_m ∙ ap (option_map nought) (found_mine s new_m m) ∙ found_blank s (filter pays new_m)
      ∙ ap (λ l. option_map nought (find (names s) l)) a.same ∙ sym (found_blank s new_t) ∙ sym (found_above s new_t a.above_t))
      ∙ sym (ap (option_map (λ t. old_number before t.ticket)) (find-append (names s) S.books.tickets new_t))
      ∙ sym (map_map (old_number before) (λ t. t.ticket) (find (names s) (S.books.tickets ++ new_t)))

  -- what a ticket's request is refused for
  abbrev refusal : List Ticket → ℕ → ℕ → List SerialNumber → Option Refusal
  refusal new day payee serials = refusal_of (shown (books_with new)) (Redeem day payee serials)

  abbrev on_day : Option ℕ → List Ticket → ℕ
  on_day day tickets = (batch_so_far day tickets).tickets

  abbrev is_full : List Ticket → ℕ → Bool
  is_full new day = nat_le most_tickets (on_day S.books.day (S.books.tickets ++ new))

  serials_alike : (new_m new_t : List Ticket) (kept_m kept_t : FinMap number_cmp Kept) → Alike new_m new_t kept_m kept_t → (month payee : ℕ) (ss : List SerialNumber) → AllByRecursion (λ s. mine s ≡ true) ss
      → AllByRecursion (λ s. option_map (unnumbered_refusal before) (refusal_of_serial (shown (books_with new_m)) month payee s)
      ≡ option_map (unnumbered_refusal before) (refusal_of_serial (shown (books_with new_t)) month payee s)) ss
  serials_alike new_m new_t kept_m kept_t a month payee [] h = tt
  serials_alike new_m new_t kept_m kept_t a month payee (s ∷ ss) h =
      (bond_alike before month payee s (finite.get S.books.bonds s) (S.books.tickets ++ new_m) (S.books.tickets ++ new_t) (same_ticket new_m new_t kept_m kept_t a s h.0), serials_alike new_m new_t kept_m kept_t a month payee ss h.1)

  refusals_alike : (new_m new_t : List Ticket) (kept_m kept_t : FinMap number_cmp Kept) → Alike new_m new_t kept_m kept_t → (day payee : ℕ) (ss : List SerialNumber) → AllByRecursion (λ s. mine s ≡ true) ss
      → (S.books.day ≡ Some day → is_full new_m day ≡ false) → (S.books.day ≡ Some day → is_full new_t day ≡ false)
      → option_map (unnumbered_refusal before) (refusal new_m day payee ss) ≡ option_map (unnumbered_refusal before) (refusal new_t day payee ss)
  refusals_alike new_m new_t kept_m kept_t a day payee ss h room_m room_t =
      let u = unnumbered_refusal before in
      or_alike u (refusal_of_length most_serials (length ss)) _ _ _ refl
      (or_alike u (repeated [] ss) _ _ _ refl
      (days_alike before S.books.day day (is_full new_m day) (is_full new_t day) _ _ room_m room_t
      (first_alike before _ _ ss (serials_alike new_m new_t kept_m kept_t a (month_of_day day) payee ss h))))

  abbrev pub ticket_of_request : List Ticket → ℕ → ℕ → List SerialNumber → Ticket
  ticket_of_request new day payee ss = ticket_for (shown (books_with new)) day payee ss

  abbrev added : List Ticket → ℕ → ℕ → List SerialNumber → Option Refusal → List Ticket
  added new day payee ss None = new ++ ticket_of_request new day payee ss ∷ []
  added new day payee ss (Some r) = new

  abbrev said : List Ticket → ℕ → ℕ → List SerialNumber → Option Refusal → Reply
  said new day payee ss None = reply.Ticket (ticket_of_request new day payee ss)
  said new day payee ss (Some r) = Refused r

  abbrev Outcome_by : List Ticket → ℕ → ℕ → List SerialNumber → Option Refusal → Outcome
  Outcome_by new day payee ss o = record { books = unless_refused (books_with new) (Redeem day payee ss) o; reply = (effects.unless_refused (shown (books_with new)) (Redeem day payee ss) o).reply }

  act_by : (new : List Ticket) (day payee : ℕ) (ss : List SerialNumber) (o : Option Refusal)
      → Outcome_by new day payee ss o ≡ record { books = books_with (added new day payee ss o); reply = said new day payee ss o }
  act_by new day payee ss None =
      λ i. record { books = record S.books { tickets = append_assoc S.books.tickets new (ticket_of_request new day payee ss ∷ []) i }; reply = reply.Ticket (ticket_of_request new day payee ss) }
  act_by new day payee ss (Some r) = refl

  is_above : (new : List Ticket) (day payee : ℕ) (ss : List SerialNumber) → Above (ticket_of_request new day payee ss)
  is_above new day payee ss = lt-ltb before (suc (length (S.books.tickets ++ new))) (omega (arith, length-append S.books.tickets new))

  above_more : (new : List Ticket) (day payee : ℕ) (ss : List SerialNumber) (o : Option Refusal) → AllByRecursion Above new → AllByRecursion Above (added new day payee ss o)
  above_more new day payee ss None h = all_append Above new (ticket_of_request new day payee ss ∷ []) h (is_above new day payee ss, tt)
  above_more new day payee ss (Some r) h = h

  worth_is : (f : Bond → ℕ) (xs : List Ticket) (s : SerialNumber) (o : Option Bond) → option_map_or (λ (h : Held). f h.bond) (option_map (held_as xs s) o) 0 ≡ option_map_or f o 0
  worth_is f xs s None = refl
  worth_is f xs s (Some b) = refl

  worth_same : (new_m new_t : List Ticket) (month : ℕ) (s : SerialNumber) → worth (shown (books_with new_m)) month s ≡ worth (shown (books_with new_t)) month s
  worth_same new_m new_t month s =
      worth_is (value_in (shown S.books) month) (S.books.tickets ++ new_m) s (finite.get S.books.bonds s)
      ∙ sym (worth_is (value_in (shown S.books) month) (S.books.tickets ++ new_t) s (finite.get S.books.bonds s))

  lines_same : (new_m new_t : List Ticket) (month : ℕ) (ss : List SerialNumber) → map (line_for (shown (books_with new_m)) month) ss ≡ map (line_for (shown (books_with new_t)) month) ss
  lines_same new_m new_t month [] = refl
  lines_same new_m new_t month (s ∷ ss) = λ i. record { serial = s; cents = record { 0 = worth_same new_m new_t month s i } } ∷ lines_same new_m new_t month ss i

  blank_same : (new_m new_t : List Ticket) (day payee : ℕ) (ss : List SerialNumber) → blank (ticket_of_request new_m day payee ss) ≡ blank (ticket_of_request new_t day payee ss)
  blank_same new_m new_t day payee ss =
      ap (λ (l : List Line). record { ticket = 0; day = day; payee = payee; lines = l; total = record { 0 = sum_by cents_of l } }) (lines_same new_m new_t (month_of_day day) ss)

  -- one request of the teller's: the same reply, and the same ticket
  said_alike : (new_m new_t : List Ticket) (day payee : ℕ) (ss : List SerialNumber) (o p : Option Refusal) → option_map (unnumbered_refusal before) o ≡ option_map (unnumbered_refusal before) p
      → unnumbered before (said new_m day payee ss o) ≡ unnumbered before (said new_t day payee ss p)
  said_alike new_m new_t day payee ss None None e =
      ap (λ (t : Ticket). reply.Ticket t)
      ((λ i. record (ticket_of_request new_m day payee ss) { ticket = ap (λ b. cond b 0 (suc (length (S.books.tickets ++ new_m)))) (is_above new_m day payee ss) i })
      ∙ blank_same new_m new_t day payee ss
      ∙ sym (λ i. record (ticket_of_request new_t day payee ss) { ticket = ap (λ b. cond b 0 (suc (length (S.books.tickets ++ new_t)))) (is_above new_t day payee ss) i }))
  said_alike new_m new_t day payee ss None (Some r) e = absurd (cc)
  said_alike new_m new_t day payee ss (Some r) None e = absurd (cc)
  said_alike new_m new_t day payee ss (Some r) (Some q) e = cc

  abbrev any_mine : List Line → Bool
  any_mine lines = list_any (λ l. mine l.serial) lines

  abbrev line_of : (SerialNumber → ℕ) → SerialNumber → Line
  line_of cents s = record { serial = s; cents = record { 0 = cents s } }

  none_paid : (cents : SerialNumber → ℕ) (ss : List SerialNumber) → AllByRecursion (λ s. mine s ≡ false) ss → any_mine (map (line_of cents) ss) ≡ false
  none_paid cents [] h = refl
  none_paid cents (s ∷ ss) h = ap (λ b. b || any_mine (map (line_of cents) ss)) h.0 ∙ none_paid cents ss h.1

  pays_none : (new : List Ticket) (day payee : ℕ) (ss : List SerialNumber) → AllByRecursion (λ s. mine s ≡ false) ss → pays (ticket_of_request new day payee ss) ≡ false
  pays_none new day payee ss h = none_paid (worth (shown (books_with new)) (month_of_day day)) ss h

  pub pays_own : (new : List Ticket) (day payee : ℕ) (ss : List SerialNumber) → AllByRecursion (λ s. mine s ≡ true) ss → refusal new day payee ss ≡ None → pays (ticket_of_request new day payee ss) ≡ true
  pays_own new day payee [] h none = absurd (cc)
  pays_own new day payee (s ∷ ss) h none = ap (λ b. b || any_mine (map (line_of (worth (shown (books_with new)) (month_of_day day))) ss)) h.0

  same_more : (new_m new_t : List Ticket) (day payee : ℕ) (ss : List SerialNumber) (o p : Option Refusal) → option_map (unnumbered_refusal before) o ≡ option_map (unnumbered_refusal before) p
      → (o ≡ None → pays (ticket_of_request new_m day payee ss) ≡ true)
      → map blank (filter pays new_m) ≡ map blank new_t → map blank (filter pays (added new_m day payee ss o)) ≡ map blank (added new_t day payee ss p)
  same_more new_m new_t day payee ss None None e own_ticket h =
      let t = ticket_of_request new_m day payee ss in
      ap (map blank) (filter-append pays new_m (t ∷ []) ∙ ap (λ b. filter pays new_m ++ cond b (t ∷ []) []) (own_ticket refl))
      ∙ map-append blank (filter pays new_m) (t ∷ []) ∙ (λ i. h i ++ blank_same new_m new_t day payee ss i ∷ []) ∙ sym (map-append blank new_t (ticket_of_request new_t day payee ss ∷ []))
  same_more new_m new_t day payee ss None (Some r) e own_ticket h = absurd (cc)
  same_more new_m new_t day payee ss (Some r) None e own_ticket h = absurd (cc)
  same_more new_m new_t day payee ss (Some r) (Some q) e own_ticket h = h

  same_passed : (new : List Ticket) (day payee : ℕ) (ss : List SerialNumber) (o : Option Refusal) → AllByRecursion (λ s. mine s ≡ false) ss → filter pays (added new day payee ss o) ≡ filter pays new
  same_passed new day payee ss None h =
      let t = ticket_of_request new day payee ss in
      filter-append pays new (t ∷ []) ∙ ap (λ b. filter pays new ++ cond b (t ∷ []) []) (pays_none new day payee ss h) ∙ append-nil (filter pays new)
  same_passed new day payee ss (Some r) h = refl

  grows : (new : List Ticket) (day payee : ℕ) (ss : List SerialNumber) (o : Option Refusal) → length (added new day payee ss o) ≤ length new + 1
  grows new day payee ss None = omega (arith, length-append new (ticket_of_request new day payee ss ∷ []))
  grows new day payee ss (Some r) = omega arith

  abbrev from_some : Kept → Option Kept → Kept
  from_some d None = d
  from_some d (Some k) = k

  again_alike : (first : Act) (r : Reply) (again : Act) → unnumbered before (reply_again first r again) ≡ reply_again first (unnumbered before r) again
  again_alike first r again = by_case (same_act first again)
    where
      by_case : (b : Bool) → unnumbered before (cond b r (Refused NumberReused)) ≡ cond b (unnumbered before r) (Refused NumberReused)
      by_case true = refl
      by_case false = refl

  -- a teller's request, in a merge and alone
  record Stepped (q : Request) (new_m new_t : List Ticket) (kept_m kept_t : FinMap number_cmp Kept) : Type 0 where
    tickets_m : List Ticket
    tickets_t : List Ticket
    replies_m : FinMap number_cmp Kept
    replies_t : FinMap number_cmp Kept
    m : one (with new_m kept_m) q ≡ with tickets_m replies_m
    t : one (with new_t kept_t) q ≡ with tickets_t replies_t
    alike : Alike tickets_m tickets_t replies_m replies_t
    reply : unnumbered before (answer (with new_m kept_m) [] q) ≡ unnumbered before (answer (with new_t kept_t) [] q)
    grown : length tickets_m ≤ length new_m + 1

  -- another teller's request
  record Passed (q : Request) (new_m new_t : List Ticket) (kept_m kept_t : FinMap number_cmp Kept) : Type 0 where
    tickets_m : List Ticket
    replies_m : FinMap number_cmp Kept
    m : one (with new_m kept_m) q ≡ with tickets_m replies_m
    alike : Alike tickets_m new_t replies_m kept_t
    grown : length tickets_m ≤ length new_m + 1

  -- what a request leaves where its number wasn't kept
  abbrev asked_new : RequestKey → ℕ → ℕ → List SerialNumber → Request
  asked_new n day payee ss = numbered n (Redeem day payee ss)

  abbrev entry : List Ticket → ℕ → ℕ → List SerialNumber → Kept
  entry new day payee ss = record { act = Redeem day payee ss; reply = said new day payee ss (refusal new day payee ss) }

  new_step : (new : List Ticket) (kept : FinMap number_cmp Kept) (n : RequestKey) (day payee : ℕ) (ss : List SerialNumber) → finite.get kept n ≡ None
      → one (with new kept) (asked_new n day payee ss) ≡ with (added new day payee ss (refusal new day payee ss)) (finite.insert kept n (entry new day payee ss))
  new_step new kept n day payee ss none =
      let e = act_by new day payee ss (refusal new day payee ss) in
      content_after-new (with new kept) (asked_new n day payee ss) (ap is_some none)
      ∙ (λ i. record { books = (e i).books; kept = finite.insert kept n (record { act = Redeem day payee ss; reply = (e i).reply }) })

  new_reply : (new : List Ticket) (kept : FinMap number_cmp Kept) (n : RequestKey) (day payee : ℕ) (ss : List SerialNumber) → finite.get kept n ≡ None
      → answer (with new kept) [] (asked_new n day payee ss) ≡ said new day payee ss (refusal new day payee ss)
  new_reply new kept n day payee ss none =
      ap (answer_for (with new kept) [] (asked_new n day payee ss)) none ∙ ap (λ (o : Outcome). o.reply) (act_by new day payee ss (refusal new day payee ss))

  kept_more : (kept_m kept_t : FinMap number_cmp Kept) (n k : RequestKey) (x y : Kept) → hidden x ≡ hidden y → option_map hidden (finite.get kept_m k) ≡ option_map hidden (finite.get kept_t k)
      → option_map hidden (finite.get (finite.insert kept_m n x) k) ≡ option_map hidden (finite.get (finite.insert kept_t n y) k)
  kept_more kept_m kept_t n k x y e h =
      ap (option_map hidden) (get_kept-insert kept_m n x k) ∙ by_case (same_number k n) ∙ sym (ap (option_map hidden) (get_kept-insert kept_t n y k))
    where
      by_case : (b : Bool) → option_map hidden (cond b (Some x) (finite.get kept_m k)) ≡ option_map hidden (cond b (Some y) (finite.get kept_t k))
      by_case true = ap Some e
      by_case false = h

  kept_passed : (kept_m kept_t : FinMap number_cmp Kept) (n k : RequestKey) (x : Kept) → own k ≡ true → own n ≡ false → option_map hidden (finite.get kept_m k) ≡ option_map hidden (finite.get kept_t k)
      → option_map hidden (finite.get (finite.insert kept_m n x) k) ≡ option_map hidden (finite.get kept_t k)
  kept_passed kept_m kept_t n k x mine_k not_n h = ap (option_map hidden) (get_kept-insert kept_m n x k) ∙ by_case (same_number k n) refl
    where
      by_case : (b : Bool) → same_number k n ≡ b → option_map hidden (cond b (Some x) (finite.get kept_m k)) ≡ option_map hidden (finite.get kept_t k)
      by_case true is = absurd (true≢false (sym mine_k ∙ ap own (same_number-is k n is) ∙ not_n))
      by_case false is = h

  own_step : (n : RequestKey) (a : Act) → IsRedeem a → own n ≡ true → AllByRecursion (λ s. mine s ≡ true) (serials_of a)
      → (new_m new_t : List Ticket) (kept_m kept_t : FinMap number_cmp Kept) → Alike new_m new_t kept_m kept_t
      → ((day : ℕ) → S.books.day ≡ Some day → is_full new_m day ≡ false) → ((day : ℕ) → S.books.day ≡ Some day → is_full new_t day ≡ false)
      → Stepped (numbered n (a)) new_m new_t kept_m kept_t
  own_step n (AddRates rows) is o h new_m new_t kept_m kept_t a room_m room_t = absurd is
  own_step n (AddBonds bonds) is o h new_m new_t kept_m kept_t a room_m room_t = absurd is
  own_step n (OpenDay day) is o h new_m new_t kept_m kept_t a room_m room_t = absurd is
  own_step n (CloseDay day) is o h new_m new_t kept_m kept_t a room_m room_t = absurd is
  own_step n (Redeem day payee ss) is o h new_m new_t kept_m kept_t a room_m room_t = by_case (finite.get kept_m n) (finite.get kept_t n) refl refl (a.kept n o)
    where
      by_case : (x y : Option Kept) → finite.get kept_m n ≡ x → finite.get kept_t n ≡ y → option_map hidden x ≡ option_map hidden y → Stepped (asked_new n day payee ss) new_m new_t kept_m kept_t
      by_case None (Some k) e d same = absurd (cc)
      by_case (Some k) None e d same = absurd (cc)
      by_case (Some k) (Some j) e d same = record {
        tickets_m = new_m;
        tickets_t = new_t;
        replies_m = kept_m;
        replies_t = kept_t;
        m = content_after-known (with new_m kept_m) (asked_new n day payee ss) (ap is_some e);
        t = content_after-known (with new_t kept_t) (asked_new n day payee ss) (ap is_some d);
        alike = a;
        reply =
            ap (λ o. unnumbered before (answer_for (with new_m kept_m) [] (asked_new n day payee ss) o)) e
            ∙ again_alike k.act k.reply (Redeem day payee ss)
            ∙ ap (λ (x : Kept). reply_again x.act x.reply (Redeem day payee ss)) (ap (from_some (hidden k)) same)
            ∙ sym (again_alike j.act j.reply (Redeem day payee ss))
            ∙ sym (ap (λ o. unnumbered before (answer_for (with new_t kept_t) [] (asked_new n day payee ss) o)) d);
        grown = omega arith;
      }
      by_case None None e d same =
          let r = refusals_alike new_m new_t kept_m kept_t a day payee ss h (room_m day) (room_t day) in
          let reply = said_alike new_m new_t day payee ss (refusal new_m day payee ss) (refusal new_t day payee ss) r in
          record {
            tickets_m = added new_m day payee ss (refusal new_m day payee ss);
            tickets_t = added new_t day payee ss (refusal new_t day payee ss);
            replies_m = finite.insert kept_m n (entry new_m day payee ss);
            replies_t = finite.insert kept_t n (entry new_t day payee ss);
            m = new_step new_m kept_m n day payee ss e;
            t = new_step new_t kept_t n day payee ss d;
            alike = record {
              same = same_more new_m new_t day payee ss (refusal new_m day payee ss) (refusal new_t day payee ss) r (pays_own new_m day payee ss h) a.same;
              above_m = above_more new_m day payee ss (refusal new_m day payee ss) a.above_m;
              above_t = above_more new_t day payee ss (refusal new_t day payee ss) a.above_t;
              kept = λ k mine_k. kept_more kept_m kept_t n k (entry new_m day payee ss) (entry new_t day payee ss) (ap (λ r. record { act = Redeem day payee ss; reply = r }) reply) (a.kept k mine_k);
            };
            reply = ap (unnumbered before) (new_reply new_m kept_m n day payee ss e) ∙ reply ∙ sym (ap (unnumbered before) (new_reply new_t kept_t n day payee ss d));
            grown = grows new_m day payee ss (refusal new_m day payee ss);
          }

  other_step : (n : RequestKey) (a : Act) → IsRedeem a → own n ≡ false → AllByRecursion (λ s. mine s ≡ false) (serials_of a)
      → (new_m new_t : List Ticket) (kept_m kept_t : FinMap number_cmp Kept) → Alike new_m new_t kept_m kept_t → Passed (numbered n (a)) new_m new_t kept_m kept_t
  other_step n (AddRates rows) is o h new_m new_t kept_m kept_t a = absurd is
  other_step n (AddBonds bonds) is o h new_m new_t kept_m kept_t a = absurd is
  other_step n (OpenDay day) is o h new_m new_t kept_m kept_t a = absurd is
  other_step n (CloseDay day) is o h new_m new_t kept_m kept_t a = absurd is
  other_step n (Redeem day payee ss) is o h new_m new_t kept_m kept_t a = by_case (finite.get kept_m n) refl
    where
      by_case : (x : Option Kept) → finite.get kept_m n ≡ x → Passed (asked_new n day payee ss) new_m new_t kept_m kept_t
      by_case (Some k) e = record { tickets_m = new_m; replies_m = kept_m; m = content_after-known (with new_m kept_m) (asked_new n day payee ss) (ap is_some e); alike = a; grown = omega arith }
      by_case None e = record {
        tickets_m = added new_m day payee ss (refusal new_m day payee ss);
        replies_m = finite.insert kept_m n (entry new_m day payee ss);
        m = new_step new_m kept_m n day payee ss e;
        alike = record {
          same = ap (map blank) (same_passed new_m day payee ss (refusal new_m day payee ss) h) ∙ a.same;
          above_m = above_more new_m day payee ss (refusal new_m day payee ss) a.above_m;
          above_t = a.above_t;
          kept = λ k mine_k. kept_passed kept_m kept_t n k (entry new_m day payee ss) mine_k o (a.kept k mine_k);
        };
        grown = grows new_m day payee ss (refusal new_m day payee ss);
      }

  -- a request is the teller's, with its number and serials, or it is another's
  pub record Fits (is_own : Bool) (q : Request) : Type 0 where
    pub redeem : IsRedeem q.act
    pub number : own (number_of q) ≡ is_own
    pub serials : AllByRecursion (λ s. mine s ≡ is_own) (serials_of q.act)

  -- the count of tickets leaves room
  abbrev pub HasRoom : List Ticket → ℕ → Type 0
  HasRoom new left = length new + left + open_tickets S.books ≤ most_tickets

  not_full : (new : List Ticket) (left : ℕ) → HasRoom new left → 0 < left → (day : ℕ) → S.books.day ≡ Some day → is_full new day ≡ false
  not_full new left room more day is =
      let here : open_tickets S.books ≡ count_by (λ t. t.day == day) S.books.tickets =
      ap (λ o. on_day o S.books.tickets) is ∙ length-filter (λ t. t.day == day) S.books.tickets in
      let all : count_by (λ t. t.day == day) (S.books.tickets ++ new) ≡ count_by (λ t. t.day == day) S.books.tickets + count_by (λ t. t.day == day) new = sum_by-append (λ t. cond (t.day == day) 1 0) S.books.tickets new in
      let few : count_by (λ t. t.day == day) new ≤ length new = count_by-le-length (λ t. t.day == day) new in
      let own_day : on_day S.books.day (S.books.tickets ++ new) ≡ count_by (λ t. t.day == day) (S.books.tickets ++ new) =
      ap (λ o. on_day o (S.books.tickets ++ new)) is ∙ length-filter (λ t. t.day == day) (S.books.tickets ++ new) in
      lt-leb most_tickets (on_day S.books.day (S.books.tickets ++ new)) (omega arith)

  no_more_alone : (new_m new_t : List Ticket) (kept_m kept_t : FinMap number_cmp Kept) → Alike new_m new_t kept_m kept_t → length new_t ≤ length new_m
  no_more_alone new_m new_t kept_m kept_t a =
      let e : length new_t ≡ length (filter pays new_m) = sym (length-map new_t blank) ∙ sym (ap (λ (l : List Ticket). length l) a.same) ∙ length-map (filter pays new_m) blank in
      let f : length (filter pays new_m) ≡ count_by pays new_m = length-filter pays new_m in
      let g : count_by pays new_m ≤ length new_m = count_by-le-length pays new_m in
      omega arith

  abbrev pub told_at : Content → List Request → List Reply
  told_at C [] = []
  told_at C (q ∷ qs) = answer C [] q ∷ told_at (one C q) qs

  -- a merge and the teller alone, to their ends
  pub record Ran (teller : ℕ) (merge : List Asked) (new_m new_t : List Ticket) (kept_m kept_t : FinMap number_cmp Kept) : Type 0 where
    pub tickets_m : List Ticket
    pub tickets_t : List Ticket
    pub replies_m : FinMap number_cmp Kept
    pub replies_t : FinMap number_cmp Kept
    pub m : content_after (with new_m kept_m) (requests merge) ≡ with tickets_m replies_m
    pub t : content_after (with new_t kept_t) (asked_by teller merge) ≡ with tickets_t replies_t
    pub alike : Alike tickets_m tickets_t replies_m replies_t
    pub replies : map (unnumbered before) (for_teller teller merge (told_at (with new_m kept_m) (requests merge)))
        ≡ map (unnumbered before) (told_at (with new_t kept_t) (asked_by teller merge))

  go_on : (C D E : Content) (q : Request) (qs : List Request) → one C q ≡ D → content_after D qs ≡ E → content_after C (q ∷ qs) ≡ E
  go_on C D E q qs step rest = content_after-first C q qs ∙ ap (λ T. content_after T qs) step ∙ rest

  -- what a turn leaves to be shown, if the test of the teller is known
  abbrev own_list : Bool → Asked → ℕ → List Asked → List Request
  own_list b a teller merge = requests (cond b (a ∷ filter (λ x. x.teller == teller) merge) (filter (λ x. x.teller == teller) merge))

  abbrev own_replies : Bool → ℕ → Reply → List Asked → List Reply → List Reply
  own_replies b teller reply merge replies = cond b (reply ∷ for_teller teller merge replies) (for_teller teller merge replies)

  record Turned (b : Bool) (a : Asked) (teller : ℕ) (merge : List Asked) (new_m new_t : List Ticket) (kept_m kept_t : FinMap number_cmp Kept) : Type 0 where
    tickets_m : List Ticket
    tickets_t : List Ticket
    replies_m : FinMap number_cmp Kept
    replies_t : FinMap number_cmp Kept
    m : content_after (with new_m kept_m) (a.request ∷ requests merge) ≡ with tickets_m replies_m
    t : content_after (with new_t kept_t) (own_list b a teller merge) ≡ with tickets_t replies_t
    alike : Alike tickets_m tickets_t replies_m replies_t
    replies : map (unnumbered before) (own_replies b teller (answer (with new_m kept_m) [] a.request) merge (told_at (one (with new_m kept_m) a.request) (requests merge)))
        ≡ map (unnumbered before) (told_at (with new_t kept_t) (own_list b a teller merge))

  own_turn : (a : Asked) (teller : ℕ) (merge : List Asked) (new_m new_t : List Ticket) (kept_m kept_t : FinMap number_cmp Kept)
      → (s : Stepped a.request new_m new_t kept_m kept_t) → Ran teller merge s.tickets_m s.tickets_t s.replies_m s.replies_t
      → Turned true a teller merge new_m new_t kept_m kept_t
  own_turn a teller merge new_m new_t kept_m kept_t s r = record {
    tickets_m = r.tickets_m;
    tickets_t = r.tickets_t;
    replies_m = r.replies_m;
    replies_t = r.replies_t;
    m = go_on (with new_m kept_m) (with s.tickets_m s.replies_m) _ a.request (requests merge) s.m r.m;
    t = go_on (with new_t kept_t) (with s.tickets_t s.replies_t) _ a.request (asked_by teller merge) s.t r.t;
    alike = r.alike;
    replies =
        (λ i. s.reply i ∷ map (unnumbered before) (for_teller teller merge (told_at (s.m i) (requests merge))))
        ∙ ap (λ l. unnumbered before (answer (with new_t kept_t) [] a.request) ∷ l) r.replies
        ∙ sym (ap (λ T. unnumbered before (answer (with new_t kept_t) [] a.request) ∷ map (unnumbered before) (told_at T (asked_by teller merge))) s.t);
  }

  other_turn : (a : Asked) (teller : ℕ) (merge : List Asked) (new_m new_t : List Ticket) (kept_m kept_t : FinMap number_cmp Kept)
      → (s : Passed a.request new_m new_t kept_m kept_t) → Ran teller merge s.tickets_m new_t s.replies_m kept_t
      → Turned false a teller merge new_m new_t kept_m kept_t
  other_turn a teller merge new_m new_t kept_m kept_t s r = record {
    tickets_m = r.tickets_m;
    tickets_t = r.tickets_t;
    replies_m = r.replies_m;
    replies_t = r.replies_t;
    m = go_on (with new_m kept_m) (with s.tickets_m s.replies_m) _ a.request (requests merge) s.m r.m;
    t = r.t;
    alike = r.alike;
    replies = ap (λ T. map (unnumbered before) (for_teller teller merge (told_at T (requests merge)))) s.m ∙ r.replies;
  }

  -- a turn, by whose request it is
  turn : (b : Bool) (a : Asked) (teller : ℕ) (merge : List Asked) (new_m new_t : List Ticket) (kept_m kept_t : FinMap number_cmp Kept)
      → Fits b a.request → Alike new_m new_t kept_m kept_t → HasRoom new_m (length merge + 1)
      → ((tm tt' : List Ticket) (km kt : FinMap number_cmp Kept) → Alike tm tt' km kt → HasRoom tm (length merge) → Ran teller merge tm tt' km kt)
      → Turned b a teller merge new_m new_t kept_m kept_t
  turn true a teller merge new_m new_t kept_m kept_t f alike room rest =
      let fewer = no_more_alone new_m new_t kept_m kept_t alike in
      let s = own_step (number_of a.request) a.request.act f.redeem f.number f.serials new_m new_t kept_m kept_t alike
      (not_full new_m (length merge + 1) room (omega arith)) (not_full new_t (length merge + 1) (omega arith) (omega arith)) in
      own_turn a teller merge new_m new_t kept_m kept_t s (rest s.tickets_m s.tickets_t s.replies_m s.replies_t s.alike (omega (arith, s.grown)))
  turn false a teller merge new_m new_t kept_m kept_t f alike room rest =
      let s = other_step (number_of a.request) a.request.act f.redeem f.number f.serials new_m new_t kept_m kept_t alike in
      other_turn a teller merge new_m new_t kept_m kept_t s (rest s.tickets_m new_t s.replies_m kept_t s.alike (omega (arith, s.grown)))

  pub run : (teller : ℕ) (merge : List Asked) → AllByRecursion (λ a. Fits (a.teller == teller) a.request) merge
      → (new_m new_t : List Ticket) (kept_m kept_t : FinMap number_cmp Kept) → Alike new_m new_t kept_m kept_t → HasRoom new_m (length merge) → Ran teller merge new_m new_t kept_m kept_t
  run teller [] h new_m new_t kept_m kept_t alike room = record { tickets_m = new_m; tickets_t = new_t; replies_m = kept_m; replies_t = kept_t; m = refl; t = refl; alike = alike; replies = refl }
  run teller (a ∷ merge) h new_m new_t kept_m kept_t alike room =
      let t = turn (a.teller == teller) a teller merge new_m new_t kept_m kept_t h.0 alike (omega arith) (run teller merge h.1) in
      record { tickets_m = t.tickets_m; tickets_t = t.tickets_t; replies_m = t.replies_m; replies_t = t.replies_t; m = t.m; t = t.t; alike = t.alike; replies = t.replies }

  -- new tickets that an act makes have what its ticket has
  pub record Made (Q : Ticket → Type 0) (qs : List Request) (new : List Ticket) (kept : FinMap number_cmp Kept) : Type 0 where
    pub tickets : List Ticket
    pub replies : FinMap number_cmp Kept
    pub is : content_after (with new kept) qs ≡ with tickets replies
    pub all : AllByRecursion Q tickets

  -- each ticket that a request may make has it
  abbrev pub Makes : (Ticket → Type 0) → Act → Type 0
  Makes Q a = (new : List Ticket) (day payee : ℕ) (ss : List SerialNumber) → a ≡ Redeem day payee ss → refusal new day payee ss ≡ None → Q (ticket_of_request new day payee ss)

  made_all : (Q : Ticket → Type 0) (new : List Ticket) (day payee : ℕ) (ss : List SerialNumber) (o : Option Refusal) → (o ≡ None → Q (ticket_of_request new day payee ss)) → AllByRecursion Q new → AllByRecursion Q (added new day payee ss o)
  made_all Q new day payee ss None makes h = all_append Q new (ticket_of_request new day payee ss ∷ []) h (makes refl, tt)
  made_all Q new day payee ss (Some r) makes h = h

  made_one : (Q : Ticket → Type 0) (n : RequestKey) (a : Act) → IsRedeem a → Makes Q a → (new : List Ticket) (kept : FinMap number_cmp Kept) → AllByRecursion Q new → Made Q (numbered n (a) ∷ []) new kept
  made_one Q n (AddRates rows) is makes new kept h = absurd is
  made_one Q n (AddBonds bonds) is makes new kept h = absurd is
  made_one Q n (OpenDay day) is makes new kept h = absurd is
  made_one Q n (CloseDay day) is makes new kept h = absurd is
  made_one Q n (Redeem day payee ss) is makes new kept h = by_case (finite.get kept n) refl
    where
      by_case : (x : Option Kept) → finite.get kept n ≡ x → Made Q (asked_new n day payee ss ∷ []) new kept
      by_case (Some k) e = record { tickets = new; replies = kept; is = content_after-known (with new kept) (asked_new n day payee ss) (ap is_some e); all = h }
      by_case None e = record {
        tickets = added new day payee ss (refusal new day payee ss);
        replies = finite.insert kept n (entry new day payee ss);
        is = new_step new kept n day payee ss e;
        all = made_all Q new day payee ss (refusal new day payee ss) (makes new day payee ss refl) h;
      }

  pub made : (Q : Ticket → Type 0) (qs : List Request) → AllByRecursion (λ q. IsRedeem q.act × Makes Q q.act) qs → (new : List Ticket) (kept : FinMap number_cmp Kept) → AllByRecursion Q new → Made Q qs new kept
  made Q [] makes new kept h = record { tickets = new; replies = kept; is = refl; all = h }
  made Q (q ∷ qs) makes new kept h =
      let s = made_one Q (number_of q) q.act makes.0.0 makes.0.1 new kept h in
      let r = made Q qs makes.1 s.tickets s.replies s.all in
      record { tickets = r.tickets; replies = r.replies; is = go_on (with new kept) (with s.tickets s.replies) _ q qs s.is r.is; all = r.all }

  -- what the proofs begin with
  pub begin : with [] S.kept ≡ S
  begin = λ i. record { books = record S.books { tickets = append-nil S.books.tickets i }; kept = S.kept }

  pub new_of : (qs : List Request) (tickets : List Ticket) (replies : FinMap number_cmp Kept) → content_after (with [] S.kept) qs ≡ with tickets replies → drop before (books_after S qs).tickets ≡ tickets
  new_of qs tickets replies is =
      ap (λ (T : Content). drop before T.books.tickets) (sym (ap (λ (T : Content). content_after T qs) begin) ∙ is) ∙ drop_at S.books.tickets tickets before refl

  pub told_is : (T : Content) (earlier qs : List Request) → told T earlier qs ≡ told_at (content_after T earlier) qs
  told_is T earlier [] = refl
  told_is T earlier (q ∷ qs) =
      (λ i. sym (answer_after T earlier q) i ∷ told_is T (earlier ++ q ∷ []) qs i)
      ∙ ap (λ C. answer (content_after T earlier) [] q ∷ told_at C qs) (sym (content_after-append T earlier (q ∷ [])))
