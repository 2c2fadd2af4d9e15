-- The day's end after either merge.
use Rattle.std.proofs.Common.{◌≡◌, ◌⊎◌, inl, inr, ◌==◌, ℕ, ◌+◌, ◌≤◌, Bool, true, false, cond, ◌||◌, List, [], ◌∷◌, ◌++◌, map, length, find, Option, Some, None, arith, refl, sym, ap, ◌∙◌, subst}
use Rattle.std.specs.Option.{option_or}
use Rattle.std.specs.List.{AllByRecursion, filter, list_any, flat_map, sum_by}
use Rattle.std.specs.List.Sorted.{IsPermutation}
use Rattle.std.proofs.lemmas.List.Sorted.{IsPermutation-map, IsPermutation-append_right, sum_by-IsPermutation, list_any-IsPermutation}
use Rattle.std.specs.FinMap as finite
use Rattle.std.proofs.lemmas.List.Sums.{length-filter, sum_by-cons}
use Rattle.std.proofs.lemmas.List.{map-append}
use Rattle.ee_desk_model.specs.declared.acts.Act.{Act}
use Rattle.ee_desk_model.specs.declared.acts.Act.TheVariants.{AddRates, AddBonds, OpenDay, Redeem, CloseDay}
use Rattle.ee_desk_model.specs.declared.changes.Kept.{Kept}
use Rattle.ee_desk_model.specs.declared.replies.Ticket.{Ticket}
use Rattle.ee_desk_model.specs.declared.refusals.Refusal.{Refusal}
use Rattle.ee_desk_model.specs.declared.refusals.Refusal.TheVariants.{NumberReused}
use Rattle.ee_desk_model.specs.declared.replies.Reply.{Reply}
use Rattle.ee_desk_model.specs.declared.replies.Reply.TheVariants.{Refused}
use Rattle.ee_desk_model.specs.declared.replies.Reply.TheVariants as reply
use Rattle.ee_desk_model.specs.declared.acts.Request.{Request}
use Rattle.ee_desk_model.specs.PlainBooks.{PlainBooks, batch_of, batch_so_far, total_of, bonds_on, of_day}
use Rattle.ee_desk_model.specs.Seen.{shown, closing_batch}
use Rattle.ee_desk_model.specs.declared.replies.Batch.{Batch}
use Rattle.ee_desk_model.specs.Refusals.{refusal_of_day, most_tickets}
use Rattle.ee_desk_model.specs.Outcomes.{act}
use Rattle.ee_desk_model.specs.Effects as effects
use Rattle.ee_desk_model.specs.Numbers.{RequestKey, number_of}
use Rattle.ee_desk_model.specs.Repeats.{Content}
use Rattle.ee_desk_model.specs.Contents.{content_after, books_after}
use Rattle.ee_desk_model.specs.Answers.{answer, answer_for, answer_by, reply_again, is_of}
use Rattle.ee_desk_laws.specs.Tellers.{Asked, requests, IsMerge, IsRedeem, AreTellers, open_tickets}
use Rattle.ee_desk_laws.proofs.OneTeller.{begin, blank, new_of}
use Rattle.ee_desk_laws.proofs.Merges.{RanAll, room_other, same_tickets, all_requests, merge_redeems, mine_of, new, own_of, run_all, same_merge}

pub flat_blank : (xs : List Ticket) → flat_map (λ t. t.lines) (map blank xs) ≡ flat_map (λ t. t.lines) xs
flat_blank [] = refl
flat_blank (x ∷ xs) = ap (λ l. x.lines ++ l) (flat_blank xs)

sum_filter : (f : Ticket → ℕ) (p : Ticket → Bool) (xs : List Ticket) → sum_by f (filter p xs) ≡ sum_by (λ t. cond (p t) (f t) 0) xs
sum_filter f p [] = refl
sum_filter f p (x ∷ xs) = by_case (p x) refl (sum_filter f p xs)
  where
    by_case : (b : Bool) → p x ≡ b → sum_by f (filter p xs) ≡ sum_by (λ t. cond (p t) (f t) 0) xs → sum_by f (cond b (x ∷ filter p xs) (filter p xs)) ≡ sum_by (λ t. cond (p t) (f t) 0) (x ∷ xs)
    by_case true e h =
        sum_by-cons f x (filter p xs) ∙ (λ i. cond (sym e i) (f x) 0 + h i) ∙ sym (sum_by-cons (λ t. cond (p t) (f t) 0) x xs)
    by_case false e h =
        let e' : sum_by (λ t. cond (p t) (f t) 0) (x ∷ xs) ≡ cond (p x) (f x) 0 + sum_by (λ t. cond (p t) (f t) 0) xs = sum_by-cons (λ t. cond (p t) (f t) 0) x xs in
        let z : cond (p x) (f x) 0 ≡ 0 = ap (λ b. cond b (f x) 0) e in
        omega arith

sum_blank : (g : Ticket → ℕ) → ((t : Ticket) → g (blank t) ≡ g t) → (xs : List Ticket) → sum_by g (map blank xs) ≡ sum_by g xs
sum_blank g h [] = refl
sum_blank g h (x ∷ xs) = sum_by-cons g (blank x) (map blank xs) ∙ (λ i. h x i + sum_blank g h xs i) ∙ sym (sum_by-cons g x xs)

-- a sum over a day's tickets
day_sum : (f : Ticket → ℕ) → ((t : Ticket) → f (blank t) ≡ f t) → (day : ℕ) (xs ys : List Ticket) → IsPermutation (map blank xs) (map blank ys) → sum_by f (of_day day xs) ≡ sum_by f (of_day day ys)
day_sum f h day xs ys e =
    let g : Ticket → ℕ = λ t. cond (t.day == day) (f t) 0 in
    let b : (t : Ticket) → cond (t.day == day) (f (blank t)) 0 ≡ cond (t.day == day) (f t) 0 = λ t. ap (λ n. cond (t.day == day) n 0) (h t) in
    sum_filter f (λ t. t.day == day) xs ∙ sym (sum_blank g b xs) ∙ sym (sum_by-IsPermutation g (map blank xs) (map blank ys) e) ∙ sum_blank g b ys ∙ sym (sum_filter f (λ t. t.day == day) ys)

day_count : (day : ℕ) (xs ys : List Ticket) → IsPermutation (map blank xs) (map blank ys) → length (of_day day xs) ≡ length (of_day day ys)
day_count day xs ys e =
    let g : Ticket → ℕ = λ t. cond (t.day == day) 1 0 in
    length-filter (λ t. t.day == day) xs ∙ sym (sum_blank g (λ t. refl) xs) ∙ sym (sum_by-IsPermutation g (map blank xs) (map blank ys) e) ∙ sum_blank g (λ t. refl) ys ∙ sym (length-filter (λ t. t.day == day) ys)

same_batch : (day : ℕ) (xs ys : List Ticket) → IsPermutation (map blank xs) (map blank ys) → batch_of day xs ≡ batch_of day ys
same_batch day xs ys e = λ i. record {
  day = day;
  tickets = day_count day xs ys e i;
  bonds = day_sum bonds_on (λ t. refl) day xs ys e i;
  total = record { 0 = day_sum total_of (λ t. refl) day xs ys e i };
}

same_so_far : (day : Option ℕ) (xs ys : List Ticket) → IsPermutation (map blank xs) (map blank ys) → batch_so_far day xs ≡ batch_so_far day ys
same_so_far None xs ys e = refl
same_so_far (Some day) xs ys e = same_batch day xs ys e

abbrev closed : Option Refusal → Batch → Reply
closed None batch = reply.Batch batch
closed (Some r) batch = Refused r

closing : (books : PlainBooks) (day : ℕ) (o : Option Refusal) → (effects.unless_refused (shown books) (CloseDay day) o).reply ≡ closed o (closing_batch (shown books) day)
closing books day None = refl
closing books day (Some r) = refl

other_act : (first : Act) (r : Reply) (day : ℕ) → IsRedeem first → reply_again first r (CloseDay day) ≡ Refused NumberReused
other_act (AddRates rows) r day is = absurd is
other_act (AddBonds bonds) r day is = absurd is
other_act (OpenDay d) r day is = absurd is
other_act (CloseDay d) r day is = absurd is
other_act (Redeem d payee ss) r day is = refl

record FoundRedeem (n : RequestKey) (L : List Request) : Type 0 where
  found : Request
  pub is : find (is_of n) L ≡ Some found
  redeem : IsRedeem found.act
  any : list_any (is_of n) L ≡ true

record FoundNone (n : RequestKey) (L : List Request) : Type 0 where
  pub is : find (is_of n) L ≡ None
  any : list_any (is_of n) L ≡ false

find_redeem : (n : RequestKey) (L : List Request) → AllByRecursion (λ q. IsRedeem q.act) L → FoundRedeem n L ⊎ FoundNone n L
find_redeem n [] h = inr (record { is = refl; any = refl })
find_redeem n (q ∷ L) h = by_case (is_of n q) refl (find_redeem n L h.1)
  where
    by_case : (b : Bool) → is_of n q ≡ b → FoundRedeem n L ⊎ FoundNone n L → FoundRedeem n (q ∷ L) ⊎ FoundNone n (q ∷ L)
    by_case true e f = inl (record { found = q; is = ap (λ b. cond b (Some q) (find (is_of n) L)) e; redeem = h.0; any = ap (λ b. b || list_any (is_of n) L) e })
    by_case false e (inl f) = inl (record { found = f.found; is = ap (λ b. cond b (Some q) (find (is_of n) L)) e ∙ f.is; redeem = f.redeem; any = ap (λ b. b || list_any (is_of n) L) e ∙ f.any })
    by_case false e (inr f) = inr (record { is = ap (λ b. cond b (Some q) (find (is_of n) L)) e ∙ f.is; any = ap (λ b. b || list_any (is_of n) L) e ∙ f.any })

-- the answer to a CloseDay under a number that the start doesn't keep
close_by : (S : Content) (L : List Request) (q : Request) (day : ℕ) → AllByRecursion (λ r. IsRedeem r.act) L → q.act ≡ CloseDay day
    → answer_by S L q (find (is_of (number_of q)) L) ≡ cond (list_any (is_of (number_of q)) L) (Refused NumberReused) (act (books_after S L) (CloseDay day)).reply
close_by S L q day redeem is = by_case (find_redeem (number_of q) L redeem)
  where
    by_case : FoundRedeem (number_of q) L ⊎ FoundNone (number_of q) L → answer_by S L q (find (is_of (number_of q)) L) ≡ cond (list_any (is_of (number_of q)) L) (Refused NumberReused) (act (books_after S L) (CloseDay day)).reply
    by_case (inl f) =
        ap (answer_by S L q) f.is ∙ ap (reply_again f.found.act _) is ∙ other_act f.found.act _ day f.redeem
        ∙ sym (ap (λ b. cond b (Refused NumberReused) (act (books_after S L) (CloseDay day)).reply) f.any)
    by_case (inr f) =
        ap (answer_by S L q) f.is ∙ ap (λ (a : Act). (act (books_after S L) a).reply) is
        ∙ sym (ap (λ b. cond b (Refused NumberReused) (act (books_after S L) (CloseDay day)).reply) f.any)

module _ (S : Content) (tellers : List (List Request)) (are : AreTellers tellers) (one other : List Asked) (is : IsMerge tellers one) (at : IsMerge tellers other)
    (room : length one + open_tickets S.books ≤ most_tickets) where
  -- the books after a merge
  books_of : (merge : List Asked) → RanAll S tellers are 0 merge → books_after S (requests merge) ≡ record S.books { tickets = S.books.tickets ++ new S tellers are merge }
  books_of merge r =
      ap (λ (T : Content). T.books) (sym (ap (λ (T : Content). content_after T (requests merge)) (begin S (mine_of S tellers are 0) (own_of S tellers are 0))) ∙ r.m)
      ∙ sym (ap (λ l. record S.books { tickets = S.books.tickets ++ l }) (new_of S (mine_of S tellers are 0) (own_of S tellers are 0) (requests merge) r.tickets_m r.replies_m r.m))

  abbrev after_all : List Asked → List Ticket
  after_all merge = S.books.tickets ++ new S tellers are merge

  abbrev refused_close : ℕ → Option Refusal
  refused_close day = option_or (refusal_of_day S.books.day day) None

  -- the batch of the open day's tickets
  abbrev batch_named : ℕ → Batch → Batch
  batch_named day b = record { day = day; tickets = b.tickets; bonds = b.bonds; total = record { 0 = b.total.0 } }

  reply_of_close : (merge : List Asked) → RanAll S tellers are 0 merge → (day : ℕ) → (act (books_after S (requests merge)) (CloseDay day)).reply ≡ closed (refused_close day) (batch_named day (batch_so_far S.books.day (after_all merge)))
  reply_of_close merge r day =
      ap (λ (b : PlainBooks). (act b (CloseDay day)).reply) (books_of merge r)
      ∙ closing (record S.books { tickets = after_all merge }) day (refused_close day)

  same_days : IsPermutation (map blank (after_all one)) (map blank (after_all other))
  same_days =
      subst (λ l. IsPermutation l (map blank (after_all other))) (sym (map-append blank S.books.tickets (new S tellers are one)))
      (subst (IsPermutation (map blank S.books.tickets ++ map blank (new S tellers are one))) (sym (map-append blank S.books.tickets (new S tellers are other)))
      (IsPermutation-append_right (map blank S.books.tickets) _ _ (same_tickets S tellers are one other is at room)))

  ran_one : RanAll S tellers are 0 one
  ran_one = run_all S tellers are one is room 0

  ran_other : RanAll S tellers are 0 other
  ran_other = run_all S tellers are other at (room_other S tellers are one other is at room) 0

  same_close : (day : ℕ) → (act (books_after S (requests one)) (CloseDay day)).reply ≡ (act (books_after S (requests other)) (CloseDay day)).reply
  same_close day =
      reply_of_close one ran_one day
      ∙ ap (λ (b : Batch). closed (refused_close day) (batch_named day b)) (same_so_far S.books.day (after_all one) (after_all other) same_days)
      ∙ sym (reply_of_close other ran_other day)

  redeems : (merge : List Asked) → IsMerge tellers merge → AllByRecursion (λ q. IsRedeem q.act) (requests merge)
  redeems merge m = all_requests S tellers are (λ q. IsRedeem q.act) merge (merge_redeems S tellers are merge m)

  same_numbers : (n : RequestKey) → list_any (is_of n) (requests one) ≡ list_any (is_of n) (requests other)
  same_numbers n = list_any-IsPermutation (is_of n) (requests one) (requests other) (IsPermutation-map (λ (a : Asked). a.request) one other (same_merge S tellers are one other is at))

  pub closes : (q : Request) (day : ℕ) → q.act ≡ CloseDay day → answer S (requests one) q ≡ answer S (requests other) q
  closes q day is_close = by_case (finite.get S.kept (number_of q)) refl
    where
      by_case : (o : Option Kept) → finite.get S.kept (number_of q) ≡ o → answer S (requests one) q ≡ answer S (requests other) q
      by_case (Some k) e = ap (answer_for S (requests one) q) e ∙ sym (ap (answer_for S (requests other) q) e)
      by_case None e =
          ap (answer_for S (requests one) q) e
          ∙ close_by S (requests one) q day (redeems one is) is_close
          ∙ (λ i. cond (same_numbers (number_of q) i) (Refused NumberReused) (same_close day i))
          ∙ sym (close_by S (requests other) q day (redeems other at) is_close)
          ∙ sym (ap (answer_for S (requests other) q) e)
