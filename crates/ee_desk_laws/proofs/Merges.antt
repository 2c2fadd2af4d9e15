-- Two merges of the same lists.
use Rattle.std.proofs.Common.{◌≡◌, inl, inr, ◌==◌, ℕ, zero, suc, ◌+◌, ◌≤◌, Bool, true, false, cond, ◌||◌, eqb, List, [], ◌∷◌, ◌++◌, map, length, drop, arith, refl, sym, ap, ◌∙◌, subst}
use Rattle.std.specs.List.{AllByRecursion, filter, list_any, flat_map}
use Rattle.std.specs.List.Sorted.{IsPermutation}
use Rattle.std.proofs.lemmas.List.Sorted.{length_permutation}
use Rattle.std.proofs.lemmas.Bool.{eqb-true}
use Rattle.ee_units.specs.Spelling.{SerialNumber}
use Rattle.ee_desk_model.specs.declared.replies.Ticket.{Ticket}
use Rattle.ee_desk_model.specs.declared.replies.Reply.{Reply}
use Rattle.ee_desk_model.specs.declared.acts.Request.{Request}
use Rattle.ee_desk_model.specs.Serials.{same_serial}
use Rattle.ee_desk_model.specs.Refusals.{most_tickets}
use Rattle.ee_desk_model.specs.Numbers.{RequestKey, number_of}
use Rattle.ee_desk_model.proofs.Lemmas.Maps.{same_number-self, same_serial-self}
use Rattle.ee_desk_model.specs.Repeats.{Content}
use Rattle.ee_desk_model.specs.Contents.{books_after}
use Rattle.ee_desk_model.specs.Answers.{is_of}
use Rattle.ee_desk_laws.specs.Tellers.{Asked, requests, asked_by, list_of, IsMerge, IsRedeem, AreStrange, AreTellers, open_tickets, for_teller, replies_to, unnumbered}
use Rattle.ee_desk_laws.proofs.Classes.{same_elements, same_flat}
use Rattle.ee_desk_model.specs.Views.{serials_of}
use Rattle.ee_desk_laws.proofs.Lists.{In, all_in, any_in, eq_self, in_filter, in_left, in_map, in_right, of_all}
use Rattle.ee_desk_laws.proofs.OneTeller.{Fits, Makes, Ran, begin, blank, made, new_of, pays, pays_own, run, ticket_of_request, told_at, told_is}

-- a request of a merge stands in its teller's list
in_list : (a : Asked) (merge : List Asked) → In a merge → In a.request (asked_by a.teller merge)
in_list a merge i = in_map (λ (x : Asked). x.request) a (filter (λ x. x.teller == a.teller) merge) (in_filter (λ x. x.teller == a.teller) a merge i (eq_self a.teller))

list_redeems : (tellers : List (List Request)) → AllByRecursion (AllByRecursion (λ q. IsRedeem q.act)) tellers → (i : ℕ) → AllByRecursion (λ q. IsRedeem q.act) (list_of tellers i)
list_redeems [] h i = tt
list_redeems (t ∷ tellers) h zero = h.0
list_redeems (t ∷ tellers) h (suc i) = list_redeems tellers h.1 i

-- ---- one teller's numbers and serials
abbrev numbers_of : List Request → RequestKey → Bool
numbers_of rs n = list_any (is_of n) rs

abbrev has_serial : SerialNumber → Request → Bool
has_serial s r = list_any (same_serial s) (serials_of r.act)

abbrev serials_in : List Request → SerialNumber → Bool
serials_in rs s = list_any (has_serial s) rs

own_fits : (S : Content) (rs : List Request) (q : Request) → In q rs → IsRedeem q.act → Fits S (serials_in rs) (numbers_of rs) true q
own_fits S rs q i redeem = record {
  redeem = redeem;
  number = any_in (is_of (number_of q)) q rs i (same_number-self (number_of q));
  serials = all_in (λ s. serials_in rs s ≡ true) (serials_of q.act) (λ s j. any_in (has_serial s) q rs i (any_in (same_serial s) s (serials_of q.act) j (same_serial-self s)));
}

no_number : (q : Request) (rs : List Request) → AllByRecursion (AreStrange q) rs → numbers_of rs (number_of q) ≡ false
no_number q [] h = refl
no_number q (r ∷ rs) h = ap (λ b. b || numbers_of rs (number_of q)) h.0.0 ∙ no_number q rs h.1

no_serial : (q : Request) (rs : List Request) → AllByRecursion (AreStrange q) rs → (s : SerialNumber) → In s (serials_of q.act) → serials_in rs s ≡ false
no_serial q [] h s i = refl
no_serial q (r ∷ rs) h s i =
    ap (λ b. b || serials_in rs s) (of_all (λ x. list_any (same_serial x) (serials_of r.act) ≡ false) s (serials_of q.act) h.0.1 i) ∙ no_serial q rs h.1 s i

other_fits : (S : Content) (rs : List Request) (q : Request) → AllByRecursion (AreStrange q) rs → IsRedeem q.act → Fits S (serials_in rs) (numbers_of rs) false q
other_fits S rs q h redeem = record {
  redeem = redeem;
  number = no_number q rs h;
  serials = all_in (λ s. serials_in rs s ≡ false) (serials_of q.act) (no_serial q rs h);
}

module _ (S : Content) (tellers : List (List Request)) (are : AreTellers tellers) where
  abbrev pub mine_of : ℕ → SerialNumber → Bool
  mine_of i = serials_in (list_of tellers i)

  abbrev pub own_of : ℕ → RequestKey → Bool
  own_of i = numbers_of (list_of tellers i)

  pub merge_redeems : (merge : List Asked) → IsMerge tellers merge → (a : Asked) → In a merge → IsRedeem a.request.act
  merge_redeems merge is a i =
      of_all (λ q. IsRedeem q.act) a.request (list_of tellers a.teller) (list_redeems tellers are.redeem a.teller) (subst (In a.request) (is a.teller) (in_list a merge i))

  fits : (merge : List Asked) → IsMerge tellers merge → (i : ℕ) (a : Asked) → In a merge → (b : Bool) → (a.teller == i) ≡ b → Fits S (mine_of i) (own_of i) b a.request
  fits merge is i a at true same =
      own_fits S (list_of tellers i) a.request
      (subst (λ n. In a.request (list_of tellers n)) (eqb-true a.teller i same) (subst (In a.request) (is a.teller) (in_list a merge at))) (merge_redeems merge is a at)
  fits merge is i a at false apart =
      other_fits S (list_of tellers i) a.request
      (of_all (λ q. AllByRecursion (AreStrange q) (list_of tellers i)) a.request (list_of tellers a.teller) (are.apart a.teller i apart) (subst (In a.request) (is a.teller) (in_list a merge at)))
      (merge_redeems merge is a at)

  abbrev pub RanAll : ℕ → List Asked → Type 0
  RanAll i merge = Ran S (mine_of i) (own_of i) i merge [] [] S.kept S.kept

  pub run_all : (merge : List Asked) → IsMerge tellers merge → length merge + open_tickets S.books ≤ most_tickets → (i : ℕ) → RanAll i merge
  run_all merge is room i =
      run S (mine_of i) (own_of i) i merge (all_in _ merge (λ a at. fits merge is i a at (a.teller == i) refl)) [] [] S.kept S.kept
      (record { same = refl; above_m = tt; above_t = tt; kept = λ n h. refl }) (omega arith)

  abbrev hide : Reply → Reply
  hide = unnumbered (length S.books.tickets)

  -- the replies to a teller are those to the teller alone
  alone : (merge : List Asked) (i : ℕ) → RanAll i merge → map hide (replies_to i S merge) ≡ map hide (told_at S (mine_of i) (own_of i) S (asked_by i merge))
  alone merge i r =
      ap (λ l. map hide (for_teller i merge l)) (told_is S (mine_of i) (own_of i) S [] (requests merge))
      ∙ ap (λ T. map hide (for_teller i merge (told_at S (mine_of i) (own_of i) T (requests merge)))) (sym (begin S (mine_of i) (own_of i)))
      ∙ r.replies
      ∙ ap (λ T. map hide (told_at S (mine_of i) (own_of i) T (asked_by i merge))) (begin S (mine_of i) (own_of i))

  abbrev pub new : List Asked → List Ticket
  new merge = drop (length S.books.tickets) (books_after S (requests merge)).tickets

  abbrev pays_of : ℕ → Ticket → Bool
  pays_of i = pays S (mine_of i) (own_of i)

  -- a teller's new tickets are those of the teller alone
  new_alone : (merge : List Asked) (i : ℕ) → RanAll i merge → map blank (filter (pays_of i) (new merge)) ≡ map blank (drop (length S.books.tickets) (books_after S (asked_by i merge)).tickets)
  new_alone merge i r =
      ap (λ l. map blank (filter (pays_of i) l)) (new_of S (mine_of i) (own_of i) (requests merge) r.tickets_m r.replies_m r.m)
      ∙ r.alike.same
      ∙ sym (ap (map blank) (new_of S (mine_of i) (own_of i) (asked_by i merge) r.tickets_t r.replies_t r.t))

  -- ---- two merges
  filter_blank : (i : ℕ) (xs : List Ticket) → filter (pays_of i) (map blank xs) ≡ map blank (filter (pays_of i) xs)
  filter_blank i [] = refl
  filter_blank i (x ∷ xs) = by_case (pays_of i x) (filter_blank i xs)
    where
      by_case : (b : Bool) → filter (pays_of i) (map blank xs) ≡ map blank (filter (pays_of i) xs)
          → cond b (blank x ∷ filter (pays_of i) (map blank xs)) (filter (pays_of i) (map blank xs)) ≡ map blank (cond b (x ∷ filter (pays_of i) xs) (filter (pays_of i) xs))
      by_case true h = ap (λ l. blank x ∷ l) h
      by_case false h = h

  pub all_requests : (P : Request → Type 0) (merge : List Asked) → ((a : Asked) → In a merge → P a.request) → AllByRecursion P (requests merge)
  all_requests P [] h = tt
  all_requests P (a ∷ merge) h = (h a (inl refl), all_requests P merge (λ x i. h x (inr i)))

  abbrev classes : List Asked → List (Ticket → Bool)
  classes all = map (λ a. pays_of a.teller) all

  paid_by : (all merge : List Asked) → IsMerge tellers merge → ((a : Asked) → In a merge → In a all) → (a : Asked) → In a merge
      → Makes S (mine_of 0) (own_of 0) (λ t. list_any (λ c. c t) (classes all) ≡ true) a.request.act
  paid_by all merge is within a at now day payee ss redeems none =
      let f = own_fits S (list_of tellers a.teller) a.request (subst (In a.request) (is a.teller) (in_list a merge at)) (merge_redeems merge is a at) in
      let mine : AllByRecursion (λ s. mine_of a.teller s ≡ true) ss = subst (λ x. AllByRecursion (λ s. mine_of a.teller s ≡ true) (serials_of x)) redeems f.serials in
      any_in (λ c. c (ticket_of_request S (mine_of 0) (own_of 0) now day payee ss)) (pays_of a.teller) (classes all) (in_map (λ x. pays_of x.teller) a all (within a at))
      (pays_own S (mine_of a.teller) (own_of a.teller) now day payee ss mine none)

  covered_blank : (all : List Asked) (xs : List Ticket) → AllByRecursion (λ t. list_any (λ c. c t) (classes all) ≡ true) xs → AllByRecursion (λ t. list_any (λ c. c t) (classes all) ≡ true) (map blank xs)
  covered_blank all [] h = tt
  covered_blank all (x ∷ xs) h = (blank_any all x ∙ h.0, covered_blank all xs h.1)
    where
      blank_any : (l : List Asked) (x : Ticket) → list_any (λ c. c (blank x)) (classes l) ≡ list_any (λ c. c x) (classes l)
      blank_any [] x = refl
      blank_any (a ∷ l) x = ap (λ b. pays_of a.teller x || b) (blank_any l x)

  covered : (all merge : List Asked) → IsMerge tellers merge → ((a : Asked) → In a merge → In a all) → AllByRecursion (λ t. list_any (λ c. c t) (classes all) ≡ true) (map blank (new merge))
  covered all merge is within =
      let m = made S (mine_of 0) (own_of 0) (λ t. list_any (λ c. c t) (classes all) ≡ true) (requests merge)
      (all_requests _ merge (λ a at. (merge_redeems merge is a at, paid_by all merge is within a at))) [] S.kept tt in
      covered_blank all (new merge) (subst (AllByRecursion (λ t. list_any (λ c. c t) (classes all) ≡ true)) (sym (new_of S (mine_of 0) (own_of 0) (requests merge) m.tickets m.replies m.is)) m.all)

  -- merges are one list in another order
  retag : (i : ℕ) (merge : List Asked) → filter (λ a. a.teller == i) merge ≡ map (λ q. record { teller = i; request = q }) (asked_by i merge)
  retag i [] = refl
  retag i (a ∷ merge) = by_case (a.teller == i) refl (retag i merge)
    where
      by_case : (b : Bool) → (a.teller == i) ≡ b → filter (λ a. a.teller == i) merge ≡ map (λ q. record { teller = i; request = q }) (asked_by i merge)
          → cond b (a ∷ filter (λ a. a.teller == i) merge) (filter (λ a. a.teller == i) merge)
          ≡ map (λ q. record { teller = i; request = q }) (requests (cond b (a ∷ filter (λ a. a.teller == i) merge) (filter (λ a. a.teller == i) merge)))
      by_case true same h = λ j. record { teller = eqb-true a.teller i same j; request = a.request } ∷ h j
      by_case false apart h = h

  abbrev tags : List Asked → List (Asked → Bool)
  tags all = map (λ a x. x.teller == a.teller) all

  same_tags : (one other all : List Asked) → IsMerge tellers one → IsMerge tellers other → AllByRecursion (λ c. filter c one ≡ filter c other) (tags all)
  same_tags one other [] is at = tt
  same_tags one other (a ∷ all) is at =
      (retag a.teller one ∙ ap (map (λ q. record { teller = a.teller; request = q })) (is a.teller ∙ sym (at a.teller)) ∙ sym (retag a.teller other), same_tags one other all is at)

  tagged : (all merge : List Asked) → ((a : Asked) → In a merge → In a all) → AllByRecursion (λ a. list_any (λ c. c a) (tags all) ≡ true) merge
  tagged all merge within = all_in _ merge (λ a at. any_in (λ c. c a) (λ x. x.teller == a.teller) (tags all) (in_map (λ a x. x.teller == a.teller) a all (within a at)) (eq_self a.teller))

  pub same_merge : (one other : List Asked) → IsMerge tellers one → IsMerge tellers other → IsPermutation one other
  same_merge one other is at =
      same_elements (tags (one ++ other)) one other (same_tags one other (one ++ other) is at)
      (tagged (one ++ other) one (λ a i. in_left a one other i)) (tagged (one ++ other) other (λ a i. in_right a one other i))

  module _ (one other : List Asked) (is : IsMerge tellers one) (at : IsMerge tellers other) (room : length one + open_tickets S.books ≤ most_tickets) where
    pub room_other : length other + open_tickets S.books ≤ most_tickets
    room_other = subst (λ n. n + open_tickets S.books ≤ most_tickets) (sym (length_permutation one other (same_merge one other is at))) room

    same_class : (i : ℕ) → filter (pays_of i) (map blank (new one)) ≡ filter (pays_of i) (map blank (new other))
    same_class i =
        filter_blank i (new one) ∙ new_alone one i (run_all one is room i)
        ∙ ap (λ qs. map blank (drop (length S.books.tickets) (books_after S qs).tickets)) (is i ∙ sym (at i))
        ∙ sym (new_alone other i (run_all other at room_other i)) ∙ sym (filter_blank i (new other))

    same_classes : (all : List Asked) → AllByRecursion (λ c. filter c (map blank (new one)) ≡ filter c (map blank (new other))) (classes all)
    same_classes [] = tt
    same_classes (a ∷ all) = (same_class a.teller, same_classes all)

    pub same_tickets : IsPermutation (map blank (new one)) (map blank (new other))
    same_tickets =
        same_elements (classes (one ++ other)) _ _ (same_classes (one ++ other))
        (covered (one ++ other) one is (λ a i. in_left a one other i)) (covered (one ++ other) other at (λ a i. in_right a one other i))

    pub same_lines : IsPermutation (flat_map (λ t. t.lines) (map blank (new one))) (flat_map (λ t. t.lines) (map blank (new other)))
    same_lines =
        same_flat (λ t. t.lines) (classes (one ++ other)) _ _ (same_classes (one ++ other))
        (covered (one ++ other) one is (λ a i. in_left a one other i)) (covered (one ++ other) other at (λ a i. in_right a one other i))

    pub same_replies : (i : ℕ) → map hide (replies_to i S one) ≡ map hide (replies_to i S other)
    same_replies i =
        alone one i (run_all one is room i) ∙ ap (λ qs. map hide (told_at S (mine_of i) (own_of i) S qs)) (is i ∙ sym (at i)) ∙ sym (alone other i (run_all other at room_other i))
