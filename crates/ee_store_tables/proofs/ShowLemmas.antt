-- What queries of many rows show.
use Rattle.std.proofs.Common.{◌≡◌, ℕ, ℤ, pos, List, [], ◌∷◌, ◌++◌, map, filter, Bool, true, Some, None, Option, refl, sym, ap, ap₂, subst, ◌∙◌, nat_cmp, arith, Less, Equal}
use Rattle.std.specs.Prelude.{option_map, ◌==◌, ◌&&◌, is_none, take}
use Rattle.std.specs.Option.{option_to_list}
use Rattle.std.specs.Ordering.{is_eq, ordering_then}
use Rattle.std.proofs.lemmas.Bool.Decides.{nat_tests}
use Rattle.std.specs.FinMap.{FinMap, entries, entries_sorted}
use Rattle.std.proofs.lemmas.List.Sorted.{IsPermutation-trans}
use Rattle.std.proofs.Math.Bool.{and-true, and_comm}
use Rattle.std.proofs.lemmas.List.Elements.{filter_passes, recursion_from_All}
use Rattle.sqlite.specs.declared.types.Value.TheVariants.{Null, Int}
use Rattle.sqlite.specs.Order.{Row, value_cmp}
use Rattle.sqlite.specs.Ops.{binary, is_true}
use Rattle.sqlite_sql.specs.declared.ops.BinaryOp.TheVariants.{Is}
use Rattle.sqlite.specs.Collation.TheVariants.{Binary}
use Rattle.sqlite.specs.Query.{Output, output, output_cmp}
use Rattle.sqlite.specs.State.{State, Shown}
use Rattle.sqlite.specs.Tree.{IsAscending}
use Rattle.sqlite_value.proofs.OrderLemmas.{then-Equal}
use Rattle.sqlite_keyed.proofs.ListLemmas.{map-map, ascending-filter, ascending_weaker, filter_all, all_of}
use Rattle.ee_store_tables.specs.Tables.{HasCounterTables}
use Rattle.ee_store_tables.specs.Keyed.{pair_cmp, row_of, stored, ReadAlike, HoldsMap, HoldsPairs}
use Rattle.ee_store_tables.specs.Rows.{number, optional, TicketRow, ticket_columns, PaidRow, paid_columns, BondRow, bond_columns, first_number, last_number}
use Rattle.ee_store_tables.specs.AsRows.{sum_of, sum_columns, placed_of, placed_columns, unpaid_bond_of, unpaid_columns}
use Rattle.ee_store_tables.proofs.Meaning.{last_ticket_text, last_ticket_query, last_ticket_is, last_ticket_plain, day_tickets_text, day_tickets_query, day_tickets_is, day_tickets_plain, first_ticket_text, first_ticket_query, first_ticket_is, first_ticket_plain, ticket_lines_text, ticket_lines_query, ticket_lines_is, ticket_lines_plain, bonds_of_owner_text, bonds_of_owner_query, bonds_of_owner_is, bonds_of_owner_plain}
use Rattle.ee_store_tables.proofs.ReadLemmas.{keyed_same}
use Rattle.ee_store_tables.proofs.SelectLemmas.{cmp_pos, equals_holds}
use Rattle.ee_store_tables.proofs.OrderLemmas.{keys_rise, rise_among, in_order, backward, backward_permutes, backward_rises}
use Rattle.ee_store_tables.proofs.OurLemmas.{reads_ours}

test_is : (m n : ℕ) → is_eq (nat_cmp n m) ≡ (m == n)
test_is m n = grind (arith, nat_tests)

both_are : (x y t : ℕ) → (x == t) ≡ true → (y == t) ≡ true → nat_cmp x y ≡ Equal
both_are x y t a b = grind (arith, nat_tests)

null_holds : (o : Option ℕ) → is_true (binary (Is Binary) (optional o) Null) ≡ is_none o
unfolding binary value_cmp lib.Ieee.is_nan lib.Ieee.lt
null_holds None = refl
null_holds (Some n) = refl

-- ---- the tickets of a day

module _ (day : ℕ) where
  day_agrees : (r : Row) (p : ℤ × (ℕ × TicketRow)) → ReadAlike r (row_of ticket_columns (pos p.1.0, p.1)) → Rattle.std.specs.List.list_all (Rattle.sqlite_sql.specs.Term.holds ((Int (pos day) ∷ []) ∷ r ∷ [])) day_tickets_query.filter ≡ (p.1.1.day == day)
  day_agrees r p one = rw (one 2, equals_holds p.1.1.day day) (and-true _ ∙ test_is p.1.1.day day)

  abbrev day_out : ℕ × TicketRow → Output
  day_out e = (Int (pos e.0) ∷ [], sum_columns (sum_of e))

  day_shows : (r : Row) (p : ℤ × (ℕ × TicketRow)) → ReadAlike r (row_of ticket_columns (pos p.1.0, p.1)) → output day_tickets_query ((Int (pos day) ∷ []) ∷ r ∷ []) ≡ day_out p.1
  day_shows r p one = rw (one 0, one 4, one 5) refl

  day_rises : (e f : ℕ × TicketRow) → nat_cmp e.0 f.0 ≡ Less → output_cmp day_tickets_query (day_out e) (day_out f) ≡ Less
  day_rises e f less = then-Equal _ ∙ cmp_pos e.0 f.0 ∙ less

  pub finds_day : (old new : State) (m : FinMap nat_cmp TicketRow) (rows : List Row) → HasCounterTables old.now.schema → HoldsMap ticket_columns (old.now.trees 5) m
      → Shown day_tickets_text (Int (pos day) ∷ []) old new rows → rows ≡ map sum_columns (map sum_of (filter (λ e. e.1.day == day) (entries m)))
  finds_day old new m rows has stands shown =
      in_order (λ p. row_of ticket_columns (pos p.1.0, p.1)) (λ p. p.1) 5 day_tickets_query.filter day_tickets_query.project day_tickets_query.order day_tickets_query.limit (Int (pos day) ∷ []) (λ e. e.1.day == day) day_out day_agrees day_shows
      old.now.trees rows stands.table.numbered (entries m) refl (keyed_same ticket_columns (old.now.trees 5) stands.table.numbered stands.keyed stands.table.are) stands.table.same
      (ascending_weaker _ _ day_rises _ (ascending-filter _ (λ e. e.1.day == day) (entries m) (keys_rise nat_cmp (entries m) (entries_sorted m))))
      ((reads_ours day_tickets_text (Int (pos day) ∷ []) old new has _ day_tickets_is day_tickets_plain rows shown).answer Null)
      ∙ map-map (λ (o : Output). o.1) day_out _ ∙ sym (map-map sum_columns sum_of _)

-- ---- the first ticket of a day

abbrev number_out : ℕ × TicketRow → Output
number_out e = (Int (pos e.0) ∷ [], Int (pos e.0) ∷ [])

first_row : (es : List (ℕ × TicketRow)) → take 1 (map (λ e. number e.0 ∷ []) es) ≡ option_to_list (option_map (λ n. number n ∷ []) (first_number es))
first_row [] = refl
first_row (e ∷ es) = refl

first_rises : (e f : ℕ × TicketRow) → nat_cmp e.0 f.0 ≡ Less → output_cmp first_ticket_query (number_out e) (number_out f) ≡ Less
first_rises e f less = then-Equal _ ∙ cmp_pos e.0 f.0 ∙ less

module _ (day : ℕ) where
  first_shows : (r : Row) (p : ℤ × (ℕ × TicketRow)) → ReadAlike r (row_of ticket_columns (pos p.1.0, p.1)) → output first_ticket_query ((Int (pos day) ∷ []) ∷ r ∷ []) ≡ number_out p.1
  first_shows r p one = rw (one 0) refl

  pub finds_first : (old new : State) (m : FinMap nat_cmp TicketRow) (rows : List Row) → HasCounterTables old.now.schema → HoldsMap ticket_columns (old.now.trees 5) m
      → Shown first_ticket_text (Int (pos day) ∷ []) old new rows → rows ≡ option_to_list (option_map (λ n. number n ∷ []) (first_number (filter (λ e. e.1.day == day) (entries m))))
  finds_first old new m rows has stands shown =
      in_order (λ p. row_of ticket_columns (pos p.1.0, p.1)) (λ p. p.1) 5 first_ticket_query.filter first_ticket_query.project first_ticket_query.order first_ticket_query.limit (Int (pos day) ∷ []) (λ e. e.1.day == day) number_out (day_agrees day) first_shows
      old.now.trees rows stands.table.numbered (entries m) refl (keyed_same ticket_columns (old.now.trees 5) stands.table.numbered stands.keyed stands.table.are) stands.table.same
      (ascending_weaker _ _ first_rises _ (ascending-filter _ (λ e. e.1.day == day) (entries m) (keys_rise nat_cmp (entries m) (entries_sorted m))))
      ((reads_ours first_ticket_text (Int (pos day) ∷ []) old new has _ first_ticket_is first_ticket_plain rows shown).answer Null)
      ∙ ap (take 1) (map-map (λ (o : Output). o.1) number_out _) ∙ first_row _

-- ---- the last ticket

last_shows : (r : Row) (p : ℤ × (ℕ × TicketRow)) → ReadAlike r (row_of ticket_columns (pos p.1.0, p.1)) → output last_ticket_query ([] ∷ r ∷ []) ≡ number_out p.1
last_shows r p one = rw (one 0) refl

last_rises : (e f : ℕ × TicketRow) → nat_cmp f.0 e.0 ≡ Less → output_cmp last_ticket_query (number_out e) (number_out f) ≡ Less
last_rises e f less = then-Equal _ ∙ cmp_pos f.0 e.0 ∙ less

first_of : {A : Type 0} (xs ys : List A) (x : A) → take 1 ((xs ++ x ∷ []) ++ ys) ≡ take 1 (xs ++ x ∷ [])
first_of [] ys x = refl
first_of (y ∷ xs) ys x = refl

first_map : {A B : Type 0} (f : A → B) (xs : List A) → take 1 (map f xs) ≡ map f (take 1 xs)
first_map f [] = refl
first_map f (x ∷ xs) = refl

last_first : (es : List (ℕ × TicketRow)) → map (λ e. number e.0 ∷ []) (take 1 (backward es)) ≡ option_to_list (option_map (λ n. number n ∷ []) (last_number es))
last_first [] = refl
last_first (e ∷ []) = refl
last_first (e ∷ f ∷ more) = ap (map (λ (e : ℕ × TicketRow). number e.0 ∷ [])) (first_of (backward more) (e ∷ []) f) ∙ last_first (f ∷ more)

pub finds_last : (old new : State) (m : FinMap nat_cmp TicketRow) (rows : List Row) → HasCounterTables old.now.schema → HoldsMap ticket_columns (old.now.trees 5) m
    → Shown last_ticket_text [] old new rows → rows ≡ option_to_list (option_map (λ n. number n ∷ []) (last_number (entries m)))
finds_last old new m rows has stands shown =
    let every = filter_all (λ (e : ℕ × TicketRow). true) (backward (entries m)) (all_of _ (λ e. refl) (backward (entries m))) in
    in_order (λ p. row_of ticket_columns (pos p.1.0, p.1)) (λ p. p.1) 5 last_ticket_query.filter last_ticket_query.project last_ticket_query.order last_ticket_query.limit [] (λ e. true) number_out (λ r p one. refl) last_shows
    old.now.trees rows stands.table.numbered (backward (entries m)) refl (keyed_same ticket_columns (old.now.trees 5) stands.table.numbered stands.keyed stands.table.are)
    (IsPermutation-trans _ _ _ stands.table.same (backward_permutes (entries m)))
    (subst (IsAscending _) (sym every) (ascending_weaker _ _ last_rises _ (backward_rises _ (entries m) (keys_rise nat_cmp (entries m) (entries_sorted m)))))
    ((reads_ours last_ticket_text [] old new has _ last_ticket_is last_ticket_plain rows shown).answer Null)
    ∙ ap (λ es. take 1 (map (λ (o : Output). o.1) (map number_out es))) every ∙ ap (take 1) (map-map (λ (o : Output). o.1) number_out (backward (entries m)))
    ∙ first_map (λ (e : ℕ × TicketRow). number e.0 ∷ []) (backward (entries m)) ∙ last_first (entries m)

-- ---- the lines of a ticket

module _ (ticket : ℕ) where
  line_agrees : (r : Row) (p : ℤ × ((ℕ × ℕ) × PaidRow)) → ReadAlike r (stored paid_columns p) → Rattle.std.specs.List.list_all (Rattle.sqlite_sql.specs.Term.holds ((Int (pos ticket) ∷ []) ∷ r ∷ [])) ticket_lines_query.filter ≡ (p.1.0.0 == ticket)
  line_agrees r p one = rw (one 1, equals_holds p.1.0.0 ticket) (and-true _ ∙ test_is p.1.0.0 ticket)

  abbrev line_out : (ℕ × ℕ) × PaidRow → Output
  line_out e = (Int (pos e.0.1) ∷ [], placed_columns (placed_of e))

  line_shows : (r : Row) (p : ℤ × ((ℕ × ℕ) × PaidRow)) → ReadAlike r (stored paid_columns p) → output ticket_lines_query ((Int (pos ticket) ∷ []) ∷ r ∷ []) ≡ line_out p.1
  line_shows r p one = rw (one 2, one 3, one 4, one 5) refl

  line_rises : (e f : (ℕ × ℕ) × PaidRow) → (e.0.0 == ticket) ≡ true → (f.0.0 == ticket) ≡ true → pair_cmp e.0 f.0 ≡ Less → output_cmp ticket_lines_query (line_out e) (line_out f) ≡ Less
  line_rises e f one two less = then-Equal _ ∙ cmp_pos e.0.1 f.0.1 ∙ ap (λ o. ordering_then o (nat_cmp e.0.1 f.0.1)) (sym (both_are e.0.0 f.0.0 ticket one two)) ∙ less

  pub finds_lines : (old new : State) (m : FinMap pair_cmp PaidRow) (rows : List Row) → HasCounterTables old.now.schema → HoldsPairs paid_columns (old.now.trees 7) m
      → Shown ticket_lines_text (Int (pos ticket) ∷ []) old new rows → rows ≡ map placed_columns (map placed_of (filter (λ e. e.0.0 == ticket) (entries m)))
  finds_lines old new m rows has stands shown =
      in_order (stored paid_columns) (λ p. p.1) 7 ticket_lines_query.filter ticket_lines_query.project ticket_lines_query.order ticket_lines_query.limit (Int (pos ticket) ∷ []) (λ e. e.0.0 == ticket) line_out line_agrees line_shows
      old.now.trees rows stands.numbered (entries m) refl stands.are stands.same
      (rise_among _ _ _ line_rises _ (recursion_from_All _ _ (filter_passes (λ e. e.0.0 == ticket) (entries m))) (ascending-filter _ (λ e. e.0.0 == ticket) (entries m) (keys_rise pair_cmp (entries m) (entries_sorted m))))
      ((reads_ours ticket_lines_text (Int (pos ticket) ∷ []) old new has _ ticket_lines_is ticket_lines_plain rows shown).answer Null)
      ∙ map-map (λ (o : Output). o.1) line_out _ ∙ sym (map-map placed_columns placed_of _)

-- ---- the bonds of an owner

module _ (owner : ℕ) where
  abbrev is_own : (ℕ × ℕ) × BondRow → Bool
  is_own e = (e.1.owner == owner) && is_none e.1.ticket

  own_agrees : (r : Row) (p : ℤ × ((ℕ × ℕ) × BondRow)) → ReadAlike r (stored bond_columns p) → Rattle.std.specs.List.list_all (Rattle.sqlite_sql.specs.Term.holds ((Int (pos owner) ∷ []) ∷ r ∷ [])) bonds_of_owner_query.filter ≡ is_own p.1
  own_agrees r p one = rw (one 5, one 7, equals_holds p.1.1.owner owner, null_holds p.1.1.ticket) (ap (λ b. is_none p.1.1.ticket && b) (and-true _ ∙ test_is p.1.1.owner owner) ∙ and_comm (is_none p.1.1.ticket) (p.1.1.owner == owner))

  abbrev own_out : (ℕ × ℕ) × BondRow → Output
  own_out e = (Int (pos e.0.0) ∷ Int (pos e.0.1) ∷ [], unpaid_columns (unpaid_bond_of e))

  own_shows : (r : Row) (p : ℤ × ((ℕ × ℕ) × BondRow)) → ReadAlike r (stored bond_columns p) → output bonds_of_owner_query ((Int (pos owner) ∷ []) ∷ r ∷ []) ≡ own_out p.1
  own_shows r p one = rw (one 1, one 2, one 3, one 4, one 5, one 6) refl

  own_rises : (e f : (ℕ × ℕ) × BondRow) → pair_cmp e.0 f.0 ≡ Less → output_cmp bonds_of_owner_query (own_out e) (own_out f) ≡ Less
  own_rises e f less = ap₂ ordering_then (cmp_pos e.0.0 f.0.0) (then-Equal _ ∙ cmp_pos e.0.1 f.0.1) ∙ less

  pub finds_own : (old new : State) (m : FinMap pair_cmp BondRow) (rows : List Row) → HasCounterTables old.now.schema → HoldsPairs bond_columns (old.now.trees 2) m
      → Shown bonds_of_owner_text (Int (pos owner) ∷ []) old new rows → rows ≡ map unpaid_columns (map unpaid_bond_of (filter is_own (entries m)))
  finds_own old new m rows has stands shown =
      in_order (stored bond_columns) (λ p. p.1) 2 bonds_of_owner_query.filter bonds_of_owner_query.project bonds_of_owner_query.order bonds_of_owner_query.limit (Int (pos owner) ∷ []) is_own own_out own_agrees own_shows
      old.now.trees rows stands.numbered (entries m) refl stands.are stands.same
      (ascending_weaker _ _ own_rises _ (ascending-filter _ is_own (entries m) (keys_rise pair_cmp (entries m) (entries_sorted m))))
      ((reads_ours bonds_of_owner_text (Int (pos owner) ∷ []) old new has _ bonds_of_owner_is bonds_of_owner_plain rows shown).answer Null)
      ∙ map-map (λ (o : Output). o.1) own_out _ ∙ sym (map-map unpaid_columns unpaid_bond_of _)
