-- Rows of bonds that tickets pay. If each row that names a ticket is on one of its lines, and as many rows name one as there are lines, then each
-- line pays its row, and no row is paid twice.
use Rattle.std.proofs.Common.{◌≡◌, ◌==◌, ℕ, suc, ◌<◌, ◌≤◌, Bool, true, false, true≢false, cond, ◌||◌, List, [], ◌∷◌, ◌++◌, map, length, Option, Some, None, arith, refl, sym, ap, ◌∙◌, subst}
use Rattle.std.specs.Prelude.{count_by}
use Rattle.std.specs.Option.{is_some, option_map, option_map_or, option_or, IfSome, IsSomeAnd}
use Rattle.std.specs.List.{AllByRecursion, IsDistinct, filter, find, flat_map, list_any}
use Rattle.std.specs.Ordering.{nat_cmp, is_eq}
use Rattle.std.specs.FinMap as finite
use Rattle.std.specs.FinMap.{FinMap}
use Rattle.std.specs.Map.{lookup}
use Rattle.std.specs.BTreeMap.{is_at}
use Rattle.std.proofs.lemmas.Bool.{eqb-true, eq-eqb, false_from_ne_true}
use Rattle.std.proofs.lemmas.List.{length-map, map-append}
use Rattle.std.proofs.lemmas.List.Folds.{find-append}
use Rattle.std.proofs.lemmas.List.Sums.{length-filter}
use Rattle.std.proofs.lemmas.Map.Keys.{IsDistinct-cons}
use Rattle.std.proofs.lemmas.Map.Made.{length-le_from_is_member, length-from_keys, length-from_same_keys, IsDistinct-from_count}
use Rattle.std.proofs.lemmas.Option.{same_Some}
use Rattle.ee_units.specs.Spelling.{SerialNumber}
use Rattle.ee_value.specs.declared.rates.Rates.{Rates}
use Rattle.ee_calculator.specs.declared.bonds.Bond.{Bond}
use Rattle.ee_desk_model.specs.declared.changes.Held.{Held}
use Rattle.ee_desk_model.specs.declared.replies.Line.{Line}
use Rattle.ee_desk_model.specs.declared.replies.Ticket.{Ticket}
use Rattle.ee_desk_model.specs.Paid.{paid_lines, NoneTwice}
use Rattle.ee_desk_model.specs.PlainBooks.{names, ticket_of}
use Rattle.ee_desk_model.specs.Serials.{serial_cmp, same_serial}
use Rattle.ee_desk_model.specs.Sound.{IsRightLine, IsRightTicket, NumberedFrom}
use Rattle.ee_desk_model.proofs.Lemmas.Maps.{serials_total, serials_tied, same_serial-is, get_lookup, all_weaker, all_both, all_append, all_filter, all_mapped, all_unmapped}
use Rattle.ee_desk_soundness.specs.Checks.{IsBefore, HaveRisingSerials, bonds_in, entry_of_bond}
use Rattle.ee_desk_soundness.specs.Inner.Checks.{PaysBond, IsOn, IsPaidBy, IsRightlyPaid, IsWhole, ArePaid}
use Rattle.ee_desk_soundness.specs.Marks.{bond_of, AreMarked}
use Rattle.ee_desk_soundness.specs.Inner.Marks.{is_marked}
use Rattle.ee_desk_soundness.proofs.Keys.{serial_laws, same_truth, found_all, found_passes, any_found, find_mapped, find_none_mapped, among_all, none_among, Apart, any_key, keys_among, each_found, apart_distinct, distinct_apart, all_left, all_right}

-- ---- rows
abbrev serial_of : Held → SerialNumber
serial_of held = held.bond.serial

abbrev Rises : List Held → Type 0
Rises rows = HaveRisingSerials (map bond_of rows)

abbrev row_at : List Held → SerialNumber → Option Held
row_at rows q = find (λ (held : Held). same_serial q held.bond.serial) rows

-- the serial numbers of the rows that name a ticket
abbrev marks : List Held → List SerialNumber
marks rows = map serial_of (filter is_marked rows)

abbrev names_ticket : Option Held → Bool
names_ticket o = option_map_or is_marked o false

others : (s : SerialNumber) (rows : List Held) → AllByRecursion (IsBefore s) (map (λ (bond : Bond). bond.serial) (map bond_of rows)) → AllByRecursion (λ (held : Held). same_serial s (serial_of held) ≡ false) rows
others s [] h = tt
others s (x ∷ rows) h = (sym (serials_tied s x.bond.serial) ∙ ap is_eq h.0, others s rows h.1)

rows_apart : (rows : List Held) → Rises rows → Apart serial_of rows
rows_apart [] r = tt
rows_apart (x ∷ rows) r = (others x.bond.serial rows r.0, rows_apart rows r.1)

marks_apart : (rows : List Held) → Apart serial_of rows → Apart serial_of (filter is_marked rows)
marks_apart [] r = tt
marks_apart (x ∷ rows) r = by_case (is_marked x) (marks_apart rows r.1)
  where
    by_case : (b : Bool) → Apart serial_of (filter is_marked rows) → Apart serial_of (cond b (x ∷ filter is_marked rows) (filter is_marked rows))
    by_case true e = (all_filter (λ (held : Held). same_serial x.bond.serial (serial_of held) ≡ false) is_marked rows r.0, e)
    by_case false e = e

no_mark : (s : SerialNumber) (rows : List Held) → AllByRecursion (λ (held : Held). same_serial s (serial_of held) ≡ false) rows → list_any (same_serial s) (marks rows) ≡ false
no_mark s [] h = refl
no_mark s (x ∷ rows) h = by_case (is_marked x) (no_mark s rows h.1)
  where
    by_case : (b : Bool) → list_any (same_serial s) (marks rows) ≡ false → list_any (same_serial s) (map serial_of (cond b (x ∷ filter is_marked rows) (filter is_marked rows))) ≡ false
    by_case true e = ap (λ (b : Bool). b || list_any (same_serial s) (marks rows)) h.0 ∙ e
    by_case false e = e

-- a serial number is among the marks if its row names a ticket
marks_at : (rows : List Held) → Apart serial_of rows → (q : SerialNumber) → list_any (same_serial q) (marks rows) ≡ names_ticket (row_at rows q)
marks_at [] r q = refl
marks_at (x ∷ rows) r q =
    by_case (same_serial q x.bond.serial) (is_marked x) refl refl
    (λ same. ap (λ (s : SerialNumber). list_any (same_serial s) (marks rows)) (same_serial-is q x.bond.serial same) ∙ no_mark x.bond.serial rows r.0) (marks_at rows r.1 q)
  where
    by_case : (d b : Bool) → same_serial q x.bond.serial ≡ d → is_marked x ≡ b → (d ≡ true → list_any (same_serial q) (marks rows) ≡ false)
        → list_any (same_serial q) (marks rows) ≡ names_ticket (row_at rows q)
        → list_any (same_serial q) (map serial_of (cond b (x ∷ filter is_marked rows) (filter is_marked rows))) ≡ names_ticket (cond d (Some x) (row_at rows q))
    by_case true true same mark none later = ap (λ (b : Bool). b || list_any (same_serial q) (marks rows)) same ∙ sym mark
    by_case true false same mark none later = none refl ∙ sym mark
    by_case false true same mark none later = ap (λ (b : Bool). b || list_any (same_serial q) (marks rows)) same ∙ later
    by_case false false same mark none later = later

how_many : (rows : List Held) → length (marks rows) ≡ count_by is_marked rows
how_many rows = length-map (filter is_marked rows) serial_of ∙ length-filter is_marked rows

-- the bond of a row is the registered one
bond_at : (rows : List Held) (q : SerialNumber) → finite.get (bonds_in (map bond_of rows)) q ≡ option_map bond_of (row_at rows q)
bond_at rows q = get_lookup serials_total (map entry_of_bond (map bond_of rows)) q ∙ same rows
  where
    by_case : (x : Held) (o : Option Bond) (p : Option Held) (a b : Bool) → a ≡ b → o ≡ option_map bond_of p → cond a (Some x.bond) o ≡ option_map bond_of (cond b (Some x) p)
    by_case x o p true true e is = refl
    by_case x o p false false e is = is
    by_case x o p true false e is = absurd (true≢false e)
    by_case x o p false true e is = absurd (true≢false (sym e))

    same : (rows : List Held) → lookup (is_at (serial_cmp q)) (map entry_of_bond (map bond_of rows)) ≡ option_map bond_of (row_at rows q)
    same [] = refl
    same (x ∷ rows) =
        by_case x (lookup (is_at (serial_cmp q)) (map entry_of_bond (map bond_of rows))) (row_at rows q) (is_at (serial_cmp q) x.bond.serial) (same_serial q x.bond.serial)
        (serials_tied q x.bond.serial) (same rows)

-- ---- lines, each with its ticket
abbrev Pair : Type 0
Pair = Ticket × Line

abbrev key : Pair → SerialNumber
key pair = pair.1.serial

abbrev pairs_of : Ticket → List Pair
pairs_of ticket = map (λ (line : Line). (ticket, line)) ticket.lines

abbrev pairs : List Ticket → List Pair
pairs tickets = flat_map pairs_of tickets

lines_of : (tickets : List Ticket) → map (λ (p : Pair). p.1) (pairs tickets) ≡ paid_lines tickets
lines_of [] = refl
lines_of (t ∷ tickets) = map-append (λ (p : Pair). p.1) (pairs_of t) (pairs tickets) ∙ (λ i. back t.lines i ++ lines_of tickets i)
  where
    back : (lines : List Line) → map (λ (p : Pair). p.1) (map (λ (line : Line). (t, line)) lines) ≡ lines
    back [] = refl
    back (l ∷ lines) = ap (λ ls. l ∷ ls) (back lines)

pairs_twice : (ps : List Pair) → Apart key ps → NoneTwice (map (λ (p : Pair). p.1) ps)
pairs_twice [] apart = tt
pairs_twice (p ∷ ps) apart = (all_mapped (λ (line : Line). same_serial p.1.serial line.serial ≡ false) (λ (p : Pair). p.1) ps apart.0, pairs_twice ps apart.1)

pairs_once : (ps : List Pair) → NoneTwice (map (λ (p : Pair). p.1) ps) → Apart key ps
pairs_once [] once = tt
pairs_once (p ∷ ps) once = (all_unmapped (λ (line : Line). same_serial p.1.serial line.serial ≡ false) (λ (p : Pair). p.1) ps once.0, pairs_once ps once.1)

-- what each line has with its ticket
module _ (P : Ticket → Line → Type 0) where
  all_pairs : (tickets : List Ticket) → AllByRecursion (λ (ticket : Ticket). AllByRecursion (P ticket) ticket.lines) tickets → AllByRecursion (λ (p : Pair). P p.0 p.1) (pairs tickets)
  all_pairs [] h = tt
  all_pairs (t ∷ tickets) h =
      all_append (λ (p : Pair). P p.0 p.1) (pairs_of t) (pairs tickets) (all_mapped (λ (p : Pair). P p.0 p.1) (λ (line : Line). (t, line)) t.lines h.0) (all_pairs tickets h.1)

  all_lines : (tickets : List Ticket) → AllByRecursion (λ (p : Pair). P p.0 p.1) (pairs tickets) → AllByRecursion (λ (ticket : Ticket). AllByRecursion (P ticket) ticket.lines) tickets
  all_lines [] h = tt
  all_lines (t ∷ tickets) h = (
    all_unmapped (λ (p : Pair). P p.0 p.1) (λ (line : Line). (t, line)) t.lines (all_left (λ (p : Pair). P p.0 p.1) (pairs_of t) (pairs tickets) h),
    all_lines tickets (all_right (λ (p : Pair). P p.0 p.1) (pairs_of t) (pairs tickets) h),
  )

abbrev pair_at : List Ticket → SerialNumber → Option Pair
pair_at tickets q = find (λ (p : Pair). same_serial q p.1.serial) (pairs tickets)

abbrev line_at : SerialNumber → Ticket → Option Line
line_at q ticket = find (λ (line : Line). same_serial q line.serial) ticket.lines

-- the first line of a serial number is on the first ticket that has one
pair_in : (t : Ticket) (tickets : List Ticket) (q : SerialNumber) → pair_at (t ∷ tickets) q ≡ option_or (option_map (λ (line : Line). (t, line)) (line_at q t)) (pair_at tickets q)
pair_in t tickets q =
    find-append (λ (p : Pair). same_serial q p.1.serial) (pairs_of t) (pairs tickets)
    ∙ ap (λ (o : Option Pair). option_or o (pair_at tickets q)) (by_case (line_at q t) refl)
  where
    by_case : (o : Option Line) → line_at q t ≡ o → find (λ (p : Pair). same_serial q p.1.serial) (pairs_of t) ≡ option_map (λ (line : Line). (t, line)) o
    by_case None e = find_none_mapped (λ (p : Pair). same_serial q p.1.serial) (λ (line : Line). (t, line)) t.lines e
    by_case (Some l) e = find_mapped (λ (p : Pair). same_serial q p.1.serial) (λ (line : Line). (t, line)) t.lines l e

number_at : (tickets : List Ticket) (q : SerialNumber) → ticket_of tickets q ≡ option_map (λ (p : Pair). p.0.ticket) (pair_at tickets q)
number_at [] q = refl
number_at (t ∷ tickets) q =
    by_case (line_at q t) (names q t) (any_found (λ (line : Line). same_serial q line.serial) t.lines) (number_at tickets q) ∙ sym (ap (option_map (λ (p : Pair). p.0.ticket)) (pair_in t tickets q))
  where
    by_case : (o : Option Line) (b : Bool) → b ≡ is_some o → ticket_of tickets q ≡ option_map (λ (p : Pair). p.0.ticket) (pair_at tickets q)
        → option_map (λ (ticket : Ticket). ticket.ticket) (cond b (Some t) (find (names q) tickets))
        ≡ option_map (λ (p : Pair). p.0.ticket) (option_or (option_map (λ (line : Line). (t, line)) o) (pair_at tickets q))
    by_case None false e later = later
    by_case (Some l) true e later = refl
    by_case None true e later = absurd (true≢false e)
    by_case (Some l) false e later = absurd (true≢false (sym e))

line_found : (tickets : List Ticket) (q : SerialNumber) (pair : Pair) → pair_at tickets q ≡ Some pair → line_at q pair.0 ≡ Some pair.1
line_found [] q pair e = absurd (cc)
line_found (t ∷ tickets) q pair e = by_case (line_at q t) refl (line_found tickets q pair) (sym (pair_in t tickets q) ∙ e)
  where
    by_case : (o : Option Line) → line_at q t ≡ o → (pair_at tickets q ≡ Some pair → line_at q pair.0 ≡ Some pair.1)
        → option_or (option_map (λ (line : Line). (t, line)) o) (pair_at tickets q) ≡ Some pair → line_at q pair.0 ≡ Some pair.1
    by_case None is later e = later e
    by_case (Some l) is later e = subst (λ (p : Pair). line_at q p.0 ≡ Some p.1) (same_Some (t, l) pair e) is

-- ---- numbers of tickets
above : (number k : ℕ) (tickets : List Ticket) → NumberedFrom k tickets → number < k → AllByRecursion (λ (ticket : Ticket). (number == ticket.ticket) ≡ false) tickets
above number k [] h below = tt
above number k (t ∷ tickets) h below =
    let is = h.0 in (
      false_from_ne_true (number == t.ticket) (λ e. let same : number ≡ t.ticket = eqb-true number t.ticket e in absurd (omega (arith, same, is, below))),
      above number (suc k) tickets h.1 (omega (arith, below)),
    )

-- each ticket is found by its number
numbers_found : (k : ℕ) (tickets : List Ticket) → NumberedFrom k tickets → AllByRecursion (λ (ticket : Ticket). find (λ (other : Ticket). other.ticket == ticket.ticket) tickets ≡ Some ticket) tickets
numbers_found k [] h = tt
numbers_found k (t ∷ tickets) h = (
  ap (λ (b : Bool). cond b (Some t) (find (λ (other : Ticket). other.ticket == t.ticket) tickets)) (eq-eqb t.ticket t.ticket refl),
  all_weaker (λ (u : Ticket). ((t.ticket == u.ticket) ≡ false) × (find (λ (other : Ticket). other.ticket == u.ticket) tickets ≡ Some u))
      (λ (u : Ticket). cond (t.ticket == u.ticket) (Some t) (find (λ (other : Ticket). other.ticket == u.ticket) tickets) ≡ Some u)
      (λ (u : Ticket) both. ap (λ (b : Bool). cond b (Some t) (find (λ (other : Ticket). other.ticket == u.ticket) tickets)) both.0 ∙ both.1) tickets
      (all_both (λ (u : Ticket). (t.ticket == u.ticket) ≡ false) (λ (u : Ticket). find (λ (other : Ticket). other.ticket == u.ticket) tickets ≡ Some u) tickets
      (above t.ticket (suc k) tickets h.1 (let is = h.0 in omega (arith, is))) (numbers_found (suc k) tickets h.1)),
)

-- ---- what a ticket's number and a bond lead to
abbrev Reached : FinMap nat_cmp Rates → Bond → ℕ → (Pair → Type 0) → Type 0
Reached rates bond number P = (pair : Pair) × P pair × (pair.0.ticket ≡ number) × (bond.serial ≡ pair.1.serial) × PaysBond rates bond pair.0 pair.1

reached : (rates : FinMap nat_cmp Rates) (tickets : List Ticket) (bond : Bond) (number : ℕ) (P : Pair → Type 0) → AllByRecursion P (pairs tickets)
    → IsPaidBy rates tickets bond number → Reached rates bond number P
reached rates tickets bond number P all paid = on_ticket (find (λ (ticket : Ticket). ticket.ticket == number) tickets) refl paid
  where
    on_line : (t : Ticket) → find (λ (ticket : Ticket). ticket.ticket == number) tickets ≡ Some t → (o : Option Line) → line_at bond.serial t ≡ o → IsSomeAnd o (PaysBond rates bond t) → Reached rates bond number P
    on_line t is None e h = absurd h
    on_line t is (Some l) e h = (
      (t, l),
      found_all (λ (line : Line). same_serial bond.serial line.serial) (λ (line : Line). P (t, line)) t.lines l
          (found_all (λ (ticket : Ticket). ticket.ticket == number) (λ (ticket : Ticket). AllByRecursion (λ (line : Line). P (ticket, line)) ticket.lines) tickets t (all_lines (λ (ticket : Ticket) (line : Line). P (ticket, line)) tickets all) is) e,
      eqb-true t.ticket number (found_passes (λ (ticket : Ticket). ticket.ticket == number) tickets t is),
      same_serial-is bond.serial l.serial (found_passes (λ (line : Line). same_serial bond.serial line.serial) t.lines l e),
      h,
    )

    on_ticket : (o : Option Ticket) → find (λ (ticket : Ticket). ticket.ticket == number) tickets ≡ o
        → IsSomeAnd o (IsOn rates bond) → Reached rates bond number P
    on_ticket None e h = absurd h
    on_ticket (Some t) e h = on_line t e (line_at bond.serial t) refl h

-- ---- rows that are paid
module _ (rates : FinMap nat_cmp Rates) (rows : List Held) (tickets : List Ticket) (rising : Rises rows) (paid : ArePaid rates rows tickets) where
  abbrev paid_keys : List SerialNumber
  paid_keys = map key (pairs tickets)

  as_long : length (marks rows) ≡ length paid_keys
  as_long =
      how_many rows ∙ paid.as_many ∙ ap length (sym (lines_of tickets)) ∙ length-map (pairs tickets) (λ (p : Pair). p.1) ∙ sym (length-map (pairs tickets) key)

  distinct_marks : IsDistinct same_serial (marks rows)
  distinct_marks = apart_distinct serial_of (filter is_marked rows) (marks_apart rows (rows_apart rows rising))

  on_lines : (rows : List Held) → AllByRecursion (IsRightlyPaid rates tickets) rows → AllByRecursion (λ (s : SerialNumber). list_any (same_serial s) paid_keys ≡ true) (marks rows)
  on_lines [] all = tt
  on_lines (x ∷ rows) all = by_case x.ticket all.0 (on_lines rows all.1)
    where
      by_case : (o : Option ℕ) → IfSome o (IsPaidBy rates tickets x.bond) → AllByRecursion (λ (s : SerialNumber). list_any (same_serial s) paid_keys ≡ true) (marks rows)
          → AllByRecursion (λ (s : SerialNumber). list_any (same_serial s) paid_keys ≡ true) (map serial_of (cond (is_some o) (x ∷ filter is_marked rows) (filter is_marked rows)))
      by_case None h later = later
      by_case (Some n) h later =
          let it = reached rates tickets x.bond n (λ (p : Pair). list_any (same_serial (key p)) paid_keys ≡ true) (keys_among key (pairs tickets)) h in
          (ap (λ (s : SerialNumber). list_any (same_serial s) paid_keys) it.3 ∙ it.1, later)

  -- a line pays a row that names a ticket: with one serial number more, the marks would be more than the lines
  covered : (q : SerialNumber) → list_any (same_serial q) paid_keys ≡ true → list_any (same_serial q) (marks rows) ≡ true
  covered q on = by_case (list_any (same_serial q) (marks rows)) refl
    where
      each : (s : SerialNumber) → (b : Bool) → same_serial s q ≡ b → (b || list_any (same_serial s) (marks rows)) ≡ true → list_any (same_serial s) paid_keys ≡ true
      each s true same h = ap (λ (s : SerialNumber). list_any (same_serial s) paid_keys) (same_serial-is s q same) ∙ on
      each s false same h = among_all (λ (s : SerialNumber). list_any (same_serial s) paid_keys ≡ true) (marks rows) s (on_lines rows paid.paid) h

      by_case : (b : Bool) → list_any (same_serial q) (marks rows) ≡ b → b ≡ true
      by_case true e = refl
      by_case false e =
          let long : length (q ∷ marks rows) ≤ length paid_keys =
          length-le_from_is_member serial_laws (q ∷ marks rows) paid_keys (IsDistinct-cons same_serial q (marks rows) (none_among (marks rows) q e) distinct_marks) (λ (s : SerialNumber). each s (same_serial s q) refl) in
          let same = as_long in absurd (omega (arith, long, same))

  alike : (q : SerialNumber) → list_any (same_serial q) (marks rows) ≡ list_any (same_serial q) paid_keys
  alike q =
      same_truth (list_any (same_serial q) (marks rows)) (list_any (same_serial q) paid_keys)
      (among_all (λ (s : SerialNumber). list_any (same_serial s) paid_keys ≡ true) (marks rows) q (on_lines rows paid.paid)) (covered q)

  pairs_apart : Apart key (pairs tickets)
  pairs_apart =
      distinct_apart key (pairs tickets)
      (IsDistinct-from_count serial_laws paid_keys (sym (length-from_keys serial_laws (marks rows) paid_keys distinct_marks alike) ∙ as_long))

  pairs_found : AllByRecursion (λ (p : Pair). pair_at tickets p.1.serial ≡ Some p) (pairs tickets)
  pairs_found = each_found key (pairs tickets) pairs_apart

  pub paid_once : NoneTwice (paid_lines tickets)
  paid_once = subst NoneTwice (lines_of tickets) (pairs_twice (pairs tickets) pairs_apart)

  -- a line pays the bond with its serial number
  right_pair : (pair : Pair) → list_any (same_serial (key pair)) paid_keys ≡ true → pair_at tickets (key pair) ≡ Some pair → IsRightLine rates (bonds_in (map bond_of rows)) pair.0 pair.1
  right_pair pair on found = by_row (row_at rows (key pair)) refl (sym (marks_at rows (rows_apart rows rising) (key pair)) ∙ covered (key pair) on)
    where
      by_number : (held : Held) → row_at rows (key pair) ≡ Some held → (o : Option ℕ) → IfSome o (IsPaidBy rates tickets held.bond) → is_some o ≡ true
          → IsRightLine rates (bonds_in (map bond_of rows)) pair.0 pair.1
      by_number held is None h e = absurd (true≢false (sym e))
      by_number held is (Some n) h e =
          let it = reached rates tickets held.bond n (λ (p : Pair). pair_at tickets (key p) ≡ Some p) pairs_found h in
          let serial = same_serial-is (key pair) held.bond.serial (found_passes (λ (held : Held). same_serial (key pair) held.bond.serial) rows held is) in
          let same : it.0 ≡ pair = same_Some it.0 pair (sym it.1 ∙ ap (pair_at tickets) (sym (serial ∙ it.3)) ∙ found) in
          let pays = subst (λ (p : Pair). PaysBond rates held.bond p.0 p.1) same it.4 in
          (held.bond, pays.0, bond_at rows (key pair) ∙ ap (option_map bond_of) is, pays.1, pays.2, pays.3, pays.4)

      by_row : (o : Option Held) → row_at rows (key pair) ≡ o → names_ticket o ≡ true → IsRightLine rates (bonds_in (map bond_of rows)) pair.0 pair.1
      by_row None is e = absurd (true≢false (sym e))
      by_row (Some held) is e = by_number held is held.ticket (found_all (λ (held : Held). same_serial (key pair) held.bond.serial) (IsRightlyPaid rates tickets) rows held paid.paid is) e

  right_lines : AllByRecursion (λ (ticket : Ticket). AllByRecursion (IsRightLine rates (bonds_in (map bond_of rows)) ticket) ticket.lines) tickets
  right_lines =
      all_lines (IsRightLine rates (bonds_in (map bond_of rows))) tickets
      (all_weaker (λ (p : Pair). (list_any (same_serial (key p)) paid_keys ≡ true) × (pair_at tickets (key p) ≡ Some p)) (λ (p : Pair). IsRightLine rates (bonds_in (map bond_of rows)) p.0 p.1)
      (λ (p : Pair) both. right_pair p both.0 both.1) (pairs tickets)
      (all_both (λ (p : Pair). list_any (same_serial (key p)) paid_keys ≡ true) (λ (p : Pair). pair_at tickets (key p) ≡ Some p) (pairs tickets) (keys_among key (pairs tickets)) pairs_found))

  pub right_tickets : AllByRecursion (IsRightTicket rates (bonds_in (map bond_of rows))) tickets
  right_tickets =
      all_weaker (λ (t : Ticket). IsWhole t × AllByRecursion (IsRightLine rates (bonds_in (map bond_of rows)) t) t.lines) (IsRightTicket rates (bonds_in (map bond_of rows)))
      (λ (t : Ticket) both. record { some = both.0.some; few = both.0.few; lines = both.1; total = both.0.total }) tickets
      (all_both IsWhole (λ (t : Ticket). AllByRecursion (IsRightLine rates (bonds_in (map bond_of rows)) t) t.lines) tickets paid.whole right_lines)

  -- each row names the ticket that pays its bond
  pub rows_marked : AreMarked tickets rows
  rows_marked =
      all_weaker (λ (held : Held). IsRightlyPaid rates tickets held × (row_at rows held.bond.serial ≡ Some held)) (λ (held : Held). held.ticket ≡ ticket_of tickets held.bond.serial)
      (λ (held : Held) both. by_number held held.ticket refl both.0 both.1) rows
      (all_both (IsRightlyPaid rates tickets) (λ (held : Held). row_at rows held.bond.serial ≡ Some held) rows paid.paid (each_found serial_of rows (rows_apart rows rising)))
    where
      nowhere : (q : SerialNumber) (o : Option Pair) → pair_at tickets q ≡ o → is_some o ≡ false → None ≡ ticket_of tickets q
      nowhere q None e h = sym (number_at tickets q ∙ ap (option_map (λ (p : Pair). p.0.ticket)) e)
      nowhere q (Some p) e h = absurd (true≢false h)

      by_number : (held : Held) (o : Option ℕ) → held.ticket ≡ o → IfSome o (IsPaidBy rates tickets held.bond) → row_at rows held.bond.serial ≡ Some held → o ≡ ticket_of tickets held.bond.serial
      by_number held None mark h is =
          nowhere held.bond.serial (pair_at tickets held.bond.serial) refl
          (sym (any_key key held.bond.serial (pairs tickets)) ∙ sym (alike held.bond.serial) ∙ marks_at rows (rows_apart rows rising) held.bond.serial ∙ ap names_ticket is ∙ ap is_some mark)
      by_number held (Some n) mark h is =
          let it = reached rates tickets held.bond n (λ (p : Pair). pair_at tickets (key p) ≡ Some p) pairs_found h in
          sym (number_at tickets held.bond.serial ∙ ap (λ (s : SerialNumber). option_map (λ (p : Pair). p.0.ticket) (pair_at tickets s)) it.3 ∙ ap (option_map (λ (p : Pair). p.0.ticket)) it.1 ∙ ap Some it.2)

-- ---- the other way round: the rows of sound books
module _ (rates : FinMap nat_cmp Rates) (rows : List Held) (tickets : List Ticket) (rising : Rises rows) (numbered : NumberedFrom 1 tickets)
    (right : AllByRecursion (IsRightTicket rates (bonds_in (map bond_of rows))) tickets) (once : NoneTwice (paid_lines tickets)) (marked : AreMarked tickets rows) where
  right_pairs : AllByRecursion (λ (p : Pair). IsRightLine rates (bonds_in (map bond_of rows)) p.0 p.1) (pairs tickets)
  right_pairs =
      all_pairs (IsRightLine rates (bonds_in (map bond_of rows))) tickets
      (all_weaker (IsRightTicket rates (bonds_in (map bond_of rows))) (λ (t : Ticket). AllByRecursion (IsRightLine rates (bonds_in (map bond_of rows)) t) t.lines) (λ (t : Ticket) h. h.lines) tickets right)

  numbered_pairs : AllByRecursion (λ (p : Pair). find (λ (other : Ticket). other.ticket == p.0.ticket) tickets ≡ Some p.0) (pairs tickets)
  numbered_pairs = all_pairs (λ (t : Ticket) (l : Line). find (λ (other : Ticket). other.ticket == t.ticket) tickets ≡ Some t) tickets (each tickets (numbers_found 1 tickets numbered))
    where
      on_each : (P : Type 0) (lines : List Line) → P → AllByRecursion (λ (l : Line). P) lines
      on_each P [] p = tt
      on_each P (l ∷ lines) p = (p, on_each P lines p)

      each : (ts : List Ticket) → AllByRecursion (λ (t : Ticket). find (λ (other : Ticket). other.ticket == t.ticket) tickets ≡ Some t) ts
          → AllByRecursion (λ (t : Ticket). AllByRecursion (λ (l : Line). find (λ (other : Ticket). other.ticket == t.ticket) tickets ≡ Some t) t.lines) ts
      each [] h = tt
      each (t ∷ ts) h = (on_each (find (λ (other : Ticket). other.ticket == t.ticket) tickets ≡ Some t) t.lines h.0, each ts h.1)

  -- the row that names a ticket is on a line of that ticket
  paid_row : (held : Held) → row_at rows held.bond.serial ≡ Some held → held.ticket ≡ ticket_of tickets held.bond.serial → IsRightlyPaid rates tickets held
  paid_row held is mark = by_pair (pair_at tickets held.bond.serial) refl held.ticket (mark ∙ number_at tickets held.bond.serial)
    where
      by_pair : (o : Option Pair) → pair_at tickets held.bond.serial ≡ o → (n : Option ℕ) → n ≡ option_map (λ (p : Pair). p.0.ticket) (pair_at tickets held.bond.serial) → IfSome n (IsPaidBy rates tickets held.bond)
      by_pair None e n at = subst (λ (n : Option ℕ). IfSome n (IsPaidBy rates tickets held.bond)) (sym (at ∙ ap (option_map (λ (p : Pair). p.0.ticket)) e)) tt
      by_pair (Some p) e n at =
          let own = found_all (λ (o : Pair). same_serial held.bond.serial o.1.serial) (λ (p : Pair). IsRightLine rates (bonds_in (map bond_of rows)) p.0 p.1) (pairs tickets) p right_pairs e in
          let number = found_all (λ (o : Pair). same_serial held.bond.serial o.1.serial) (λ (p : Pair). find (λ (other : Ticket). other.ticket == p.0.ticket) tickets ≡ Some p.0) (pairs tickets) p numbered_pairs e in
          let serial = same_serial-is held.bond.serial p.1.serial (found_passes (λ (o : Pair). same_serial held.bond.serial o.1.serial) (pairs tickets) p e) in
          let same : own.0 ≡ held.bond =
          same_Some own.0 held.bond (sym own.2 ∙ bond_at rows p.1.serial ∙ ap (λ (s : SerialNumber). option_map bond_of (row_at rows s)) (sym serial) ∙ ap (option_map bond_of) is) in
          let pays : PaysBond rates held.bond p.0 p.1 = subst (λ (bond : Bond). PaysBond rates bond p.0 p.1) same (own.1, own.3, own.4, own.5, own.6) in
          subst (λ (n : Option ℕ). IfSome n (IsPaidBy rates tickets held.bond)) (sym (at ∙ ap (option_map (λ (p : Pair). p.0.ticket)) e))
          (subst (λ (o : Option Ticket). IsSomeAnd o (IsOn rates held.bond)) (sym number)
          (subst (λ (o : Option Line). IsSomeAnd o (PaysBond rates held.bond p.0)) (sym (line_found tickets held.bond.serial p e)) pays))

  same_keys : (q : SerialNumber) → list_any (same_serial q) (marks rows) ≡ list_any (same_serial q) (map key (pairs tickets))
  same_keys q = marks_at rows (rows_apart rows rising) q ∙ by_row (row_at rows q) refl ∙ sym (any_key key q (pairs tickets))
    where
      nowhere : (o : Option Pair) → pair_at tickets q ≡ o → row_at rows q ≡ None → false ≡ is_some o
      nowhere None e is = refl
      nowhere (Some p) e is =
          let own = found_all (λ (o : Pair). same_serial q o.1.serial) (λ (p : Pair). IsRightLine rates (bonds_in (map bond_of rows)) p.0 p.1) (pairs tickets) p right_pairs e in
          let serial = same_serial-is q p.1.serial (found_passes (λ (o : Pair). same_serial q o.1.serial) (pairs tickets) p e) in
          let none : Some own.0 ≡ None = sym own.2 ∙ bond_at rows p.1.serial ∙ ap (λ (s : SerialNumber). option_map bond_of (row_at rows s)) (sym serial) ∙ ap (option_map bond_of) is in
          absurd (cc)

      some_mapped : (o : Option Pair) → is_some (option_map (λ (p : Pair). p.0.ticket) o) ≡ is_some o
      some_mapped None = refl
      some_mapped (Some p) = refl

      by_row : (o : Option Held) → row_at rows q ≡ o → names_ticket o ≡ is_some (pair_at tickets q)
      by_row None is = nowhere (pair_at tickets q) refl is
      by_row (Some held) is =
          let mark = found_all (λ (held : Held). same_serial q held.bond.serial) (λ (held : Held). held.ticket ≡ ticket_of tickets held.bond.serial) rows held marked is in
          let serial = same_serial-is q held.bond.serial (found_passes (λ (held : Held). same_serial q held.bond.serial) rows held is) in
          ap is_some (mark ∙ number_at tickets held.bond.serial) ∙ some_mapped (pair_at tickets held.bond.serial) ∙ ap (λ (s : SerialNumber). is_some (pair_at tickets s)) (sym serial)

  pub rows_paid : AllByRecursion (IsRightlyPaid rates tickets) rows
  rows_paid =
      all_weaker (λ (held : Held). (row_at rows held.bond.serial ≡ Some held) × (held.ticket ≡ ticket_of tickets held.bond.serial)) (IsRightlyPaid rates tickets)
      (λ (held : Held) both. paid_row held both.0 both.1) rows
      (all_both (λ (held : Held). row_at rows held.bond.serial ≡ Some held) (λ (held : Held). held.ticket ≡ ticket_of tickets held.bond.serial) rows (each_found serial_of rows (rows_apart rows rising)) marked)

  pub as_many : count_by is_marked rows ≡ length (paid_lines tickets)
  as_many =
      sym (how_many rows)
      ∙ length-from_same_keys serial_laws (marks rows) (map key (pairs tickets)) (apart_distinct serial_of (filter is_marked rows) (marks_apart rows (rows_apart rows rising)))
      (apart_distinct key (pairs tickets) (pairs_once (pairs tickets) (subst NoneTwice (sym (lines_of tickets)) once))) same_keys
      ∙ length-map (pairs tickets) key ∙ sym (length-map (pairs tickets) (λ (p : Pair). p.1)) ∙ ap length (lines_of tickets)
