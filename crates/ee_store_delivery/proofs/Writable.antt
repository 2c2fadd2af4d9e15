-- What an act changes can be written: its rows are new, and its amounts fit.
use Rattle.std.proofs.Common.{◌≡◌, ◌≢◌, ℕ, suc, ◌+◌, ◌<◌, ◌≤◌, eqb, true, false, cond, ◌&&◌, List, [], ◌∷◌, ◌++◌, map, length, length-append, arith, refl, sym, ap, ◌∙◌, subst, append-nil, true≢false, ltb-false, eq-eqb, Less, Equal, Greater}
use Rattle.std.specs.Prelude.{Bool, Option, Some, None, IfSome, ⊤, flat_map, nat_lt, is_none}
use Rattle.std.specs.Option.{option_map}
use Rattle.std.specs.List.{AllByRecursion}
use Rattle.std.specs.Ordering.{nat_cmp, eq_by_cmp, is_eq, ordering_then}
use Rattle.std.specs.declared.cmp.Ordering.{Ordering}
use Rattle.std.specs.Cmp.{nat_cmp_total, nat_cmp_is}
use Rattle.std.specs.FinMap as finite
use Rattle.std.specs.FinMap.{FinMap, entries, find, put, insert, get-insert, get-from_entries, entries-insert}
use Rattle.std.specs.FinMap.Entries.{by_order}
use Rattle.std.proofs.lemmas.Bool.{false_from_ne_true}
use Rattle.std.proofs.lemmas.List.{map-append, length-map}
use Rattle.std.proofs.lemmas.List.Elements.{All-from_recursion}
use Rattle.std.proofs.lemmas.List.Sums.{sum_by-le, length-filter, count_by-le-length}
use Rattle.std.proofs.lemmas.Map.Views.{tells_apart}
use Rattle.ee_units.specs.Spelling.{SerialNumber}
use Rattle.ee_units.specs.Calendar.{month_of_day}
use Rattle.ee_calculator.specs.declared.bonds.Bond.{Bond}
use Rattle.ee_value.specs.declared.rates.RateRow.{RateRow}
use Rattle.ee_desk_model.specs.declared.acts.Act.{Act}
use Rattle.ee_desk_model.specs.declared.acts.Act.TheVariants.{AddRates, AddBonds, OpenDay, Redeem, CloseDay}
use Rattle.ee_desk_model.specs.declared.refusals.Refusal.{Refusal}
use Rattle.ee_desk_model.specs.declared.refusals.Refusal.TheVariants.{Empty, TooMany}
use Rattle.ee_value.specs.Chain.{named_extension}
use Rattle.ee_desk_model.specs.declared.changes.Change.{Change}
use Rattle.ee_desk_model.specs.declared.changes.Change.TheVariants as change
use Rattle.ee_desk_model.specs.declared.changes.Effects.{Effects}
use Rattle.ee_desk_model.specs.declared.replies.Line.{Line}
use Rattle.ee_desk_model.specs.declared.replies.Ticket.{Ticket}
use Rattle.ee_desk_model.specs.declared.replies.Batch.{Batch}
use Rattle.ee_desk_model.specs.Serials.{serial_cmp, same_serial}
use Rattle.ee_desk_model.specs.PlainBooks.{PlainBooks, cents_of, batch_of}
use Rattle.ee_desk_model.specs.Seen.{Seen, shown, line_for, held_as}
use Rattle.ee_desk_model.specs.Refusals.{refusal_of, refusal_of_length, length_refusal, when, most_rows, most_serials}
use Rattle.ee_desk_model.specs.Effects.{new_rates, new_bonds, rate_change, unless_refused, effects_of}
use Rattle.ee_desk_model.specs.Acts.{changed, applied, books_after}
use Rattle.ee_desk_model.specs.Lists.{Rising}
use Rattle.ee_desk_model.specs.Paid.{paid_lines, NoneTwice}
use Rattle.ee_desk_model.specs.Ranges.{IsInRange}
use Rattle.ee_desk_model.specs.Repeats.{Content}
use Rattle.ee_desk_model.specs.Sound.{IsSound, IsDay, IsRightTicket, NumberedFrom, day_of_batch, open_days, last_of}
use Rattle.ee_desk_model.proofs.Lemmas.Books.{few_tickets, few_tickets_on, few_bonds_on, small_total_on, act_keeps_sound, applied_are_books_after, seen_enough, refused_by_length, none_from_cond, none_from_option_or, line_le, paid_lines_push}
use Rattle.ee_desk_model.proofs.Lemmas.Maps.{serials_total, all_weaker, all_append, all_mapped, rising_below, all_both}
use Rattle.ee_desk_decide.specs.Inner.Applicable.{IsRate, IsBond, AreApplicable}
use Rattle.ee_desk_decide.specs.Inner.NewRows.{bond_row as bond_row_of, AreNew}
use Rattle.ee_desk_decide.proofs.Lemmas.{decided_are_applicable}
use Rattle.ee_desk_texts.specs.Ranges.{ActFits}
use Rattle.ee_store_tables.specs.AsRows.{Fits}
use Rattle.ee_store_tables.specs.Keyed.{pair_cmp}
use Rattle.ee_store_tables.specs.Rows.{Rows, DeskRow, BondRow, PaidRow, day_set, marked_as, insert_new, with_bond, with_batch, with_ticket, with_paid, with_line, with_lines, IsUnpaid, CanPayAll, with_rate}
use Rattle.ee_store_tables.proofs.Lemmas.Rows.{pair_total, pair_same}
use Rattle.ee_store_rows.specs.Rows.{key_of, bond_row, ticket_row, paid_row, batch_row}
use Rattle.ee_store_books.specs.Standing.{rows_of, placed, IsRight}
use Rattle.ee_store_books.proofs.Lemmas.Contents.{get_bond_row, ticket_entry, ticket_lines, batch_entry, paid_entries}
use Rattle.ee_store_delivery.specs.Inner.Written.{with_named, changed_rows, applied_rows, CanPayTicket, CanClose, CanWriteAll, all_added_rows, new_entry}
use Rattle.ee_store_delivery.proofs.Delivered.{changes_fit}

-- ---- lists
all_front : {A : Type 0} (P : A → Type 0) (xs ys : List A) → AllByRecursion P (xs ++ ys) → AllByRecursion P xs
all_front P [] ys h = tt
all_front P (x ∷ xs) ys h = (h.0, all_front P xs ys h.1)

all_back : {A : Type 0} (P : A → Type 0) (xs ys : List A) → AllByRecursion P (xs ++ ys) → AllByRecursion P ys
all_back P [] ys h = h
all_back P (x ∷ xs) ys h = all_back P xs ys h.1

-- ---- maps
not_below : {X : Type 0} (k : ℕ) (es : List (ℕ × X)) → AllByRecursion (λ e. e.0 < k) es → find nat_cmp k es ≡ None
not_below k [] h = refl
not_below k (e ∷ es) h = ap (λ o. cond (is_eq o) (Some e.1) (find nat_cmp k es)) (sym (nat_cmp_is k e.0 Greater h.0)) ∙ not_below k es h.1

not_earlier : {X : Type 0} (n p : ℕ) (es : List ((ℕ × ℕ) × X)) → AllByRecursion (λ e. e.0.0 < n) es → find pair_cmp (n, p) es ≡ None
not_earlier n p [] h = refl
not_earlier n p (e ∷ es) h =
    ap (λ o. cond (is_eq (ordering_then o (nat_cmp p e.0.1))) (Some e.1) (find pair_cmp (n, p) es)) (sym (nat_cmp_is n e.0.0 Greater h.0))
    ∙ not_earlier n p es h.1

all_by_order : {K X : Type 0} (P : X → Type 0) (o : Ordering) (a b c : List (K × X))
    → AllByRecursion (λ e. P e.1) a → AllByRecursion (λ e. P e.1) b → AllByRecursion (λ e. P e.1) c → AllByRecursion (λ e. P e.1) (by_order o a b c)
all_by_order P Less a b c h k l = h
all_by_order P Equal a b c h k l = k
all_by_order P Greater a b c h k l = l

-- what each value has, each has with one more
all_put : {K X : Type 0} (R : K → K → Ordering) (P : X → Type 0) (k : K) (x : X) (es : List (K × X)) → P x → AllByRecursion (λ e. P e.1) es → AllByRecursion (λ e. P e.1) (put R k x es)
all_put R P k x [] here all = (here, tt)
all_put R P k x (e ∷ es) here all =
    all_by_order P (R k e.0) ((k, x) ∷ e ∷ es) ((e.0, x) ∷ es) (e ∷ put R k x es) (here, all) (here, all.1) (all.0, all_put R P k x es here all.1)

-- ---- lines that pay other bonds
abbrev PaysOther : ℕ × ℕ → PaidRow → Type 0
PaysOther k row = (row.letter, row.number) ≢ k

keys_apart : (a b : SerialNumber) → same_serial a b ≡ false → key_of a ≢ key_of b
keys_apart a b apart e =
    let same : same_serial a b ≡ true = λ i. eq-eqb a.letter b.letter (ap (λ k. k.0) e) i && eq-eqb a.number b.number (ap (λ k. k.1) e) i in
    true≢false (sym same ∙ apart)

none_twice_back : (xs ys : List Line) → NoneTwice (xs ++ ys) → NoneTwice ys
none_twice_back [] ys h = h
none_twice_back (x ∷ xs) ys h = none_twice_back xs ys h.1

nothing_earlier : (ys : List Line) → AllByRecursion (λ y. ⊤) ys
nothing_earlier [] = tt
nothing_earlier (y ∷ ys) = (tt, nothing_earlier ys)

-- the later lines pay other bonds than the earlier ones
others_later : (xs ys : List Line) → NoneTwice (xs ++ ys) → AllByRecursion (λ y. AllByRecursion (λ x. PaysOther (key_of y.serial) (paid_row x)) xs) ys
others_later [] ys h = nothing_earlier ys
others_later (x ∷ xs) ys h =
    all_both (λ y. PaysOther (key_of y.serial) (paid_row x)) (λ y. AllByRecursion (λ x. PaysOther (key_of y.serial) (paid_row x)) xs) ys
    (all_weaker _ _ (λ y apart. keys_apart x.serial y.serial apart) ys (all_back (λ y. same_serial x.serial y.serial ≡ false) xs ys h.0)) (others_later xs ys h.1)

placed_other : (k : ℕ × ℕ) (n place : ℕ) (lines : List Line) → AllByRecursion (λ line. PaysOther k (paid_row line)) lines → AllByRecursion (λ e. PaysOther k e.1) (placed n place lines)
placed_other k n place [] h = tt
placed_other k n place (line ∷ lines) h = (h.0, placed_other k n (place + 1) lines h.1)

rows_other : (k : ℕ × ℕ) (tickets : List Ticket) → AllByRecursion (λ line. PaysOther k (paid_row line)) (paid_lines tickets) → AllByRecursion (λ e. PaysOther k e.1) (flat_map ticket_lines tickets)
rows_other k [] h = tt
rows_other k (t ∷ tickets) h =
    all_append (λ e. PaysOther k e.1) (ticket_lines t) (flat_map ticket_lines tickets)
    (placed_other k t.ticket 1 t.lines (all_front (λ line. PaysOther k (paid_row line)) t.lines (paid_lines tickets) h))
    (rows_other k tickets (all_back (λ line. PaysOther k (paid_row line)) t.lines (paid_lines tickets) h))

-- ---- numbers of tickets
numbered_below : (n k : ℕ) (tickets : List Ticket) → NumberedFrom n tickets → n + length tickets ≤ k → AllByRecursion (λ t. t.ticket < k) tickets
numbered_below n k [] numbered far = tt
numbered_below n k (t ∷ tickets) numbered far = let is = numbered.0 in (omega (arith, is, far), numbered_below (suc n) k tickets numbered.1 (omega (arith, far)))

next_number : (n : ℕ) (tickets : List Ticket) (t : Ticket) → NumberedFrom n (tickets ++ t ∷ []) → t.ticket ≡ n + length tickets
next_number n [] t h = let is = h.0 in omega (arith, is)
next_number n (u ∷ tickets) t h = let rest = next_number (suc n) tickets t h.1 in omega (arith, rest)

placed_below : (n k place : ℕ) (lines : List Line) → n < k → AllByRecursion (λ e. e.0.0 < k) (placed n place lines)
placed_below n k place [] h = tt
placed_below n k place (line ∷ lines) h = (h, placed_below n k (place + 1) lines h)

rows_below : (k : ℕ) (tickets : List Ticket) → AllByRecursion (λ t. t.ticket < k) tickets → AllByRecursion (λ e. e.0.0 < k) (flat_map ticket_lines tickets)
rows_below k [] h = tt
rows_below k (t ∷ tickets) h =
    all_append (λ e. e.0.0 < k) (ticket_lines t) (flat_map ticket_lines tickets) (placed_below t.ticket k 1 t.lines h.0) (rows_below k tickets h.1)

-- ---- line after line
still_paid : (rows : Rows) (k : ℕ × ℕ) (t : ℕ) (bond : Option BondRow) → (marked_as rows k t bond).paid ≡ rows.paid
still_paid rows k t None = refl
still_paid rows k t (Some bond) = refl

paid_then : (rows : Rows) (n place : ℕ) (row : PaidRow) → (with_line rows n place row).paid ≡ insert rows.paid (n, place) row
paid_then rows n place row = still_paid (with_paid rows (n, place) row) (row.letter, row.number) n (finite.get rows.bonds (row.letter, row.number))

still_free : (rows : Rows) (n place p : ℕ) (row : PaidRow) → place < p → finite.get rows.paid (n, p) ≡ None → finite.get (with_line rows n place row).paid (n, p) ≡ None
still_free rows n place p row above none =
    let apart : eq_by_cmp pair_cmp (n, p) (n, place) ≡ false = false_from_ne_true (eq_by_cmp pair_cmp (n, p) (n, place)) (λ same.
    let is = ap (λ k. k.1) (tells_apart pair_same (n, p) (n, place) same) in absurd (omega (arith, is, above))) in
    ap (λ paid. finite.get paid (n, p)) (paid_then rows n place row)
    ∙ get-insert pair_total rows.paid (n, place) row (n, p)
    ∙ ap (λ b. cond b (Some row) (finite.get rows.paid (n, p))) apart ∙ none

still_unpaid : (rows : Rows) (n place : ℕ) (line : Line) (lines : List Line) → AllByRecursion (λ other. same_serial line.serial other.serial ≡ false) lines
    → AllByRecursion (λ other. IsUnpaid rows (key_of other.serial)) lines → AllByRecursion (λ other. IsUnpaid (with_line rows n place (paid_row line)) (key_of other.serial)) lines
still_unpaid rows n place line [] apart unpaid = tt
still_unpaid rows n place line (other ∷ lines) apart unpaid =
    let k = key_of other.serial in
    let row = paid_row line in (
      subst (λ (es : List ((ℕ × ℕ) × PaidRow)). AllByRecursion (λ e. PaysOther k e.1) es) (sym (ap entries (paid_then rows n place row) ∙ entries-insert pair_total rows.paid (n, place) row))
          (all_put pair_cmp (PaysOther k) (n, place) row (entries rows.paid) (keys_apart line.serial other.serial apart.0) unpaid.0),
      still_unpaid rows n place line lines apart.1 unpaid.1,
    )

can_pay : (rows : Rows) (n place : ℕ) (lines : List Line) → ((p : ℕ) → place ≤ p → finite.get rows.paid (n, p) ≡ None)
    → AllByRecursion (λ line. IsUnpaid rows (key_of line.serial)) lines → NoneTwice lines → CanPayAll rows n place (map paid_row lines)
can_pay rows n place [] free unpaid once = tt
can_pay rows n place (line ∷ lines) free unpaid once = (
  (free place (omega arith), unpaid.0),
  can_pay (with_line rows n place (paid_row line)) n (place + 1) lines
      (λ p above. still_free rows n place p (paid_row line) (omega (arith, above)) (free p (omega (arith, above))))
      (still_unpaid rows n place line lines once.0 unpaid.1) once.1,
)

-- ---- a ticket
ticket_fits : (S : Content) (t : Ticket) → NumberedFrom 1 S.books.tickets → IsSound (changed S.books (change.Ticket t)) → CanPayTicket (rows_of S) t
ticket_fits S t numbered sound =
    let tickets = S.books.tickets in
    let after = changed S.books (change.Ticket t) in
    let next = next_number 1 tickets t sound.numbered in
    let count = length-append tickets (t ∷ []) in
    let most = few_tickets after sound in
    let right = (all_back (IsRightTicket after.rates after.bonds) tickets (t ∷ []) sound.tickets).0 in
    let few = right.few in
    let small = all_weaker _ (λ line. cents_of line ≤ 304493600) (line_le after sound t) t.lines right.lines in
    let sum = sum_by-le cents_of 304493600 t.lines (All-from_recursion (λ line. cents_of line ≤ 304493600) t.lines small) in
    let total = right.total in
    let earlier = numbered_below 1 t.ticket tickets numbered (omega (arith, next)) in
    let once = subst NoneTwice (paid_lines_push tickets t) sound.once in
    record {
      number = omega (arith, next, count, most);
      total = omega (arith, total, sum, few);
      few = few;
      cents = all_weaker _ _ (λ line le. omega (arith, le)) t.lines small;
      new = get-from_entries nat_cmp_total (map ticket_entry tickets) t.ticket
          ∙ not_below t.ticket (map ticket_entry tickets) (all_mapped (λ e. e.0 < t.ticket) ticket_entry tickets earlier);
      unpaid = can_pay (with_ticket (rows_of S) t.ticket (ticket_row t)) t.ticket 1 t.lines
          (λ p _. get-from_entries pair_total (flat_map ticket_lines tickets) (t.ticket, p) ∙ not_earlier t.ticket p (flat_map ticket_lines tickets) (rows_below t.ticket tickets earlier))
          (all_weaker _ _ (λ line other. subst (λ (es : List ((ℕ × ℕ) × PaidRow)). AllByRecursion (λ e. PaysOther (key_of line.serial) e.1) es) (sym (paid_entries tickets numbered))
          (rows_other (key_of line.serial) tickets other)) t.lines (others_later (paid_lines tickets) t.lines once))
          (none_twice_back (paid_lines tickets) t.lines once);
    }

-- ---- a batch
batch_fits : (S : Content) (b : Batch) → IsSound (changed S.books (change.Batch b)) → CanClose (rows_of S) b
batch_fits S b sound =
    let after = changed S.books (change.Batch b) in
    let batches = S.books.batches in
    let is = (all_back (λ batch. batch ≡ batch_of batch.day after.tickets) batches (b ∷ []) sound.batches).0 in
    let days = append-nil (map day_of_batch (batches ++ b ∷ [])) ∙ map-append day_of_batch batches (b ∷ []) in
    let later = rising_below (map day_of_batch batches) b.day (subst Rising days sound.rising) in
    let tickets = ap (λ (batch : Batch). batch.tickets) is in
    let bonds = ap (λ (batch : Batch). batch.bonds) is in
    let total = ap (λ (batch : Batch). batch.total.0) is in
    let few = few_tickets_on after sound b.day in
    let few_bonds = few_bonds_on after sound b.day in
    let small = small_total_on after sound b.day in
    record {
      tickets = omega (arith, tickets, few);
      bonds = omega (arith, bonds, few_bonds);
      total = omega (arith, total, small);
      new = get-from_entries nat_cmp_total (map batch_entry batches) b.day ∙ not_below b.day (map batch_entry batches) (entries_below batches later);
    }
  where
    entries_below : (batches : List Batch) → AllByRecursion (λ d. d < b.day) (map day_of_batch batches) → AllByRecursion (λ e. e.0 < b.day) (map batch_entry batches)
    entries_below [] h = tt
    entries_below (batch ∷ batches) h = (h.0, entries_below batches h.1)

-- ---- days, rates and bonds
last_fits : (batches : List Batch) → AllByRecursion IsDay (map day_of_batch batches) → IfSome (last_of batches) Fits
last_fits [] h = tt
last_fits (b ∷ []) h = let high = h.0.1 in omega (arith, high)
last_fits (b ∷ c ∷ batches) h = last_fits (c ∷ batches) h.1

last_day_fits : (books : PlainBooks) → IsSound books → IfSome books.last_day Fits
last_day_fits books sound =
    subst (λ o. IfSome o Fits) (sym sound.last) (last_fits books.batches (all_front IsDay (map day_of_batch books.batches) (open_days books.day) sound.in_range))

rates_fit : (last : Option ℕ) (rows : Rows) (cs : List Change) → AllByRecursion IsRate cs → CanWriteAll last rows cs
rates_fit last rows [] h = tt
rates_fit last rows (change.Rates from rates ∷ cs) h = (tt, rates_fit last (changed_rows last rows (change.Rates from rates)) cs h.1)
rates_fit last rows (change.Bond bond ∷ cs) h = absurd h.0
rates_fit last rows (change.Day day ∷ cs) h = absurd h.0
rates_fit last rows (change.Ticket ticket ∷ cs) h = absurd h.0
rates_fit last rows (change.Batch batch ∷ cs) h = absurd h.0

-- a serial number that no bond has is in no row
abbrev FreeIn : Rows → FinMap serial_cmp Bond → Type 0
FreeIn rows bonds = (s : SerialNumber) → finite.get bonds s ≡ None → finite.get rows.bonds (key_of s) ≡ None

free_of : (S : Content) → FreeIn (rows_of S) S.books.bonds
free_of S s none = get_bond_row S.books.bonds S.books.tickets s ∙ ap (option_map (λ bond. bond_row (held_as S.books.tickets s bond))) none

not_same : {X : Type 0} (b : Bool) (x : X) (o : Option X) → cond b (Some x) o ≡ None → (b ≡ false) × (o ≡ None)
not_same true x o h = absurd (cc)
not_same false x o h = (refl, h)

free_then : (rows : Rows) (bonds : FinMap serial_cmp Bond) (bond : Bond) → FreeIn rows bonds → finite.get bonds bond.serial ≡ None
    → FreeIn (with_bond rows (new_entry bond)) (insert bonds bond.serial bond)
free_then rows bonds bond free none s later =
    let k = key_of bond.serial in
    let row = (new_entry bond).1 in
    let two = not_same (eq_by_cmp serial_cmp s bond.serial) bond (finite.get bonds s) (sym (get-insert serials_total bonds bond.serial bond s) ∙ later) in
    ap (λ o. finite.get (insert_new rows.bonds k row o) (key_of s)) (free bond.serial none)
    ∙ get-insert pair_total rows.bonds k row (key_of s)
    ∙ ap (λ b. cond b (Some row) (finite.get rows.bonds (key_of s))) two.0 ∙ free s two.1

bonds_fit : (last : Option ℕ) (rows : Rows) (bonds : FinMap serial_cmp Bond) (cs : List Change) → FreeIn rows bonds → AllByRecursion IsBond cs → AreNew bond_row_of bonds cs → CanWriteAll last rows cs
bonds_fit last rows bonds [] free h new = tt
bonds_fit last rows bonds (change.Bond bond ∷ cs) free h new =
    (free bond.serial new.0, bonds_fit last (changed_rows last rows (change.Bond bond)) (insert bonds bond.serial bond) cs (free_then rows bonds bond free new.0) h.1 new.1)
bonds_fit last rows bonds (change.Rates from rates ∷ cs) free h new = absurd h.0
bonds_fit last rows bonds (change.Day day ∷ cs) free h new = absurd h.0
bonds_fit last rows bonds (change.Ticket ticket ∷ cs) free h new = absurd h.0
bonds_fit last rows bonds (change.Batch batch ∷ cs) free h new = absurd h.0

-- changes that leave sound books can be written
pub changes_fit_rows : (S : Content) (cs : List Change) → IsRight S → IsSound (applied S.books cs) → AreApplicable S.books cs → CanWriteAll S.books.last_day (rows_of S) cs
changes_fit_rows S [] right after fits = tt
changes_fit_rows S (change.Rates from rates ∷ cs) right after fits = (tt, rates_fit S.books.last_day _ cs fits.0)
changes_fit_rows S (change.Bond bond ∷ cs) right after fits = bonds_fit S.books.last_day (rows_of S) S.books.bonds (change.Bond bond ∷ cs) (free_of S) (tt, fits.0) fits.1
changes_fit_rows S (change.Day day ∷ []) right after fits = (last_day_fits S.books right.sound, tt)
changes_fit_rows S (change.Day day ∷ c ∷ cs) right after fits = absurd (cc)
changes_fit_rows S (change.Ticket ticket ∷ []) right after fits = (ticket_fits S ticket right.sound.numbered after, tt)
changes_fit_rows S (change.Ticket ticket ∷ c ∷ cs) right after fits = absurd (cc)
changes_fit_rows S (change.Batch batch ∷ []) right after fits = (batch_fits S batch after, tt)
changes_fit_rows S (change.Batch batch ∷ c ∷ cs) right after fits = absurd (cc)

-- ---- an act
-- the day that was closed last matters only if something is changed
same_day : (last day : Option ℕ) (rows : Rows) (cs : List Change) → (cs ≢ [] → last ≡ day) → CanWriteAll day rows cs → CanWriteAll last rows cs
same_day last day rows [] is h = tt
same_day last day rows (c ∷ cs) is h = subst (λ d. CanWriteAll d rows (c ∷ cs)) (sym (is (λ none. absurd (cc)))) h

pub can_write : (S : Content) (asked : Act) (effects : Effects) (last : Option ℕ) → IsRight S → ActFits asked → effects ≡ effects_of (shown S.books) asked
    → (effects.changes ≢ [] → last ≡ S.books.last_day) → CanWriteAll last (rows_of S) effects.changes
can_write S asked effects last right given are day =
    let fits = subst (λ (e : Effects). AllByRecursion IsInRange e.changes) (sym are) (changes_fit (shown S.books) asked given) in
    let decided = are ∙ sym (seen_enough S.books asked) in
    let books : applied S.books effects.changes ≡ books_after S.books asked = ap (λ (e : Effects). applied S.books e.changes) decided ∙ applied_are_books_after S.books asked in
    let sound = subst IsSound (sym books) (act_keeps_sound S.books asked right.sound (changes_fit (shown S.books) asked given)) in
    same_day last S.books.last_day (rows_of S) effects.changes day
    (changes_fit_rows S effects.changes right sound (decided_are_applicable S.books effects right.sound fits (asked, decided)))

-- ---- how many rows are added
bonds_added : (bonds : List Bond) → all_added_rows (map change.Bond bonds) ≡ length bonds
bonds_added [] = refl
bonds_added (bond ∷ bonds) = let rest = bonds_added bonds in omega (arith, rest)

rates_added : (rows : List RateRow) → all_added_rows (map rate_change rows) ≡ 0
rates_added [] = refl
rates_added (row ∷ rows) = let rest = rates_added rows in omega (arith, rest)

-- a list that its length doesn't refuse is short
few_asked : (most count : ℕ) → refusal_of_length most count ≡ None → count ≤ most
few_asked most count h =
    ltb-false most count (none_from_cond (nat_lt most count) TooMany None (none_from_option_or (when (eqb count 0) Empty) (when (nat_lt most count) TooMany) h).1).0

few_unless : (seen : Seen) (asked : Act) (refused : Option Refusal) → length_refusal asked ≡ None → all_added_rows (unless_refused seen asked refused).changes ≤ 500
few_unless seen asked (Some refusal) h = omega arith
few_unless seen (AddRates rows) None h = let none = rates_added (new_rates seen [] rows) in omega (arith, none)
few_unless seen (AddBonds bonds) None h =
    let few = few_asked most_rows (length bonds) h in
    let all = bonds_added (new_bonds seen bonds) in
    let count = length-filter (λ (bond : Bond). is_none (seen.held bond.serial)) bonds in
    let le = count_by-le-length (λ (bond : Bond). is_none (seen.held bond.serial)) bonds in
    omega (arith, few, all, count, le)
few_unless seen (OpenDay day) None h = omega arith
few_unless seen (Redeem day payee serials) None h =
    let few = few_asked most_serials (length serials) h in
    let all = length-map serials (line_for seen (month_of_day day)) in
    omega (arith, few, all)
few_unless seen (CloseDay day) None h = omega arith

pub few_rows : (seen : Seen) (asked : Act) → all_added_rows (effects_of seen asked).changes ≤ 500
few_rows seen asked = by_case (length_refusal asked) refl
  where
    by_case : (o : Option Refusal) → length_refusal asked ≡ o → all_added_rows (effects_of seen asked).changes ≤ 500
    by_case None is = few_unless seen asked (refusal_of seen asked) is
    by_case (Some refusal) is = subst (λ (e : Effects). all_added_rows e.changes ≤ 500) (sym (refused_by_length seen asked refusal is)) (omega arith)

-- ---- the kept replies stay
day_stays : (rows : Rows) (day last : Option ℕ) (desk : Option DeskRow) → (day_set rows day last desk).answers ≡ rows.answers
day_stays rows day last None = refl
day_stays rows day last (Some desk) = refl

mark_stays : (rows : Rows) (k : ℕ × ℕ) (t : ℕ) (bond : Option BondRow) → (marked_as rows k t bond).answers ≡ rows.answers
mark_stays rows k t None = refl
mark_stays rows k t (Some bond) = refl

lines_stay : (rows : Rows) (n place : ℕ) (lines : List PaidRow) → (with_lines rows n place lines).answers ≡ rows.answers
lines_stay rows n place [] = refl
lines_stay rows n place (line ∷ lines) =
    lines_stay (with_line rows n place line) n (place + 1) lines
    ∙ mark_stays (with_paid rows (n, place) line) (line.letter, line.number) n (finite.get rows.bonds (line.letter, line.number))

named_stays : (rows : Rows) (from : ℕ) (extension : Option ℕ) → (with_named rows from extension).answers ≡ rows.answers
named_stays rows from None = refl
named_stays rows from (Some extension) = refl

change_stays : (last : Option ℕ) (rows : Rows) (c : Change) → (changed_rows last rows c).answers ≡ rows.answers
change_stays last rows (change.Rates from rates) = named_stays (with_rate rows (from, rates.fixed)) from (named_extension rates)
change_stays last rows (change.Bond bond) = refl
change_stays last rows (change.Day day) = day_stays rows (Some day) last (finite.get rows.desk 1)
change_stays last rows (change.Ticket ticket) = lines_stay (with_ticket rows ticket.ticket (ticket_row ticket)) ticket.ticket 1 (map paid_row ticket.lines)
change_stays last rows (change.Batch batch) = day_stays (with_batch rows batch.day (batch_row batch)) None (Some batch.day) (finite.get rows.desk 1)

pub answers_stay : (last : Option ℕ) (rows : Rows) (cs : List Change) → (applied_rows last rows cs).answers ≡ rows.answers
answers_stay last rows [] = refl
answers_stay last rows (c ∷ cs) = answers_stay last (changed_rows last rows c) cs ∙ change_stays last rows c
