-- Parts that pass the checks are those of sound books, and the other way round.
use Rattle.std.proofs.Common.{◌≡◌, ◌==◌, ℕ, ◌*◌, ◌<◌, ◌≤◌, Bool, true, false, cond, ◌||◌, List, [], ◌∷◌, ◌++◌, map, length, Option, Some, None, arith, refl, sym, ap, ◌∙◌, subst}
use Rattle.std.specs.Option.{option_and_then, unwrap_or, IfSome}
use Rattle.std.specs.List.{AllByRecursion, list_any, sum_by}
use Rattle.std.specs.FinMap as finite
use Rattle.std.specs.FinMap.{FinMap, nat_cmp-IsAntisymmetric}
use Rattle.std.specs.Ordering.{nat_cmp}
use Rattle.std.specs.Cmp.{nat_cmp_total}
use Rattle.std.specs.declared.cmp.Ordering.TheVariants.{Less}
use Rattle.std.proofs.lemmas.Bool.{eq-eqb}
use Rattle.std.proofs.lemmas.List.Sums.{sum_by-cons}
use Rattle.ee_units.specs.Spelling.{SerialNumber}
use Rattle.ee_units.specs.Calendar.{month_of_day, period_start}
use Rattle.ee_value.specs.declared.rates.Rates.{Rates}
use Rattle.ee_value.specs.declared.rates.RateRow.{RateRow}
use Rattle.ee_calculator.specs.declared.bonds.Bond.{Bond}
use Rattle.ee_desk_model.specs.declared.changes.Held.{Held}
use Rattle.ee_desk_model.specs.declared.replies.Line.{Line}
use Rattle.ee_desk_model.specs.declared.replies.Ticket.{Ticket}
use Rattle.ee_desk_model.specs.declared.replies.Batch.{Batch}
use Rattle.ee_desk_model.specs.Serials.{serial_cmp}
use Rattle.ee_desk_model.specs.Lists.{Rising, NeverFalling}
use Rattle.ee_desk_model.specs.PlainBooks.{PlainBooks, batch_of, batch_so_far, cents_of}
use Rattle.ee_desk_model.specs.Sound.{IsSound, IsDay, IsRightRate, IsRightBond, IsRightLine, IsRightTicket, day_of, day_of_batch, days}
use Rattle.ee_desk_model.proofs.Lemmas.Maps.{serials_total, serials_exact, all_weaker}
use Rattle.ee_desk_model.proofs.Lemmas.Books.{value_le, sound_keyed}
use Rattle.ee_desk_decide.specs.declared.views.DayCounts.{DayCounts}
use Rattle.ee_desk_soundness.specs.Parts.{Parts, parts_of, row_of_entry, AreUnsound}
use Rattle.ee_desk_soundness.specs.Checks.{InOrder, IsBefore, HaveRisingMonths, HaveRisingSerials, entry_of_row, entry_of_bond, rates_in, bonds_in, books_of, AreSound, parts_in}
use Rattle.ee_desk_soundness.specs.Inner.Checks.{IsRightRow, IsRightOwn, IsRegister, IsWhole, ArePaid, AreClosed}
use Rattle.ee_desk_soundness.specs.Marks.{bond_of, AreMarked}
use Rattle.ee_desk_soundness.proofs.PaidRows.{right_tickets, paid_once, rows_paid, as_many}
use Rattle.ee_desk_soundness.specs.Days.{counts_in}
use Rattle.ee_desk_soundness.specs.Inner.Days.{days_of, counts_at, counts_on, no_counts, AreCounted, IsCounted, IsSmall}
use Rattle.ee_desk_soundness.proofs.InOrder.{in_order_map}
use Rattle.ee_desk_soundness.proofs.Entries.{less_is}
use Rattle.ee_desk_decide.proofs.Lemmas.{all_entries}
use Rattle.ee_desk_soundness.proofs.SortedRows.{entries_rise, entries_are, map_of_entries, all_rows, get_all, less_below}

-- ---- lists of keys
keys_of_rows : (rows : List RateRow) → map (λ (e : ℕ × Rates). e.0) (map entry_of_row rows) ≡ map (λ (r : RateRow). r.from) rows
keys_of_rows [] = refl
keys_of_rows (r ∷ rows) = ap (λ ks. r.from ∷ ks) (keys_of_rows rows)

keys_of_bonds : (bonds : List Bond) → map (λ (e : SerialNumber × Bond). e.0) (map entry_of_bond bonds) ≡ map (λ (b : Bond). b.serial) bonds
keys_of_bonds [] = refl
keys_of_bonds (b ∷ bonds) = ap (λ ks. b.serial ∷ ks) (keys_of_bonds bonds)

rows_back : (rows : List RateRow) → map row_of_entry (map entry_of_row rows) ≡ rows
rows_back [] = refl
rows_back (r ∷ rows) = ap (λ rs. r ∷ rs) (rows_back rows)

entries_back : (es : List (ℕ × Rates)) → map entry_of_row (map row_of_entry es) ≡ es
entries_back [] = refl
entries_back (e ∷ es) = ap (λ fs. e ∷ fs) (entries_back es)

froms_back : (es : List (ℕ × Rates)) → map (λ (r : RateRow). r.from) (map row_of_entry es) ≡ map (λ (e : ℕ × Rates). e.0) es
froms_back [] = refl
froms_back (e ∷ es) = ap (λ ks. e.0 ∷ ks) (froms_back es)

bonds_back : (bonds : List Bond) → map (λ (e : SerialNumber × Bond). e.1) (map entry_of_bond bonds) ≡ bonds
bonds_back [] = refl
bonds_back (b ∷ bonds) = ap (λ bs. b ∷ bs) (bonds_back bonds)

abbrev AreKeyedEntries : List (SerialNumber × Bond) → Type 0
AreKeyedEntries es = AllByRecursion (λ (e : SerialNumber × Bond). e.1.serial ≡ e.0) es

keyed_back : (es : List (SerialNumber × Bond)) → AreKeyedEntries es → map entry_of_bond (map (λ (e : SerialNumber × Bond). e.1) es) ≡ es
keyed_back [] h = refl
keyed_back (e ∷ es) h = λ i. (h.0 i, e.1) ∷ keyed_back es h.1 i

serials_back : (es : List (SerialNumber × Bond)) → AreKeyedEntries es → map (λ (b : Bond). b.serial) (map (λ (e : SerialNumber × Bond). e.1) es) ≡ map (λ (e : SerialNumber × Bond). e.0) es
serials_back [] h = refl
serials_back (e ∷ es) h = λ i. h.0 i ∷ serials_back es h.1 i

abbrev IsLess : ℕ → ℕ → Type 0
IsLess a b = nat_cmp a b ≡ Less

rows_rise : (rows : List RateRow) → HaveRisingMonths rows → InOrder IsLess (map (λ (e : ℕ × Rates). e.0) (map entry_of_row rows))
rows_rise rows h = subst (InOrder IsLess) (sym (keys_of_rows rows)) (in_order_map ◌<◌ IsLess less_is (map (λ (r : RateRow). r.from) rows) h)

bonds_rise : (bonds : List Bond) → HaveRisingSerials bonds → InOrder IsBefore (map (λ (e : SerialNumber × Bond). e.0) (map entry_of_bond bonds))
bonds_rise bonds h = subst (InOrder IsBefore) (sym (keys_of_bonds bonds)) h

-- ---- books and their parts
-- parts whose keys rise are those of the books that they represent
pub parts_kept : (parts : Parts) → HaveRisingMonths parts.rates → HaveRisingSerials parts.bonds → parts_of (books_of parts) ≡ parts
parts_kept parts months serials = λ i. record {
  rates = (ap (map row_of_entry) (entries_are nat_cmp nat_cmp_total nat_cmp-IsAntisymmetric (map entry_of_row parts.rates) (rows_rise parts.rates months)) ∙ rows_back parts.rates) i;
  bonds = (ap (map (λ (e : SerialNumber × Bond). e.1)) (entries_are serial_cmp serials_total serials_exact (map entry_of_bond parts.bonds) (bonds_rise parts.bonds serials)) ∙ bonds_back parts.bonds) i;
  day = parts.day;
  last_day = parts.last_day;
  tickets = parts.tickets;
  batches = parts.batches;
}

module _ (books : PlainBooks) (sound : IsSound books) where
  keyed : AreKeyedEntries (finite.entries books.bonds)
  keyed = all_entries serials_total serials_exact (λ serial bond. bond.serial ≡ serial) books.bonds (sound_keyed books sound)

  -- sound books are those that their parts represent
  pub books_kept : books ≡ books_of (parts_of books)
  books_kept = λ i. record {
    rates = sym (ap finite.from_entries (entries_back (finite.entries books.rates)) ∙ map_of_entries nat_cmp nat_cmp_total nat_cmp-IsAntisymmetric books.rates) i;
    bonds = sym (ap finite.from_entries (keyed_back (finite.entries books.bonds) keyed) ∙ map_of_entries serial_cmp serials_total serials_exact books.bonds) i;
    day = books.day;
    last_day = books.last_day;
    tickets = books.tickets;
    batches = books.batches;
  }

  months_of : HaveRisingMonths (parts_of books).rates
  months_of = subst (InOrder ◌<◌) (sym (froms_back (finite.entries books.rates))) (in_order_map IsLess ◌<◌ less_below (map (λ (e : ℕ × Rates). e.0) (finite.entries books.rates)) (entries_rise nat_cmp books.rates))

  serials_of : HaveRisingSerials (parts_of books).bonds
  serials_of = subst (InOrder IsBefore) (sym (serials_back (finite.entries books.bonds) keyed)) (entries_rise serial_cmp books.bonds)

  pub sound_parts : AreSound (parts_of books)
  sound_parts = record { months = months_of; serials = serials_of; books = subst IsSound books_kept sound }

-- if parts aren't sound, no sound books have them
pub unsound : (parts : Parts) → (AreSound parts → ⊥) → AreUnsound parts
unsound parts never books sound is = never (subst AreSound is (sound_parts books sound))

-- nothing of sound books is lost in their parts
pub parts_tell : (one other : PlainBooks) → IsSound one → IsSound other → parts_of one ≡ parts_of other → one ≡ other
parts_tell one other first second is = books_kept one first ∙ ap books_of is ∙ sym (books_kept other second)

-- ---- what is registered
rate_rows : (rows : List RateRow) → AllByRecursion IsRightRow rows → AllByRecursion (λ (e : ℕ × Rates). IsRightRate e.0 e.1) (map entry_of_row rows)
rate_rows [] h = tt
rate_rows (r ∷ rows) h = (h.0, rate_rows rows h.1)

row_rates : (rows : List RateRow) → AllByRecursion (λ (e : ℕ × Rates). IsRightRate e.0 e.1) (map entry_of_row rows) → AllByRecursion IsRightRow rows
row_rates [] h = tt
row_rates (r ∷ rows) h = (h.0, row_rates rows h.1)

bond_rows : (rates : FinMap nat_cmp Rates) (bonds : List Bond) → AllByRecursion (IsRightOwn rates) bonds → AllByRecursion (λ (e : SerialNumber × Bond). IsRightBond rates e.0 e.1) (map entry_of_bond bonds)
bond_rows rates [] h = tt
bond_rows rates (b ∷ bonds) h = (h.0, bond_rows rates bonds h.1)

row_bonds : (rates : FinMap nat_cmp Rates) (bonds : List Bond) → AllByRecursion (λ (e : SerialNumber × Bond). IsRightBond rates e.0 e.1) (map entry_of_bond bonds) → AllByRecursion (IsRightOwn rates) bonds
row_bonds rates [] h = tt
row_bonds rates (b ∷ bonds) h = (h.0, row_bonds rates bonds h.1)

pub rates_right : (rows : List RateRow) → AllByRecursion IsRightRow rows → (month : ℕ) → IfSome (finite.get (rates_in rows) month) (IsRightRate month)
rates_right rows h = get_all nat_cmp_total nat_cmp-IsAntisymmetric IsRightRate (map entry_of_row rows) (rate_rows rows h)

bonds_right : (rates : FinMap nat_cmp Rates) (bonds : List Bond) → AllByRecursion (IsRightOwn rates) bonds → (serial : SerialNumber) → IfSome (finite.get (bonds_in bonds) serial) (IsRightBond rates serial)
bonds_right rates bonds h = get_all serials_total serials_exact (IsRightBond rates) (map entry_of_bond bonds) (bond_rows rates bonds h)

-- ---- order
never_falls : (ks : List ℕ) → InOrder ◌≤◌ ks → NeverFalling ks
never_falls [] h = tt
never_falls (k ∷ ks) h = (h.0, never_falls ks h.1)

falls_never : (ks : List ℕ) → NeverFalling ks → InOrder ◌≤◌ ks
falls_never [] h = tt
falls_never (k ∷ ks) h = (h.0, falls_never ks h.1)

rises : (ks : List ℕ) → InOrder ◌<◌ ks → Rising ks
rises [] h = tt
rises (k ∷ ks) h = (h.0, rises ks h.1)

rising_is : (ks : List ℕ) → Rising ks → InOrder ◌<◌ ks
rising_is [] h = tt
rising_is (k ∷ ks) h = (h.0, rising_is ks h.1)

-- ---- all together
module _ (rates : List RateRow) (rows : List Held) (day last : Option ℕ) (tickets : List Ticket) (batches : List Batch) where
  abbrev pub made_parts : Parts
  made_parts = parts_in rates (map bond_of rows) day last tickets batches

  pub passed : IsRegister rates (map bond_of rows) → ArePaid (rates_in rates) rows tickets → AreClosed tickets batches day last → AllByRecursion IsDay (days_of batches day) → AreSound made_parts
  passed register paid closed range = record {
    months = register.months;
    serials = register.serials;
    books = record {
      rates = rates_right rates register.right;
      bonds = bonds_right (rates_in rates) (map bond_of rows) register.owned;
      numbered = paid.numbered;
      tickets = right_tickets (rates_in rates) rows tickets register.serials paid;
      once = paid_once (rates_in rates) rows tickets register.serials paid;
      in_order = never_falls (map day_of tickets) paid.in_order;
      few = closed.right.fit.1;
      dated = closed.right.fit.0;
      rising = rises (days_of batches day) closed.rising;
      in_range = range;
      last = closed.latest;
      batches = closed.right.batches;
    };
  }

  pub paid_is : AreSound made_parts → AreMarked tickets rows → ArePaid (rates_in rates) rows tickets
  paid_is sound marked = record {
    numbered = sound.books.numbered;
    in_order = falls_never (map day_of tickets) sound.books.in_order;
    whole = all_weaker (IsRightTicket (rates_in rates) (bonds_in (map bond_of rows))) IsWhole (λ t h. record { some = h.some; few = h.few; total = h.total }) tickets sound.books.tickets;
    paid = rows_paid (rates_in rates) rows tickets sound.serials sound.books.numbered sound.books.tickets sound.books.once marked;
    as_many = as_many (rates_in rates) rows tickets sound.serials sound.books.numbered sound.books.tickets sound.books.once marked;
  }

module _ (parts : Parts) (sound : AreSound parts) where
  pub register_is : IsRegister parts.rates parts.bonds
  register_is = record {
    months = sound.months;
    serials = sound.serials;
    right = row_rates parts.rates (all_rows nat_cmp_total nat_cmp-IsAntisymmetric IsRightRate (map entry_of_row parts.rates) (rows_rise parts.rates sound.months) sound.books.rates);
    owned = row_bonds (rates_in parts.rates) parts.bonds (all_rows serials_total serials_exact (IsRightBond (rates_in parts.rates)) (map entry_of_bond parts.bonds) (bonds_rise parts.bonds sound.serials) sound.books.bonds);
  }

  pub closed_is : AreClosed parts.tickets parts.batches parts.day parts.last_day
  closed_is = record {
    rising = rising_is (days_of parts.batches parts.day) sound.books.rising;
    latest = sound.books.last;
    right = record { fit = (sound.books.dated, sound.books.few); batches = sound.books.batches };
  }

-- ---- small tickets
module _ (rates : FinMap nat_cmp Rates) (bonds : FinMap serial_cmp Bond) (right : (month : ℕ) → IfSome (finite.get rates month) (IsRightRate month)) where
  line_le : (ticket : Ticket) (line : Line) → IsRightLine rates bonds ticket line → cents_of line ≤ 304493600
  line_le ticket line h =
      let known = subst (λ o. IfSome o (IsRightRate (period_start h.0.issued))) h.3 (right (period_start h.0.issued)) in
      let le = value_le h.1 h.0 (month_of_day ticket.day) known.in_range.1 in
      let is = h.6 in omega (arith, is, le)

  lines_le : (ticket : Ticket) (lines : List Line) → AllByRecursion (IsRightLine rates bonds ticket) lines → sum_by cents_of lines ≤ length lines * 304493600
  lines_le ticket [] h = omega arith
  lines_le ticket (l ∷ lines) h =
      let cons = sum_by-cons cents_of l lines in
      let here = line_le ticket l h.0 in
      let rest = lines_le ticket lines h.1 in omega (arith, cons, here, rest)

  pub all_small : (tickets : List Ticket) → AllByRecursion (IsRightTicket rates bonds) tickets → AllByRecursion IsSmall tickets
  all_small [] h = tt
  all_small (t ∷ tickets) h =
      let sum = lines_le t t.lines h.0.lines in
      let is = h.0.total in
      let few = h.0.few in
      ((few, omega (arith, sum, is, few)), all_small tickets h.1)

-- ---- batches
any_day : (days : List ℕ) (more : List ℕ) (d : ℕ) → list_any (λ x. d == x) (days ++ d ∷ more) ≡ true
any_day [] more d = ap (λ b. b || list_any (λ x. d == x) more) (eq-eqb d d refl)
any_day (x ∷ days) more d = either (d == x) (any_day days more d)
  where
    either : (b : Bool) → list_any (λ x. d == x) (days ++ d ∷ more) ≡ true → (b || list_any (λ x. d == x) (days ++ d ∷ more)) ≡ true
    either true e = refl
    either false e = e

counted_at : (counts : List (ℕ × DayCounts)) (before after : List ℕ) (d : ℕ) (tickets : List Ticket) → AreCounted counts (before ++ d ∷ after) tickets → counts_at counts d ≡ Some (counts_on tickets d)
counted_at counts before after d tickets are = are d ∙ ap (λ b. cond b (Some (counts_on tickets d)) None) (any_day before after d)

batch_on : (counts : List (ℕ × DayCounts)) (batch : Batch) (tickets : List Ticket) → counts_at counts batch.day ≡ Some (counts_on tickets batch.day) → IsCounted counts batch → batch ≡ batch_of batch.day tickets
batch_on counts batch tickets is counted =
    let same : counts_in batch ≡ counts_on tickets batch.day = cc in
    λ i. record { day = batch.day; tickets = (same i).tickets; bonds = (same i).bonds; total = (same i).total }

on_batch : (counts : List (ℕ × DayCounts)) (batch : Batch) (tickets : List Ticket) → counts_at counts batch.day ≡ Some (counts_on tickets batch.day) → batch ≡ batch_of batch.day tickets → IsCounted counts batch
on_batch counts batch tickets is same = is ∙ ap Some (sym (ap counts_in same))

move : (before : List ℕ) (x : ℕ) (after : List ℕ) → (before ++ x ∷ []) ++ after ≡ before ++ x ∷ after
move [] x after = refl
move (y ∷ before) x after = ap (λ l. y ∷ l) (move before x after)

batches_on : (counts : List (ℕ × DayCounts)) (before : List ℕ) (batches : List Batch) (day : Option ℕ) (tickets : List Ticket) → AreCounted counts (before ++ days_of batches day) tickets
    → AllByRecursion (IsCounted counts) batches → AllByRecursion (λ batch. batch ≡ batch_of batch.day tickets) batches
batches_on counts before [] day tickets are h = tt
batches_on counts before (b ∷ batches) day tickets are h = (
  batch_on counts b tickets (counted_at counts before (days_of batches day) b.day tickets are) h.0,
  batches_on counts (before ++ b.day ∷ []) batches day tickets (subst (λ ds. AreCounted counts ds tickets) (sym (move before b.day (days_of batches day))) are) h.1,
)

on_batches : (counts : List (ℕ × DayCounts)) (before : List ℕ) (batches : List Batch) (day : Option ℕ) (tickets : List Ticket) → AreCounted counts (before ++ days_of batches day) tickets
    → AllByRecursion (λ batch. batch ≡ batch_of batch.day tickets) batches → AllByRecursion (IsCounted counts) batches
on_batches counts before [] day tickets are h = tt
on_batches counts before (b ∷ batches) day tickets are h = (
  on_batch counts b tickets (counted_at counts before (days_of batches day) b.day tickets are) h.0,
  on_batches counts (before ++ b.day ∷ []) batches day tickets (subst (λ ds. AreCounted counts ds tickets) (sym (move before b.day (days_of batches day))) are) h.1,
)

pub batches_right : (counts : List (ℕ × DayCounts)) (batches : List Batch) (day : Option ℕ) (tickets : List Ticket) → AreCounted counts (days_of batches day) tickets
    → AllByRecursion (IsCounted counts) batches → AllByRecursion (λ batch. batch ≡ batch_of batch.day tickets) batches
batches_right counts = batches_on counts []

pub right_batches : (counts : List (ℕ × DayCounts)) (batches : List Batch) (day : Option ℕ) (tickets : List Ticket) → AreCounted counts (days_of batches day) tickets
    → AllByRecursion (λ batch. batch ≡ batch_of batch.day tickets) batches → AllByRecursion (IsCounted counts) batches
right_batches counts = on_batches counts []

-- the counts of the open day
pub open_is : (counts : List (ℕ × DayCounts)) (batches : List Batch) (day : Option ℕ) (tickets : List Ticket) → AreCounted counts (days_of batches day) tickets
    → unwrap_or (option_and_then (counts_at counts) day) no_counts ≡ counts_in (batch_so_far day tickets)
open_is counts batches None tickets are = refl
open_is counts batches (Some d) tickets are = ap (λ o. unwrap_or o no_counts) (counted_at counts (map day_of_batch batches) [] d tickets are)
