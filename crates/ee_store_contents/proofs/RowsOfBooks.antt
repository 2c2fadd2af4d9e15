-- The rows that represent books and kept replies are those of their parts.
use Rattle.std.proofs.Common.{◌≡◌, ℕ, ◌+◌, ◌&&◌, List, [], ◌∷◌, ◌++◌, map, refl, sym, ap, ◌∙◌, subst}
use Rattle.std.specs.Prelude.{T, flat_map, filter_map, option_map, Option, Some, None, IfSome}
use Rattle.std.specs.List.{AllByRecursion, cons_option}
use Rattle.std.specs.Ordering.{nat_cmp, is_lt}
use Rattle.std.specs.Cmp.{IsTotalOrder, nat_cmp_total}
use Rattle.std.specs.declared.cmp.Ordering.{Ordering}
use Rattle.std.specs.FinMap as finite
use Rattle.std.specs.FinMap.{FinMap, IsAntisymmetric, nat_cmp-IsAntisymmetric, entries, is_sorted, entries_sorted, from_entries, from_sorted, entries-from_sorted, same_entries_map}
use Rattle.std.specs.FinMap.Entries.{below_all}
use Rattle.std.proofs.lemmas.List.{map-append}
use Rattle.std.specs.Option.{unwrap_or}
use Rattle.std.proofs.lemmas.Option.{same_Some}
use Rattle.ee_units.specs.Spelling.{SerialNumber}
use Rattle.ee_units.specs.Denoms.{denom_with}
use Rattle.ee_units.specs.declared.denoms.Denom.TheVariants as denom
use Rattle.ee_units.proofs.Lemmas.{denom_with-dollars}
use Rattle.ee_value.specs.declared.rates.Rates.{Rates}
use Rattle.ee_value.specs.Chain.{named_extension}
use Rattle.ee_calculator.specs.declared.bonds.Bond.{Bond}
use Rattle.ee_desk_model.specs.declared.changes.Held.{Held}
use Rattle.ee_desk_model.specs.declared.changes.Kept.{Kept}
use Rattle.ee_desk_model.specs.declared.replies.Line.{Line}
use Rattle.ee_desk_model.specs.declared.replies.Ticket.{Ticket}
use Rattle.ee_desk_model.specs.declared.replies.Batch.{Batch}
use Rattle.ee_desk_model.specs.Serials.{serial_cmp}
use Rattle.ee_desk_model.specs.Numbers.{number_cmp}
use Rattle.ee_desk_model.specs.PlainBooks.{PlainBooks}
use Rattle.ee_desk_model.specs.Seen.{held_as}
use Rattle.ee_desk_model.specs.Sound.{IsSound, IsRightRate, day_of_batch, open_days}
use Rattle.ee_desk_model.specs.Repeats.{Content}
use Rattle.ee_desk_model.proofs.Lemmas.Maps.{serials_total, serials_exact, all_weaker, numbers_total, all_mapped, all_unmapped}
use Rattle.ee_desk_decide.proofs.Lemmas.{all_entries}
use Rattle.ee_desk_soundness.specs.Checks.{HaveRisingSerials, InOrder, IsBefore}
use Rattle.ee_desk_soundness.specs.Marks.{bond_of, AreMarked}
use Rattle.ee_desk_soundness.proofs.Lemmas.{get_all, map_of_entries, rising_of_sorted}
use Rattle.ee_desk_soundness.specs.Parts.{Parts, parts_of, row_of_entry}
use Rattle.ee_desk_model.specs.Ranges.{BondFits}
use Rattle.ee_desk_texts.specs.Ranges.{RateRowFits, BatchFits}
use Rattle.ee_store_tables.specs.Keyed.{pair_cmp}
use Rattle.ee_store_tables.specs.Rows.{Rows, DeskRow, BondRow, TicketRow, PaidRow, BatchRow, ReplyRow}
use Rattle.ee_store_load.specs.declared.entries.StoredDesk.{StoredDesk}
use Rattle.ee_store_load.specs.declared.entries.StoredRate.{StoredRate}
use Rattle.ee_store_load.specs.declared.entries.StoredTicket.{StoredTicket}
use Rattle.ee_store_load.specs.declared.entries.StoredLine.{StoredLine}
use Rattle.ee_store_load.specs.declared.entries.StoredBatch.{StoredBatch}
use Rattle.ee_store_schema.specs.declared.answers.StoredAnswer.{StoredAnswer}
use Rattle.ee_store_schema.specs.Forms.{version_of}
use Rattle.ee_store_schema.specs.Migrating.{answer_entry}
use Rattle.ee_store_load.specs.declared.whole.AllRows.{AllRows}
use Rattle.ee_store_rows.specs.Rows.{bond_row, key_of, paid_row}
use Rattle.ee_store_books.specs.Standing.{rate_rows, extension_entry, extension_rows, bond_rows, ticket_rows, paid_rows, placed, batch_rows, reply_rows, reply_row, desk_rows, IsKept, IsRight, StandAt}
use Rattle.ee_store_load.specs.Shown.{answer_map, desk_entry, rate_entry, bond_entry, ticket_entry, line_entry, batch_entry}
use Rattle.ee_store_load.specs.Whole.{AreInOrder, rows_with}
use Rattle.ee_store_contents.specs.Contents.{KeepsAnswer}
use Rattle.ee_store_contents.specs.Inner.Contents.{PartsFit}
use Rattle.ee_store_contents.proofs.StoredRows.{stored_desk, stored_rate, extension_row, stored_extension, held_bond, stored_ticket, placed_lines, stored_lines, stored_batch, AreRowsOf}
use Rattle.ee_store_contents.specs.Inner.Reading.{each, days_in, rates_in, tickets_in, batch_in, parts_in}
use Rattle.ee_store_tables.proofs.Lemmas.Rows.{pair_total, pair_same}
use Rattle.ee_store_books.proofs.Lemmas.Contents as contents
use Rattle.ee_store_rows.proofs.Lemmas.{some_from_bind}
use Rattle.ee_store_books.proofs.Lemmas.Contents.{sorted_entries, extension_entries, ticket_entries, ticket_lines, paid_entries, batch_entries, rising_front, days_in_range, right_bond_is_keyed, head_of, tail_of}
use Rattle.ee_store_contents.proofs.RatesBack.{rates_read, rates_is}
use Rattle.ee_store_load.proofs.Lemmas.{bind_some}
use Rattle.ee_store_contents.proofs.ReadBack.{each_read, each_is, days_read, days_is, tickets_read, tickets_is, batch_read, batch_is}

-- ---- lists
pub fuse : {A B C : Type 0} (f : B → C) (g : A → B) (h : A → C) → ((x : A) → f (g x) ≡ h x) → (xs : List A) → map f (map g xs) ≡ map h xs
fuse f g h e [] = refl
fuse f g h e (x ∷ xs) = λ i. e x i ∷ fuse f g h e xs i

fuse_all : {A C : Type 0} (P : A → Type 0) (f h : A → C) → ((x : A) → P x → f x ≡ h x) → (xs : List A) → AllByRecursion P xs → map f xs ≡ map h xs
fuse_all P f h e [] all = refl
fuse_all P f h e (x ∷ xs) all = λ i. e x all.0 i ∷ fuse_all P f h e xs all.1 i

pub undone : {A B : Type 0} (f : A → B) (g : B → A) → ((x : A) → g (f x) ≡ x) → (xs : List A) → map g (map f xs) ≡ xs
undone f g e [] = refl
undone f g e (x ∷ xs) = λ i. e x i ∷ undone f g e xs i

same_lists : {A B : Type 0} (f : A → B) (g : B → A) → ((x : A) → g (f x) ≡ x) → (xs ys : List A) → map f xs ≡ map f ys → xs ≡ ys
same_lists f g e xs ys is = sym (undone f g e xs) ∙ ap (map g) is ∙ undone f g e ys

-- ---- entries of images, in order
module _ {K L X Y : Type 0} (R : K → K → Ordering) (S : L → L → Ordering) (key : K → L) (value : K → X → Y) (alike : (q k : K) → S (key q) (key k) ≡ R q k) where
  same_below : (q : K) (es : List (K × X)) → below_all S (key q) (map (λ e. (key e.0, value e.0 e.1)) es) ≡ below_all R q es
  same_below q [] = refl
  same_below q (e ∷ es) = λ i. is_lt (alike q e.0 i) && same_below q es i

  same_sorted : (es : List (K × X)) → is_sorted S (map (λ e. (key e.0, value e.0 e.1)) es) ≡ is_sorted R es
  same_sorted [] = refl
  same_sorted (e ∷ es) = λ i. same_below e.0 es i && same_sorted es i

  image_entries : IsTotalOrder S → IsAntisymmetric S → (m : FinMap R X)
      → entries (from_entries {R = S} (map (λ e. (key e.0, value e.0 e.1)) (entries m))) ≡ map (λ e. (key e.0, value e.0 e.1)) (entries m)
  image_entries o exact m = sorted_entries o exact _ (subst T (sym (same_sorted (entries m))) (entries_sorted m))

-- the serial numbers of bonds rise if their entries are sorted
pub rows_rise : (rows : List Held) → T (is_sorted pair_cmp (map bond_entry rows)) → HaveRisingSerials (map bond_of rows)
rows_rise rows sorted =
    subst (InOrder IsBefore) (fuse (λ (e : SerialNumber × Held). e.0) (λ held. (held.bond.serial, held)) (λ held. held.bond.serial) (λ held. refl) rows ∙ sym (fuse (λ (bond : Bond). bond.serial) bond_of (λ held. held.bond.serial) (λ held. refl) rows))
    (rising_of_sorted serial_cmp (map (λ (held : Held). (held.bond.serial, held)) rows)
    (subst T (sym (ap (is_sorted pair_cmp) (fuse (λ (e : SerialNumber × Held). (key_of e.0, bond_row e.1)) (λ held. (held.bond.serial, held)) bond_entry (λ held. refl) rows))
    ∙ same_sorted serial_cmp pair_cmp key_of (λ k (held : Held). bond_row held) (λ q k. refl) (map (λ (held : Held). (held.bond.serial, held)) rows)) sorted))

rate_entries : (rates : FinMap nat_cmp Rates) → entries (rate_rows rates) ≡ map (λ e. (e.0, e.1.fixed)) (entries rates)
rate_entries rates = image_entries nat_cmp nat_cmp (λ k. k) (λ k (rates : Rates). rates.fixed) (λ q k. refl) nat_cmp_total nat_cmp-IsAntisymmetric rates

bond_entries : (bonds : FinMap serial_cmp Bond) (tickets : List Ticket) → entries (bond_rows bonds tickets) ≡ map (λ e. (key_of e.0, bond_row (held_as tickets e.0 e.1))) (entries bonds)
bond_entries bonds tickets = image_entries serial_cmp pair_cmp key_of (λ serial (bond : Bond). bond_row (held_as tickets serial bond)) (λ q k. refl) pair_total pair_same bonds

reply_entries : (kept : FinMap number_cmp Kept) → entries (reply_rows kept) ≡ map (λ e. (e.0, reply_row e.1)) (entries kept)
reply_entries kept = image_entries number_cmp pair_cmp (λ k. k) (λ k (kept : Kept). reply_row kept) (λ q k. refl) pair_total pair_same kept

desk_entries : (version : ℕ) (day last_day : Option ℕ) → entries (desk_rows version day last_day) ≡ map desk_entry (stored_desk version day last_day ∷ [])
desk_entries version day last_day = sorted_entries nat_cmp_total nat_cmp-IsAntisymmetric _ tt

closed_entries : (books : PlainBooks) → IsSound books → entries (batch_rows books.batches) ≡ map contents.batch_entry books.batches
closed_entries books sound = batch_entries books.batches (rising_front (map day_of_batch books.batches) (open_days books.day) sound.rising)

-- ---- the rows of parts, as entries
rates_as : (rates : FinMap nat_cmp Rates) → map rate_entry (map stored_rate (map row_of_entry (entries rates))) ≡ entries (rate_rows rates)
rates_as rates = ap (map rate_entry) (fuse stored_rate row_of_entry _ (λ e. refl) (entries rates)) ∙ fuse rate_entry (λ e. stored_rate (row_of_entry e)) _ (λ e. refl) (entries rates) ∙ sym (rate_entries rates)

extensions_as_entries : (es : List (ℕ × Rates)) → map rate_entry (filter_map stored_extension (map row_of_entry es)) ≡ filter_map extension_entry es
extensions_as_entries [] = refl
extensions_as_entries (e ∷ es) =
    elim (named_extension e.1) as (λ o. map rate_entry (cons_option (option_map (extension_row e.0) o) (filter_map stored_extension (map row_of_entry es))) ≡ cons_option (option_map (λ (x : ℕ). (e.0, x)) o) (filter_map extension_entry es)) [
      | None ↦ extensions_as_entries es
      | Some x ↦ ap (λ l. (e.0, x) ∷ l) (extensions_as_entries es)
    ]

extensions_as : (rates : FinMap nat_cmp Rates) → map rate_entry (filter_map stored_extension (map row_of_entry (entries rates))) ≡ entries (extension_rows rates)
extensions_as rates = extensions_as_entries (entries rates) ∙ sym (extension_entries rates)

all_keyed : (books : PlainBooks) → IsSound books → AllByRecursion (λ e. e.1.serial ≡ e.0) (entries books.bonds)
all_keyed books sound = all_entries serials_total serials_exact (λ s (bond : Bond). bond.serial ≡ s) books.bonds (λ s. right_bond_is_keyed books.rates s _ (sound.bonds s))

bonds_as : (books : PlainBooks) → IsSound books → map bond_entry (map (held_bond books.tickets) (finite.values books.bonds)) ≡ entries (bond_rows books.bonds books.tickets)
bonds_as books sound =
    ap (map bond_entry) (fuse (held_bond books.tickets) (λ (e : SerialNumber × Bond). e.1) _ (λ e. refl) (entries books.bonds))
    ∙ fuse bond_entry (λ (e : SerialNumber × Bond). held_bond books.tickets e.1) _ (λ e. refl) (entries books.bonds)
    ∙ fuse_all (λ (e : SerialNumber × Bond). e.1.serial ≡ e.0) _ (λ e. (key_of e.0, bond_row (held_as books.tickets e.0 e.1)))
    (λ e is i. (key_of (is i), bond_row (held_as books.tickets (is i) e.1))) (entries books.bonds) (all_keyed books sound)
    ∙ sym (bond_entries books.bonds books.tickets)

tickets_as : (tickets : List Ticket) → map ticket_entry (map stored_ticket tickets) ≡ map contents.ticket_entry tickets
tickets_as tickets = fuse ticket_entry stored_ticket contents.ticket_entry (λ t. refl) tickets

placed_as : (ticket place : ℕ) (lines : List Line) → map line_entry (placed_lines ticket place lines) ≡ placed ticket place lines
placed_as ticket place [] = refl
placed_as ticket place (line ∷ lines) = ap (λ l. ((ticket, place), paid_row line) ∷ l) (placed_as ticket (place + 1) lines)

lines_as : (tickets : List Ticket) → map line_entry (flat_map stored_lines tickets) ≡ flat_map ticket_lines tickets
lines_as [] = refl
lines_as (t ∷ tickets) = map-append line_entry (stored_lines t) (flat_map stored_lines tickets) ∙ (λ i. placed_as t.ticket 1 t.lines i ++ lines_as tickets i)

batches_as : (batches : List Batch) → map batch_entry (map stored_batch batches) ≡ map contents.batch_entry batches
batches_as batches = fuse batch_entry stored_batch contents.batch_entry (λ b. refl) batches

-- ---- back from entries
abbrev desk_back : ℕ × DeskRow → StoredDesk
desk_back e = record { id = e.0; version = e.1.version; day = e.1.day; last_day = e.1.last_day }

abbrev rate_back : ℕ × ℕ → StoredRate
rate_back e = record { period = e.0; rate = e.1 }

abbrev bond_back : (ℕ × ℕ) × BondRow → Held
bond_back e = record {
  bond = record {
    serial = record { letter = e.0.0; number = e.0.1 };
    denom = unwrap_or (denom_with e.1.denom) denom.Fifty;
    issued = e.1.issued;
    owner = e.1.owner;
    coowner = e.1.coowner;
  };
  ticket = e.1.ticket;
}

bond_is_back : (held : Held) → bond_back (bond_entry held) ≡ held
bond_is_back held = λ i. record { bond = record held.bond { denom = unwrap_or (denom_with-dollars held.bond.denom i) denom.Fifty }; ticket = held.ticket }

abbrev ticket_back : ℕ × TicketRow → StoredTicket
ticket_back e = record { ticket = e.0; day = e.1.day; payee = e.1.payee; bonds = e.1.bonds; total = e.1.total }

abbrev line_back : (ℕ × ℕ) × PaidRow → StoredLine
line_back e = record { ticket = e.0.0; place = e.0.1; letter = e.1.letter; number = e.1.number; cents = e.1.cents }

abbrev batch_back : ℕ × BatchRow → StoredBatch
batch_back e = record { day = e.0; tickets = e.1.tickets; bonds = e.1.bonds; total = e.1.total }

-- ---- rows that represent a content are those of its parts
module _ {K X : Type 0} {R : K → K → Ordering} where
  entries_of : (es : List (K × X)) (m : FinMap R X) → T (is_sorted R es) → from_sorted es ≡ m → es ≡ entries m
  entries_of es m sorted is = sym (entries-from_sorted R es sorted) ∙ ap entries is

  map_of : (es : List (K × X)) (m : FinMap R X) → T (is_sorted R es) → es ≡ entries m → from_sorted es ≡ m
  map_of es m sorted is = same_entries_map (from_sorted es) m (entries-from_sorted R es sorted ∙ is)

pub rows_of_parts : (stored : AllRows) (kept : FinMap pair_cmp ReplyRow) (content : Content) → AreInOrder stored → StandAt (version_of stored.form) (rows_with kept stored) content
    → AreRowsOf (parts_of content.books) stored
rows_of_parts stored kept content order stands =
    let books = content.books in
    let sound = stands.right.sound in
    record {
      desk = same_lists desk_entry desk_back (λ x. refl) _ _ (entries_of _ _ order.desk (ap (λ (r : Rows). r.desk) stands.are) ∙ desk_entries (version_of stored.form) books.day books.last_day);
      rates = same_lists rate_entry rate_back (λ x. refl) _ _ (entries_of _ _ order.rates (ap (λ (r : Rows). r.rates) stands.are) ∙ sym (rates_as books.rates));
      extensions = same_lists rate_entry rate_back (λ x. refl) _ _ (entries_of _ _ order.extensions (ap (λ (r : Rows). r.extensions) stands.are) ∙ sym (extensions_as books.rates));
      bonds = same_lists bond_entry bond_back bond_is_back _ _ (entries_of _ _ order.bonds (ap (λ (r : Rows). r.bonds) stands.are) ∙ sym (bonds_as books sound));
      tickets = same_lists ticket_entry ticket_back (λ x. refl) _ _ (entries_of _ _ order.tickets (ap (λ (r : Rows). r.tickets) stands.are) ∙ ticket_entries books.tickets sound.numbered ∙ sym (tickets_as books.tickets));
      lines = same_lists line_entry line_back (λ x. refl) _ _ (entries_of _ _ order.lines (ap (λ (r : Rows). r.paid) stands.are) ∙ paid_entries books.tickets sound.numbered ∙ sym (lines_as books.tickets));
      batches = same_lists batch_entry batch_back (λ x. refl) _ _ (entries_of _ _ order.batches (ap (λ (r : Rows). r.batches) stands.are) ∙ closed_entries books sound ∙ sym (batches_as books.batches));
    }

-- ---- the parts of a right content are in range
pub parts_in_range : (content : Content) → IsRight content → PartsFit (parts_of content.books)
parts_in_range content right =
    let books = content.books in
    let sound = right.sound in
    record {
      day = (days_in_range books sound).0;
      last_day = (days_in_range books sound).1;
      rates = all_mapped RateRowFits row_of_entry (entries books.rates)
          (all_weaker _ (λ (e : ℕ × Rates). RateRowFits (row_of_entry e)) (λ e h. h.in_range) (entries books.rates) (all_entries nat_cmp_total nat_cmp-IsAntisymmetric IsRightRate books.rates sound.rates));
      bonds = all_mapped BondFits (λ (e : SerialNumber × Bond). e.1) (entries books.bonds) (all_entries serials_total serials_exact (λ s bond. BondFits bond) books.bonds right.in_range.bonds);
      tickets = right.in_range.tickets;
      batches = right.in_range.batches;
    }

-- ---- reading the rows of parts
pub parts_read : (parts : Parts) (stored : AllRows) → AreRowsOf parts stored → PartsFit parts → T (is_sorted nat_cmp (map rate_entry stored.rates.items)) → parts_in stored ≡ Some parts
unfolding parts_in
parts_read parts stored are fit rising =
    bind_some (days_in (version_of stored.form) stored.desk.items) (record { day = parts.day; last_day = parts.last_day }) _ _
    (ap (days_in (version_of stored.form)) are.desk ∙ days_read (version_of stored.form) (record { day = parts.day; last_day = parts.last_day }) fit.day fit.last_day)
    (bind_some (rates_in stored.rates.items stored.extensions.items) parts.rates _ _
    ((λ i. rates_in (are.rates i) (are.extensions i)) ∙ rates_read parts.rates fit.rates (subst (λ rows. T (is_sorted nat_cmp (map rate_entry rows))) are.rates rising))
    (bind_some (tickets_in stored.tickets.items stored.lines.items) parts.tickets _ _ ((λ i. tickets_in (are.tickets i) (are.lines i)) ∙ tickets_read parts.tickets fit.tickets)
    (bind_some (each batch_in stored.batches.items) parts.batches _ _ (ap (each batch_in) are.batches ∙ each_read batch_in stored_batch BatchFits batch_read parts.batches fit.batches)
    (λ i. Some (record parts { bonds = (ap (map bond_of) are.bonds ∙ undone (held_bond parts.tickets) bond_of (λ bond. refl) parts.bonds) i })))))

-- rows that name the tickets that pay their bonds are those of the bonds
marked_rows : (tickets : List Ticket) (rows : List Held) → AreMarked tickets rows → rows ≡ map (held_bond tickets) (map bond_of rows)
marked_rows tickets [] h = refl
marked_rows tickets (x ∷ rows) h = λ i. record { bond = x.bond; ticket = h.0 i } ∷ marked_rows tickets rows h.1 i

pub rows_marked : (tickets : List Ticket) (bonds : List Bond) → AreMarked tickets (map (held_bond tickets) bonds)
rows_marked tickets [] = tt
rows_marked tickets (b ∷ bonds) = (refl, rows_marked tickets bonds)

pub parts_are : (parts : Parts) (stored : AllRows) → parts_in stored ≡ Some parts → AreMarked parts.tickets stored.bonds.items → AreRowsOf parts stored
unfolding parts_in
parts_are parts stored e marked =
    let days = some_from_bind (days_in (version_of stored.form) stored.desk.items) _ parts e in
    let rates = some_from_bind (rates_in stored.rates.items stored.extensions.items) _ parts days.2 in
    let tickets = some_from_bind (tickets_in stored.tickets.items stored.lines.items) _ parts rates.2 in
    let batches = some_from_bind (each batch_in stored.batches.items) _ parts tickets.2 in
    let is = same_Some _ parts batches.2 in
    let terms = rates_is stored.rates.items stored.extensions.items rates.0 rates.1 in
    let paid = tickets_is stored.tickets.items stored.lines.items tickets.0 tickets.1 in
    subst (λ p. AreRowsOf p stored) is (record {
      desk = days_is (version_of stored.form) stored.desk.items days.0 days.1;
      rates = terms.0;
      extensions = terms.1;
      bonds = marked_rows tickets.0 stored.bonds.items (subst (λ ts. AreMarked ts stored.bonds.items) (sym (ap (λ (p : Parts). p.tickets) is)) marked);
      tickets = paid.0;
      lines = paid.1;
      batches = each_is batch_in stored_batch batch_is stored.batches.items batches.0 batches.1;
    })

-- ---- kept replies
abbrev kept_list : (rows : List StoredAnswer) → AllByRecursion KeepsAnswer rows → List ((ℕ × ℕ) × Kept)
kept_list [] all = []
kept_list (row ∷ rows) all = ((row.desk, row.number), all.0.0) ∷ kept_list rows all.1

kept_rows : (rows : List StoredAnswer) (all : AllByRecursion KeepsAnswer rows) → map (λ e. (e.0, reply_row e.1)) (kept_list rows all) ≡ map answer_entry rows
kept_rows [] all = refl
kept_rows (row ∷ rows) all = λ i. ((row.desk, row.number), record { act = sym all.0.1.act i; reply = sym all.0.1.reply i }) ∷ kept_rows rows all.1 i

kept_right : (rows : List StoredAnswer) (all : AllByRecursion KeepsAnswer rows) → AllByRecursion (λ e. IsKept e.0 e.1) (kept_list rows all)
kept_right [] all = tt
kept_right (row ∷ rows) all = (all.0.1.is_kept, kept_right rows all.1)

abbrev kept_of : (rows : List StoredAnswer) → AllByRecursion KeepsAnswer rows → FinMap number_cmp Kept
kept_of rows all = from_entries (kept_list rows all)

kept_entries : (rows : List StoredAnswer) (all : AllByRecursion KeepsAnswer rows) → T (is_sorted pair_cmp (map answer_entry rows)) → entries (kept_of rows all) ≡ kept_list rows all
kept_entries rows all sorted =
    sorted_entries numbers_total pair_same (kept_list rows all)
    (subst T (same_sorted number_cmp pair_cmp (λ k. k) (λ k (kept : Kept). reply_row kept) (λ q k. refl) (kept_list rows all)) (subst (λ es. T (is_sorted pair_cmp es)) (sym (kept_rows rows all)) sorted))

keeps : (rows : List StoredAnswer) (es : List ((ℕ × ℕ) × Kept)) → AllByRecursion (λ e. IsKept e.0 e.1) es → map answer_entry rows ≡ map (λ e. (e.0, reply_row e.1)) es → AllByRecursion KeepsAnswer rows
keeps [] es all e = tt
keeps (row ∷ rows) [] all e = absurd (cc)
keeps (row ∷ rows) (k ∷ es) all e =
    let here = ap (λ l. head_of ((row.desk, row.number), record { act = []; reply = [] }) l) e in (
      (k.1, record { is_kept = subst (λ n. IsKept n k.1) (sym (ap (λ (p : (ℕ × ℕ) × ReplyRow). p.0) here)) all.0; act = ap (λ (p : (ℕ × ℕ) × ReplyRow). p.1.act) here; reply = ap (λ (p : (ℕ × ℕ) × ReplyRow). p.1.reply) here }),
      keeps rows es all.1 (ap tail_of e),
    )

pub answers_kept : (stored : AllRows) (kept : List StoredAnswer) (content : Content) → T (is_sorted pair_cmp (map answer_entry kept))
    → StandAt (version_of stored.form) (rows_with (answer_map kept) stored) content → AllByRecursion KeepsAnswer kept
answers_kept stored kept content sorted stands =
    keeps kept (entries content.kept) (all_entries numbers_total pair_same IsKept content.kept stands.right.kept)
    (entries_of _ _ sorted (ap (λ (r : Rows). r.answers) stands.are) ∙ reply_entries content.kept)

-- ---- rows of parts represent the books of these parts
values_fit : (books : PlainBooks) → AllByRecursion BondFits (finite.values books.bonds) → (s : SerialNumber) → IfSome (finite.get books.bonds s) BondFits
values_fit books all s =
    subst (λ m. IfSome (finite.get m s) BondFits) (map_of_entries serial_cmp serials_total serials_exact books.bonds)
    (get_all serials_total serials_exact (λ s bond. BondFits bond) (entries books.bonds) (all_unmapped BondFits (λ (e : SerialNumber × Bond). e.1) (entries books.bonds) all) s)

pub content_stands : (stored : AllRows) (rows : List StoredAnswer) (books : PlainBooks) → AreInOrder stored → T (is_sorted pair_cmp (map answer_entry rows)) → AreRowsOf (parts_of books) stored
    → PartsFit (parts_of books) → IsSound books → AllByRecursion KeepsAnswer rows
    → (content : Content) × (content.books ≡ books) × StandAt (version_of stored.form) (rows_with (answer_map rows) stored) content
content_stands stored rows books order sorted are fit sound all =
    let desk = map_of (map desk_entry stored.desk.items) (desk_rows (version_of stored.form) books.day books.last_day) order.desk (ap (map desk_entry) are.desk ∙ sym (desk_entries (version_of stored.form) books.day books.last_day)) in
    let rates = map_of (map rate_entry stored.rates.items) (rate_rows books.rates) order.rates (ap (map rate_entry) are.rates ∙ rates_as books.rates) in
    let extensions = map_of (map rate_entry stored.extensions.items) (extension_rows books.rates) order.extensions (ap (map rate_entry) are.extensions ∙ extensions_as books.rates) in
    let bonds = map_of (map bond_entry stored.bonds.items) (bond_rows books.bonds books.tickets) order.bonds (ap (map bond_entry) are.bonds ∙ bonds_as books sound) in
    let tickets = map_of (map ticket_entry stored.tickets.items) (ticket_rows books.tickets) order.tickets (ap (map ticket_entry) are.tickets ∙ tickets_as books.tickets ∙ sym (ticket_entries books.tickets sound.numbered)) in
    let paid = map_of (map line_entry stored.lines.items) (paid_rows books.tickets) order.lines (ap (map line_entry) are.lines ∙ lines_as books.tickets ∙ sym (paid_entries books.tickets sound.numbered)) in
    let batches = map_of (map batch_entry stored.batches.items) (batch_rows books.batches) order.batches (ap (map batch_entry) are.batches ∙ batches_as books.batches ∙ sym (closed_entries books sound)) in
    let answers = map_of (map answer_entry rows) (reply_rows (kept_of rows all)) sorted
    (sym (kept_rows rows all) ∙ ap (map (λ e. (e.0, reply_row e.1))) (sym (kept_entries rows all sorted)) ∙ sym (reply_entries (kept_of rows all))) in (
      record { books = books; kept = kept_of rows all },
      refl,
      record {
        are = λ i. record { desk = desk i; rates = rates i; bonds = bonds i; tickets = tickets i; paid = paid i; batches = batches i; extensions = extensions i; answers = answers i };
        right = record {
          sound = sound;
          in_range = record { bonds = values_fit books fit.bonds; tickets = fit.tickets; batches = fit.batches };
          kept = get_all numbers_total pair_same IsKept (kept_list rows all) (kept_right rows all);
        };
      },
    )
