-- Rows are read as the values that they were made of, and as no others.
use Rattle.std.proofs.Common.{◌≡◌, ◌==◌, ℕ, suc, ◌+◌, ◌≤◌, Bool, true, false, cond, ◌&&◌, List, [], ◌∷◌, ◌++◌, map, length, take, drop, arith, refl, sym, ap, ◌∙◌, subst}
use Rattle.std.specs.Prelude.{if◌then◌else◌, nat_le, flat_map, Option, Some, None, IfSome, option_map}
use Rattle.std.specs.List.{AllByRecursion}
use Rattle.std.proofs.lemmas.Bool.{eqb-true, eq-eqb, leb-true, le-leb, and_parts}
use Rattle.std.proofs.lemmas.List.{take-append-drop, length-take-le}
use Rattle.std.proofs.lemmas.Option.{same_Some}
use Rattle.ee_units.specs.Spelling.{serial_at, ◌>>=◌}
use Rattle.ee_units.proofs.Lemmas.{in_range-is, in_range_back}
use Rattle.ee_desk_model.specs.declared.replies.Line.{Line}
use Rattle.ee_desk_model.specs.declared.replies.Ticket.{Ticket}
use Rattle.ee_desk_model.specs.declared.replies.Batch.{Batch}
use Rattle.ee_desk_model.specs.Sound.{IsDay}
use Rattle.ee_desk_model.specs.Ranges.{IsSerial, IsCustomer}
use Rattle.ee_desk_texts.specs.Ranges.{LineFits, TicketFits, BatchFits}
use Rattle.ee_store_contents.specs.declared.reading.Days.{Days}
use Rattle.ee_store_load.specs.declared.entries.StoredDesk.{StoredDesk}
use Rattle.ee_store_load.specs.declared.entries.StoredTicket.{StoredTicket}
use Rattle.ee_store_load.specs.declared.entries.StoredLine.{StoredLine}
use Rattle.ee_store_load.specs.declared.entries.StoredBatch.{StoredBatch}
use Rattle.ee_store_rows.proofs.Lemmas.{some_from_bind}
use Rattle.ee_store_load.proofs.Lemmas.{bind_some, serial_read, serial_is}
use Rattle.ee_store_contents.proofs.StoredRows.{stored_desk, stored_ticket, stored_line, placed_lines, stored_lines, stored_batch}
use Rattle.ee_store_contents.specs.Inner.Reading.{each, optional_in, issue_in, day_in, customer_in, days_of, days_in, line_at, lines_at, ticket_with, ticket_in, tickets_in, batch_in}
use Rattle.ee_store_rows.specs.Lines.{line_with}

-- ---- what may be absent
cond_is : {A : Type 0} (b : Bool) (x : A) (o : Option A) (y : A) → cond b o None ≡ Some y → (b ≡ true) × (o ≡ Some y)
cond_is true x o y e = (refl, e)
cond_is false x o y e = absurd (cc)

pub optional_read : (read : ℕ → Option ℕ) (P : ℕ → Type 0) → ((n : ℕ) → P n → read n ≡ Some n) → (o : Option ℕ) → IfSome o P → optional_in read o ≡ Some o
optional_read read P h None p = refl
optional_read read P h (Some n) p = ap (option_map Some) (h n p)

pub map_is : (o : Option ℕ) (p : Option ℕ) → option_map Some o ≡ Some p → (m : ℕ) × (o ≡ Some m) × (p ≡ Some m)
map_is None p e = absurd (cc)
map_is (Some m) p e = (m, refl, sym (same_Some (Some m) p e))

optional_is : (read : ℕ → Option ℕ) → ((n m : ℕ) → read n ≡ Some m → n ≡ m) → (o p : Option ℕ) → optional_in read o ≡ Some p → o ≡ p
optional_is read h None p e = same_Some None p e
optional_is read h (Some n) p e = let m = map_is (read n) p e in ap Some (h n m.0 m.1) ∙ sym m.2

-- ---- lists
module _ {A B : Type 0} (read : A → Option B) (row : B → A) where
  pub each_read : (Fits : B → Type 0) → ((y : B) → Fits y → read (row y) ≡ Some y) → (ys : List B) → AllByRecursion Fits ys → each read (map row ys) ≡ Some ys
  each_read Fits h [] all = refl
  each_read Fits h (y ∷ ys) all =
      bind_some (read (row y)) y (λ x. each read (map row ys) >>= λ xs. Some (x ∷ xs)) (Some (y ∷ ys)) (h y all.0)
      (bind_some (each read (map row ys)) ys (λ xs. Some (y ∷ xs)) (Some (y ∷ ys)) (each_read Fits h ys all.1) refl)

  pub each_is : ((x : A) (y : B) → read x ≡ Some y → x ≡ row y) → (xs : List A) (ys : List B) → each read xs ≡ Some ys → xs ≡ map row ys
  each_is h [] ys e = ap (map row) (same_Some [] ys e)
  each_is h (x ∷ xs) ys e =
      let one = some_from_bind (read x) (λ y. each read xs >>= λ zs. Some (y ∷ zs)) ys e in
      let more = some_from_bind (each read xs) (λ zs. Some (one.0 ∷ zs)) ys one.2 in
      (λ i. h x one.0 one.1 i ∷ each_is h xs more.0 more.1 i) ∙ ap (map row) (same_Some (one.0 ∷ more.0) ys more.2)

-- ---- plain numbers
day_read : (n : ℕ) → IsDay n → day_in n ≡ Some n
day_read n h = in_range_back 12904 84005 n h.0 h.1

customer_read : (n : ℕ) → IsCustomer n → customer_in n ≡ Some n
customer_read n h = in_range_back 1 999999999 n h.0 h.1

day_is : (n m : ℕ) → day_in n ≡ Some m → n ≡ m
day_is n m e = (in_range-is 12904 84005 n m e).0

customer_is : (n m : ℕ) → customer_in n ≡ Some m → n ≡ m
customer_is n m e = (in_range-is 1 999999999 n m e).0

pub issue_is : (n m : ℕ) → issue_in n ≡ Some m → n ≡ m
issue_is n m e = (in_range-is 0 1135 n m e).0

-- ---- the desk's row
days_of_read : (version : ℕ) (days : Days) → IfSome days.day IsDay → IfSome days.last_day IsDay → days_of (stored_desk version days.day days.last_day) ≡ Some days
unfolding days_of
days_of_read version days h k =
    bind_some (optional_in day_in days.day) days.day _ _ (optional_read day_in IsDay day_read days.day h)
    (bind_some (optional_in day_in days.last_day) days.last_day _ _ (optional_read day_in IsDay day_read days.last_day k) refl)

pub days_read : (version : ℕ) (days : Days) → IfSome days.day IsDay → IfSome days.last_day IsDay → days_in version (stored_desk version days.day days.last_day ∷ []) ≡ Some days
days_read version days h k = ap (λ b. if b then days_of (stored_desk version days.day days.last_day) else None) (eq-eqb version version refl) ∙ days_of_read version days h k

days_of_is : (row : StoredDesk) (days : Days) → days_of row ≡ Some days → (row.day ≡ days.day) × (row.last_day ≡ days.last_day)
unfolding days_of
days_of_is row days e =
    let day = some_from_bind (optional_in day_in row.day) _ days e in
    let last = some_from_bind (optional_in day_in row.last_day) _ days day.2 in
    let is = same_Some _ days last.2 in
    (optional_is day_in day_is row.day day.0 day.1 ∙ ap (λ (d : Days). d.day) is, optional_is day_in day_is row.last_day last.0 last.1 ∙ ap (λ (d : Days). d.last_day) is)

pub days_is : (version : ℕ) (rows : List StoredDesk) (days : Days) → days_in version rows ≡ Some days → rows ≡ stored_desk version days.day days.last_day ∷ []
days_is version [] days e = absurd (cc)
days_is version (row ∷ other ∷ rows) days e = absurd (cc)
days_is version (row ∷ []) days e =
    let open_row = cond_is ((row.id == 1) && (row.version == version)) days (days_of row) days e in
    let first = and_parts (row.id == 1) (row.version == version) open_row.0 in
    let both = days_of_is row days open_row.1 in
    λ i. record { id = eqb-true row.id 1 first.0 i; version = eqb-true row.version version first.1 i; day = both.0 i; last_day = both.1 i } ∷ []

-- ---- lines
line_read : (ticket place : ℕ) (line : Line) → IsSerial line.serial → line_at ticket place (stored_line ticket place line) ≡ Some line
unfolding line_with
line_read ticket place line h =
    ap (λ b. cond b (line_with line.serial.letter line.serial.number line.cents.0) None) (λ i. eq-eqb ticket ticket refl i && eq-eqb place place refl i)
    ∙ bind_some (serial_at line.serial.letter line.serial.number) line.serial _ _ (serial_read line.serial h) refl

plain_line_is : (row : StoredLine) (line : Line) → line_with row.letter row.number row.cents ≡ Some line → row ≡ stored_line row.ticket row.place line
unfolding line_with
plain_line_is row line e =
    let serial = some_from_bind (serial_at row.letter row.number) _ line e in
    let s = serial_is row.letter row.number serial.0 serial.1 in
    (λ i. record { ticket = row.ticket; place = row.place; letter = s.0 i; number = s.1 i; cents = row.cents })
    ∙ ap (stored_line row.ticket row.place) (same_Some _ line serial.2)

line_is : (ticket place : ℕ) (row : StoredLine) (line : Line) → line_at ticket place row ≡ Some line → row ≡ stored_line ticket place line
line_is ticket place row line e =
    let here = cond_is ((row.ticket == ticket) && (row.place == place)) line (line_with row.letter row.number row.cents) line e in
    let both = and_parts (row.ticket == ticket) (row.place == place) here.0 in
    plain_line_is row line here.1 ∙ (λ i. stored_line (eqb-true row.ticket ticket both.0 i) (eqb-true row.place place both.1 i) line)

lines_read : (ticket place : ℕ) (lines : List Line) → AllByRecursion LineFits lines → lines_at ticket place (placed_lines ticket place lines) ≡ Some lines
lines_read ticket place [] h = refl
lines_read ticket place (line ∷ lines) h =
    bind_some (line_at ticket place (stored_line ticket place line)) line (λ x. lines_at ticket (place + 1) (placed_lines ticket (place + 1) lines) >>= λ xs. Some (x ∷ xs)) _
    (line_read ticket place line h.0.0)
    (bind_some (lines_at ticket (place + 1) (placed_lines ticket (place + 1) lines)) lines (λ xs. Some (line ∷ xs)) _ (lines_read ticket (place + 1) lines h.1) refl)

lines_is : (ticket place : ℕ) (rows : List StoredLine) (lines : List Line) → lines_at ticket place rows ≡ Some lines → rows ≡ placed_lines ticket place lines
lines_is ticket place [] lines e = ap (placed_lines ticket place) (same_Some [] lines e)
lines_is ticket place (row ∷ rows) lines e =
    let one = some_from_bind (line_at ticket place row) (λ line. lines_at ticket (place + 1) rows >>= λ more. Some (line ∷ more)) lines e in
    let more = some_from_bind (lines_at ticket (place + 1) rows) (λ more. Some (one.0 ∷ more)) lines one.2 in
    (λ i. line_is ticket place row one.0 one.1 i ∷ lines_is ticket (place + 1) rows more.0 more.1 i)
    ∙ ap (placed_lines ticket place) (same_Some (one.0 ∷ more.0) lines more.2)

-- ---- tickets
with_read : (ticket : Ticket) → TicketFits ticket → ticket_with (stored_ticket ticket) ticket.lines ≡ Some ticket
unfolding ticket_with
with_read ticket h =
    bind_some (day_in ticket.day) ticket.day _ _ (day_read ticket.day h.day)
    (bind_some (customer_in ticket.payee) ticket.payee _ _ (customer_read ticket.payee h.payee) refl)

with_is : (row : StoredTicket) (lines : List Line) (ticket : Ticket) → row.bonds ≡ length lines → ticket_with row lines ≡ Some ticket
    → (row ≡ stored_ticket ticket) × (lines ≡ ticket.lines)
unfolding ticket_with
with_is row lines ticket long e =
    let day = some_from_bind (day_in row.day) _ ticket e in
    let payee = some_from_bind (customer_in row.payee) _ ticket day.2 in
    let is = same_Some _ ticket payee.2 in (
      (λ i. record { ticket = row.ticket; day = day_is row.day day.0 day.1 i; payee = customer_is row.payee payee.0 payee.1 i; bonds = long i; total = row.total }) ∙ ap stored_ticket is,
      ap (λ (t : Ticket). t.lines) is,
    )

ticket_read : (ticket : Ticket) → TicketFits ticket → ticket_in (stored_ticket ticket) (stored_lines ticket) ≡ Some ticket
ticket_read ticket h =
    bind_some (lines_at ticket.ticket 1 (stored_lines ticket)) ticket.lines (ticket_with (stored_ticket ticket)) (Some ticket) (lines_read ticket.ticket 1 ticket.lines h.lines) (with_read ticket h)

length_placed : (n place : ℕ) (lines : List Line) → length (placed_lines n place lines) ≡ length lines
length_placed n place [] = refl
length_placed n place (line ∷ lines) = ap suc (length_placed n (place + 1) lines)

ticket_is : (row : StoredTicket) (own : List StoredLine) (ticket : Ticket) → length own ≡ row.bonds → ticket_in row own ≡ Some ticket → (row ≡ stored_ticket ticket) × (own ≡ stored_lines ticket)
ticket_is row own ticket long e =
    let lines = some_from_bind (lines_at row.ticket 1 own) (ticket_with row) ticket e in
    let are = lines_is row.ticket 1 own lines.0 lines.1 in
    let is = with_is row lines.0 ticket (sym long ∙ ap length are ∙ length_placed row.ticket 1 lines.0) lines.2 in
    (is.0, are ∙ λ i. placed_lines (is.0 i).ticket 1 (is.1 i))

front : {A : Type 0} (xs ys : List A) → take (length xs) (xs ++ ys) ≡ xs
front [] ys = refl
front (x ∷ xs) ys = ap (λ zs. x ∷ zs) (front xs ys)

back : {A : Type 0} (xs ys : List A) → drop (length xs) (xs ++ ys) ≡ ys
back [] ys = refl
back (x ∷ xs) ys = back xs ys

longer : {A : Type 0} (xs ys : List A) → length xs ≤ length (xs ++ ys)
longer [] ys = omega arith
longer (x ∷ xs) ys = let more = longer xs ys in omega (arith, more)

pub tickets_read : (tickets : List Ticket) → AllByRecursion TicketFits tickets → tickets_in (map stored_ticket tickets) (flat_map stored_lines tickets) ≡ Some tickets
tickets_read [] h = refl
tickets_read (t ∷ tickets) h =
    let rest = flat_map stored_lines tickets in
    let long = length_placed t.ticket 1 t.lines in
    let fits = le-leb (length t.lines) (length (stored_lines t ++ rest)) (subst (λ n. n ≤ length (stored_lines t ++ rest)) long (longer (stored_lines t) rest)) in
    let own = subst (λ n. take n (stored_lines t ++ rest) ≡ stored_lines t) long (front (stored_lines t) rest) in
    let later = subst (λ n. drop n (stored_lines t ++ rest) ≡ rest) long (back (stored_lines t) rest) in
    (λ i. cond (fits i) (ticket_in (stored_ticket t) (own i) >>= λ ticket. tickets_in (map stored_ticket tickets) (later i) >>= λ more. Some (ticket ∷ more)) None)
    ∙ bind_some (ticket_in (stored_ticket t) (stored_lines t)) t (λ ticket. tickets_in (map stored_ticket tickets) rest >>= λ more. Some (ticket ∷ more)) _ (ticket_read t h.0)
    (bind_some (tickets_in (map stored_ticket tickets) rest) tickets (λ more. Some (t ∷ more)) _ (tickets_read tickets h.1) refl)

pub tickets_is : (rows : List StoredTicket) (lines : List StoredLine) (tickets : List Ticket) → tickets_in rows lines ≡ Some tickets
    → (rows ≡ map stored_ticket tickets) × (lines ≡ flat_map stored_lines tickets)
tickets_is [] [] tickets e = let is = same_Some [] tickets e in (ap (map stored_ticket) is, ap (flat_map stored_lines) is)
tickets_is [] (line ∷ lines) tickets e = absurd (cc)
tickets_is (row ∷ rows) lines tickets e =
    let enough = cond_is (nat_le row.bonds (length lines)) tickets _ tickets e in
    let one = some_from_bind (ticket_in row (take row.bonds lines)) (λ ticket. tickets_in rows (drop row.bonds lines) >>= λ more. Some (ticket ∷ more)) tickets enough.1 in
    let more = some_from_bind (tickets_in rows (drop row.bonds lines)) (λ more. Some (one.0 ∷ more)) tickets one.2 in
    let own = ticket_is row (take row.bonds lines) one.0 (length-take-le row.bonds lines (leb-true row.bonds (length lines) enough.0)) one.1 in
    let rest = tickets_is rows (drop row.bonds lines) more.0 more.1 in
    let is = same_Some (one.0 ∷ more.0) tickets more.2 in (
      (λ i. own.0 i ∷ rest.0 i) ∙ ap (map stored_ticket) is,
      sym (take-append-drop row.bonds lines) ∙ (λ i. own.1 i ++ rest.1 i) ∙ ap (flat_map stored_lines) is,
    )

-- ---- batches
pub batch_read : (batch : Batch) → BatchFits batch → batch_in (stored_batch batch) ≡ Some batch
unfolding batch_in
batch_read batch h = bind_some (day_in batch.day) batch.day _ _ (day_read batch.day h.day) refl

pub batch_is : (row : StoredBatch) (batch : Batch) → batch_in row ≡ Some batch → row ≡ stored_batch batch
unfolding batch_in
batch_is row batch e =
    let day = some_from_bind (day_in row.day) _ batch e in
    (λ i. record { day = day_is row.day day.0 day.1 i; tickets = row.tickets; bonds = row.bonds; total = row.total }) ∙ ap stored_batch (same_Some _ batch day.2)
