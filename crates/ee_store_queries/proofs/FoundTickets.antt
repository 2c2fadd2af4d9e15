-- Batches and tickets by their keys, and the lines of a ticket by their rows.
use Rattle.std.proofs.Common.{◌≡◌, ◌==◌, ℕ, suc, ◌+◌, ◌<◌, ◌≤◌, Bool, true, false, cond, List, [], ◌∷◌, ◌++◌, map, filter, length, arith, append-nil, refl, sym, ap, ◌∙◌}
use Rattle.std.specs.Prelude.{flat_map, Option, Some, None, IfSome}
use Rattle.std.specs.Option.{option_map, unwrap_or}
use Rattle.std.specs.List as list
use Rattle.std.specs.Ordering.{nat_cmp}
use Rattle.std.specs.Cmp.{nat_cmp_total, eq_by_cmp_equiv, unsigned_tied}
use Rattle.std.specs.FinMap as finite
use Rattle.std.specs.FinMap.{find, get-from_entries}
use Rattle.std.proofs.lemmas.Bool.{eqb-true, false_from_ne_true}
use Rattle.std.proofs.lemmas.List.Elements.{filter-append}
use Rattle.ee_desk_model.specs.declared.replies.Line.{Line}
use Rattle.ee_desk_model.specs.declared.replies.Ticket.{Ticket}
use Rattle.ee_desk_model.specs.declared.replies.Batch.{Batch}
use Rattle.ee_desk_model.specs.Queries.{ticket_numbered, batch_on}
use Rattle.ee_desk_model.specs.Sound.{NumberedFrom}
use Rattle.ee_desk_model.specs.Repeats.{Content}
use Rattle.ee_store_tables.specs.declared.records.PlacedLine.{PlacedLine}
use Rattle.ee_store_tables.specs.AsRows.{placed_of}
use Rattle.ee_store_tables.specs.Rows.{PaidRow, TicketRow, lines_on}
use Rattle.ee_store_rows.specs.Rows.{batch_row, ticket_row, paid_row}
use Rattle.ee_store_books.specs.Standing.{rows_of, placed, IsRight}
use Rattle.ee_store_books.proofs.Lemmas.Contents.{ticket_lines, paid_entries}
use Rattle.ee_store_queries.specs.Inner.Asking.{row_of_placed}

-- ---- what is found by a number, in the rows of a list
module _ {A V : Type 0} (key : A → ℕ) (value : A → V) where
  moved : (b : Bool) (x : A) (o : Option A) → cond b (Some (value x)) (option_map value o) ≡ option_map value (cond b (Some x) o)
  moved true x o = refl
  moved false x o = refl

  found_by : (n : ℕ) (xs : List A) → find nat_cmp n (map (λ x. (key x, value x)) xs) ≡ option_map value (list.find (λ x. key x == n) xs)
  found_by n [] = refl
  found_by n (x ∷ xs) =
      (λ i. cond (((eq_by_cmp_equiv nat_cmp_total).symm n (key x) ∙ unsigned_tied (key x) n) i) (Some (value x)) (found_by n xs i))
      ∙ moved (key x == n) x (list.find (λ x. key x == n) xs)

  keyed_by : (n : ℕ) (xs : List A) → IfSome (list.find (λ x. key x == n) xs) (λ x. key x ≡ n)
  keyed_by n [] = tt
  keyed_by n (x ∷ xs) = chosen (key x == n) refl (keyed_by n xs)
    where
      chosen : (b : Bool) → (key x == n) ≡ b → IfSome (list.find (λ x. key x == n) xs) (λ x. key x ≡ n) → IfSome (cond b (Some x) (list.find (λ x. key x == n) xs)) (λ x. key x ≡ n)
      chosen true is rest = eqb-true (key x) n is
      chosen false is rest = rest

-- ---- batches
one_batch : (n : ℕ) (o p : Option Batch) → IfSome o (λ b. b.day ≡ n) → IfSome p (λ b. b.day ≡ n) → option_map batch_row o ≡ option_map batch_row p → o ≡ p
one_batch n None None h k e = refl
one_batch n None (Some y) h k e = absurd (cc)
one_batch n (Some x) None h k e = absurd (cc)
one_batch n (Some x) (Some y) h k e =
    let row = ap (λ o. unwrap_or o (batch_row x)) e in
    λ i. Some (record { day = (h ∙ sym k) i; tickets = (row i).tickets; bonds = (row i).bonds; total = record { 0 = (row i).total } })

pub batch_found : (S : Content) (day : ℕ) (o : Option Batch) → IfSome o (λ b. b.day ≡ day) → option_map batch_row o ≡ finite.get (rows_of S).batches day → o ≡ batch_on S.books day
batch_found S day o own is =
    one_batch day o (batch_on S.books day) own (keyed_by (λ (b : Batch). b.day) batch_row day S.books.batches)
    (is ∙ get-from_entries nat_cmp_total _ day ∙ found_by (λ (b : Batch). b.day) batch_row day S.books.batches)

-- ---- lines
abbrev is_on : ℕ → (ℕ × ℕ) × PaidRow → Bool
is_on n e = e.0.0 == n

abbrev lines_of : Option Ticket → List ((ℕ × ℕ) × PaidRow)
lines_of None = []
lines_of (Some t) = ticket_lines t

placed_on : (n m place : ℕ) (lines : List Line) (b : Bool) → (m == n) ≡ b → filter (is_on n) (placed m place lines) ≡ cond b (placed m place lines) []
placed_on n m place [] true is = refl
placed_on n m place [] false is = refl
placed_on n m place (line ∷ lines) true is =
    ap (λ b. cond b (((m, place), paid_row line) ∷ filter (is_on n) (placed m (place + 1) lines)) (filter (is_on n) (placed m (place + 1) lines))) is
    ∙ ap (λ l. ((m, place), paid_row line) ∷ l) (placed_on n m (place + 1) lines true is)
placed_on n m place (line ∷ lines) false is =
    ap (λ b. cond b (((m, place), paid_row line) ∷ filter (is_on n) (placed m (place + 1) lines)) (filter (is_on n) (placed m (place + 1) lines))) is
    ∙ placed_on n m (place + 1) lines false is

none_later : (n k : ℕ) (tickets : List Ticket) → n < k → NumberedFrom k tickets → filter (is_on n) (flat_map ticket_lines tickets) ≡ []
none_later n k [] low numbered = refl
none_later n k (t ∷ tickets) low numbered =
    let number = numbered.0 in
    let apart = false_from_ne_true (t.ticket == n) (λ same. let is = eqb-true t.ticket n same in absurd (omega (arith, low, number, is))) in
    filter-append (is_on n) (ticket_lines t) (flat_map ticket_lines tickets)
    ∙ (λ i. placed_on n t.ticket 1 t.lines false apart i ++ none_later n (suc k) tickets (omega (arith, low)) numbered.1 i)

own_lines : (n k : ℕ) (tickets : List Ticket) → NumberedFrom k tickets → filter (is_on n) (flat_map ticket_lines tickets) ≡ lines_of (list.find (λ t. t.ticket == n) tickets)
own_lines n k [] numbered = refl
own_lines n k (t ∷ tickets) numbered = filter-append (is_on n) (ticket_lines t) (flat_map ticket_lines tickets) ∙ chosen (t.ticket == n) refl (own_lines n (suc k) tickets numbered.1)
  where
    chosen : (b : Bool) → (t.ticket == n) ≡ b → filter (is_on n) (flat_map ticket_lines tickets) ≡ lines_of (list.find (λ t. t.ticket == n) tickets)
        → filter (is_on n) (ticket_lines t) ++ filter (is_on n) (flat_map ticket_lines tickets) ≡ lines_of (cond b (Some t) (list.find (λ t. t.ticket == n) tickets))
    chosen true is rest =
        let number = numbered.0 in
        let same = eqb-true t.ticket n is in
        (λ i. placed_on n t.ticket 1 t.lines true is i ++ none_later n (suc k) tickets (omega (arith, number, same)) numbered.1 i) ∙ append-nil (ticket_lines t)
    chosen false is rest = λ i. placed_on n t.ticket 1 t.lines false is i ++ rest i

lines_found : (S : Content) (n : ℕ) → IsRight S → lines_on (rows_of S) n ≡ lines_of (ticket_numbered S.books n)
lines_found S n right = ap (filter (is_on n)) (paid_entries S.books.tickets right.sound.numbered) ∙ own_lines n 1 S.books.tickets right.sound.numbered

-- ---- tickets
row_found : (S : Content) (n : ℕ) → finite.get (rows_of S).tickets n ≡ option_map ticket_row (ticket_numbered S.books n)
row_found S n = get-from_entries nat_cmp_total _ n ∙ found_by (λ (t : Ticket). t.ticket) ticket_row n S.books.tickets

not_there : (o : Option Ticket) → None ≡ option_map ticket_row o → None ≡ o
not_there None is = refl
not_there (Some t) is = absurd (cc)

pub no_ticket : (S : Content) (n : ℕ) → None ≡ finite.get (rows_of S).tickets n → None ≡ ticket_numbered S.books n
no_ticket S n is = not_there (ticket_numbered S.books n) (is ∙ row_found S n)

none_beyond : (n k : ℕ) (tickets : List Ticket) → NumberedFrom k tickets → k + length tickets ≤ n → None ≡ list.find (λ t. t.ticket == n) tickets
none_beyond n k [] numbered far = refl
none_beyond n k (t ∷ tickets) numbered far =
    let number = numbered.0 in
    let apart = false_from_ne_true (t.ticket == n) (λ same. let is = eqb-true t.ticket n same in absurd (omega (arith, far, number, is))) in
    none_beyond n (suc k) tickets numbered.1 (omega (arith, far)) ∙ sym (ap (λ b. cond b (Some t) (list.find (λ t. t.ticket == n) tickets)) apart)

-- tickets are numbered from 1 on
pub beyond_last : (S : Content) (n count : ℕ) → IsRight S → count ≡ length S.books.tickets → count < n → None ≡ ticket_numbered S.books n
beyond_last S n count right is far = none_beyond n 1 S.books.tickets right.sound.numbered (omega (arith, is, far))

abbrev line_back : PaidRow → Line
line_back row = record { serial = record { letter = row.letter; number = row.number }; cents = record { 0 = row.cents } }

lines_back : (lines : List Line) → map line_back (map paid_row lines) ≡ lines
lines_back [] = refl
lines_back (line ∷ lines) = ap (λ l. line ∷ l) (lines_back lines)

lines_shown : (n place : ℕ) (lines : List Line) → map row_of_placed (map placed_of (placed n place lines)) ≡ map paid_row lines
lines_shown n place [] = refl
lines_shown n place (line ∷ lines) = ap (λ l. paid_row line ∷ l) (lines_shown n (place + 1) lines)

one_ticket : (t : Ticket) (row : TicketRow) (n : ℕ) (o : Option Ticket) → IfSome o (λ u. u.ticket ≡ n) → Some row ≡ option_map ticket_row o
    → (t.ticket ≡ n) × (t.day ≡ row.day) × (t.payee ≡ row.payee) × (t.total.0 ≡ row.total) → map paid_row t.lines ≡ map row_of_placed (map placed_of (lines_of o)) → Some t ≡ o
one_ticket t row n None keyed e is lines = absurd (cc)
one_ticket t row n (Some u) keyed e is lines =
    let same = ap (λ o. unwrap_or o row) e in
    let own = sym (lines_back t.lines) ∙ ap (map line_back) (lines ∙ lines_shown u.ticket 1 u.lines) ∙ lines_back u.lines in
    λ i. Some (record {
      ticket = (is.0 ∙ sym keyed) i;
      day = (is.1 ∙ ap (λ (r : TicketRow). r.day) same) i;
      payee = (is.2 ∙ ap (λ (r : TicketRow). r.payee) same) i;
      lines = own i;
      total = record { 0 = (is.3 ∙ ap (λ (r : TicketRow). r.total) same) i };
    })

pub ticket_found : (S : Content) (n : ℕ) (t : Ticket) (row : TicketRow) (lines : List PlacedLine) → IsRight S → Some row ≡ finite.get (rows_of S).tickets n
    → lines ≡ map placed_of (lines_on (rows_of S) n)
    → (t.ticket ≡ n) × (t.day ≡ row.day) × (t.payee ≡ row.payee) × (t.total.0 ≡ row.total) → map paid_row t.lines ≡ map row_of_placed lines → Some t ≡ ticket_numbered S.books n
ticket_found S n t row lines right found are is own =
    one_ticket t row n (ticket_numbered S.books n) (keyed_by (λ (t : Ticket). t.ticket) ticket_row n S.books.tickets) (found ∙ row_found S n) is
    (own ∙ ap (map row_of_placed) (are ∙ ap (map placed_of) (lines_found S n right)))
