-- Rows change as the books change.
use Rattle.std.proofs.Common.{◌≡◌, ℕ, suc, ◌+◌, ◌<◌, ◌≤◌, eqb, Bool, true, false, cond, ◌||◌, List, [], ◌∷◌, ◌++◌, map, length, arith, refl, sym, ap, ◌∙◌, append-nil, append_assoc, Equal}
use Rattle.std.specs.Prelude.{flat_map, Option, Some, None}
use Rattle.std.specs.Option.{option_map, option_and_then, option_or}
use Rattle.std.specs.List.{AllByRecursion, list_any}
use Rattle.std.specs.Ordering.{nat_cmp, eq_by_cmp}
use Rattle.std.specs.declared.cmp.Ordering.{Ordering}
use Rattle.std.specs.Cmp.{nat_cmp_total, unsigned_tied, Equal-is}
use Rattle.std.proofs.lemmas.List.{map-append}
use Rattle.std.proofs.lemmas.Bool.{false_from_ne_true}
use Rattle.std.specs.FinMap as finite
use Rattle.std.specs.FinMap.{FinMap, nat_cmp-IsAntisymmetric, find, insert, from_entries, get-insert, get-from_entries, from_entries_push, same_map}
use Rattle.ee_units.specs.Spelling.{SerialNumber}
use Rattle.ee_value.specs.declared.rates.Rates.{Rates}
use Rattle.ee_value.specs.Chain.{named_extension}
use Rattle.ee_calculator.specs.declared.bonds.Bond.{Bond}
use Rattle.ee_desk_model.specs.declared.changes.Kept.{Kept}
use Rattle.ee_desk_model.specs.declared.replies.Line.{Line}
use Rattle.ee_desk_model.specs.declared.replies.Ticket.{Ticket}
use Rattle.ee_desk_model.specs.declared.replies.Batch.{Batch}
use Rattle.ee_desk_model.specs.Serials.{serial_cmp, same_serial}
use Rattle.ee_desk_model.specs.Numbers.{RequestKey, number_cmp}
use Rattle.ee_desk_model.specs.PlainBooks.{ticket_of, names}
use Rattle.ee_desk_model.specs.Seen.{held_as}
use Rattle.ee_desk_model.specs.Sound.{NumberedFrom, day_of_batch}
use Rattle.ee_desk_model.proofs.Lemmas.Maps.{serials_total, serials_exact, serials_tied, numbers_total}
use Rattle.ee_desk_model.proofs.Lemmas.Books.{ticket_of_push, named_unpaid}
use Rattle.std.proofs.lemmas.Map.Lookups.{exact_unsigned}
use Rattle.std.proofs.lemmas.Map.Views.{tells_apart}
use Rattle.ee_store_tables.proofs.Lemmas.Rows.{pair_total, pair_same}
use Rattle.ee_store_books.proofs.Lemmas.Contents.{get_rate_row, get_extension_row, get_reply_row, get_bond_row, ticket_entry, ticket_lines, batch_entry}
use Rattle.ee_store_tables.specs.Keyed.{pair_cmp}
use Rattle.ee_store_tables.specs.Rows.{Rows, BondRow, PaidRow, DeskRow, with_lines, marked_as}
use Rattle.ee_store_rows.specs.Rows.{bond_row, key_of, ticket_row, paid_row, batch_row}
use Rattle.ee_store_books.specs.Standing.{rate_rows, extension_rows, bond_rows, ticket_rows, paid_rows, placed, batch_rows, reply_rows, reply_row, desk_rows}

-- ---- rates
rate_case : (b : Bool) (r : Rates) (o : Option Rates) → option_map (λ (r : Rates). r.fixed) (cond b (Some r) o) ≡ cond b (Some r.fixed) (option_map (λ r. r.fixed) o)
rate_case true r o = refl
rate_case false r o = refl

pub with_new_rate : (rates : FinMap nat_cmp Rates) (from : ℕ) (r : Rates) → rate_rows (insert rates from r) ≡ insert (rate_rows rates) from r.fixed
with_new_rate rates from r = same_map nat_cmp_total nat_cmp-IsAntisymmetric _ _ (λ q.
    get_rate_row (insert rates from r) q ∙ ap (option_map (λ r. r.fixed)) (get-insert nat_cmp_total rates from r q)
    ∙ rate_case (eq_by_cmp nat_cmp q from) r (finite.get rates q)
    ∙ ap (cond (eq_by_cmp nat_cmp q from) (Some r.fixed)) (sym (get_rate_row rates q))
    ∙ sym (get-insert nat_cmp_total (rate_rows rates) from r.fixed q))

-- ---- extensions
-- if none is named, under a period that had no terms
extension_none : (b : Bool) (r : Rates) (o : Option Rates) → named_extension r ≡ None → (b ≡ true → o ≡ None)
    → option_and_then named_extension (cond b (Some r) o) ≡ option_and_then named_extension o
extension_none true r o same none = same ∙ ap (option_and_then named_extension) (sym (none refl))
extension_none false r o same none = refl

pub with_no_extension : (rates : FinMap nat_cmp Rates) (from : ℕ) (r : Rates) → finite.get rates from ≡ None → named_extension r ≡ None
    → extension_rows (insert rates from r) ≡ extension_rows rates
with_no_extension rates from r none same = same_map nat_cmp_total nat_cmp-IsAntisymmetric _ _ (λ q.
    get_extension_row (insert rates from r) q ∙ ap (option_and_then named_extension) (get-insert nat_cmp_total rates from r q)
    ∙ extension_none (eq_by_cmp nat_cmp q from) r (finite.get rates q) same (λ is. ap (finite.get rates) (tells_apart exact_unsigned q from is) ∙ none)
    ∙ sym (get_extension_row rates q))

-- if one is named
extension_some : (b : Bool) (r : Rates) (e : ℕ) (o : Option Rates) → named_extension r ≡ Some e
    → option_and_then named_extension (cond b (Some r) o) ≡ cond b (Some e) (option_and_then named_extension o)
extension_some true r e o is = is
extension_some false r e o is = refl

pub with_new_extension : (rates : FinMap nat_cmp Rates) (from : ℕ) (r : Rates) (e : ℕ) → named_extension r ≡ Some e
    → extension_rows (insert rates from r) ≡ insert (extension_rows rates) from e
with_new_extension rates from r e is = same_map nat_cmp_total nat_cmp-IsAntisymmetric _ _ (λ q.
    get_extension_row (insert rates from r) q ∙ ap (option_and_then named_extension) (get-insert nat_cmp_total rates from r q)
    ∙ extension_some (eq_by_cmp nat_cmp q from) r e (finite.get rates q) is
    ∙ ap (cond (eq_by_cmp nat_cmp q from) (Some e)) (sym (get_extension_row rates q))
    ∙ sym (get-insert nat_cmp_total (extension_rows rates) from e q))

-- ---- replies
reply_case : (b : Bool) (k : Kept) (o : Option Kept) → option_map reply_row (cond b (Some k) o) ≡ cond b (Some (reply_row k)) (option_map reply_row o)
reply_case true k o = refl
reply_case false k o = refl

pub with_new_reply : (kept : FinMap number_cmp Kept) (n : RequestKey) (k : Kept) → reply_rows (insert kept n k) ≡ insert (reply_rows kept) n (reply_row k)
with_new_reply kept n k = same_map pair_total pair_same _ _ (λ q.
    get_reply_row (insert kept n k) q ∙ ap (option_map reply_row) (get-insert numbers_total kept n k q)
    ∙ reply_case (eq_by_cmp number_cmp q n) k (finite.get kept q)
    ∙ ap (cond (eq_by_cmp number_cmp q n) (Some (reply_row k))) (sym (get_reply_row kept q))
    ∙ sym (get-insert pair_total (reply_rows kept) n (reply_row k) q))

-- ---- bonds
abbrev at : ℕ × ℕ → SerialNumber
at q = record { letter = q.0; number = q.1 }

abbrev row_at : List Ticket → SerialNumber → Bond → BondRow
row_at tickets s bond = bond_row (held_as tickets s bond)

bond_case : (tickets : List Ticket) (s new : SerialNumber) (bond : Bond) (o : Option Bond) (b : Bool) → ticket_of tickets new ≡ None → eq_by_cmp serial_cmp s new ≡ b
    → option_map (row_at tickets s) (cond b (Some bond) o) ≡ cond b (Some (bond_row (record { bond = bond; ticket = None }))) (option_map (row_at tickets s) o)
bond_case tickets s new bond o true unpaid same =
    ap (λ t. Some (bond_row (record { bond = bond; ticket = t }))) (ap (ticket_of tickets) (tells_apart serials_exact s new same) ∙ unpaid)
bond_case tickets s new bond o false unpaid apart = refl

pub with_new_bond : (bonds : FinMap serial_cmp Bond) (tickets : List Ticket) (s : SerialNumber) (bond : Bond) → ticket_of tickets s ≡ None
    → bond_rows (insert bonds s bond) tickets ≡ insert (bond_rows bonds tickets) (key_of s) (bond_row (record { bond = bond; ticket = None }))
with_new_bond bonds tickets s bond unpaid = same_map pair_total pair_same _ _ (λ q.
    get_bond_row (insert bonds s bond) tickets (at q) ∙ ap (option_map (row_at tickets (at q))) (get-insert serials_total bonds s bond (at q))
    ∙ bond_case tickets (at q) s bond (finite.get bonds (at q)) (eq_by_cmp serial_cmp (at q) s) unpaid refl
    ∙ ap (cond (eq_by_cmp serial_cmp (at q) s) (Some (bond_row (record { bond = bond; ticket = None })))) (sym (get_bond_row bonds tickets (at q)))
    ∙ sym (get-insert pair_total (bond_rows bonds tickets) (key_of s) (bond_row (record { bond = bond; ticket = None })) q))

-- ---- days
one_row : {X : Type 0} (b : Bool) (x y : X) → cond b (Some x) None ≡ cond b (Some x) (cond b (Some y) None)
one_row true x y = refl
one_row false x y = refl

pub with_other_days : (day last_day other_day other_last : Option ℕ)
    → desk_rows 2 other_day other_last ≡ insert (desk_rows 2 day last_day) 1 (record { version = 2; day = other_day; last_day = other_last })
with_other_days day last_day other_day other_last =
    let old : DeskRow = record { version = 2; day = day; last_day = last_day } in
    let new : DeskRow = record { version = 2; day = other_day; last_day = other_last } in
    same_map nat_cmp_total nat_cmp-IsAntisymmetric _ _ (λ q.
    get-from_entries nat_cmp_total ((1, new) ∷ []) q ∙ one_row (eq_by_cmp nat_cmp q 1) new old
    ∙ ap (cond (eq_by_cmp nat_cmp q 1) (Some new)) (sym (get-from_entries nat_cmp_total ((1, old) ∷ []) q))
    ∙ sym (get-insert nat_cmp_total (desk_rows 2 day last_day) 1 new q))

-- ---- tickets
above_apart : (m n : ℕ) → m < n → eq_by_cmp nat_cmp n m ≡ false
above_apart m n h = unsigned_tied n m ∙ false_from_ne_true (eqb n m) (λ e. let is = nat_cmp-IsAntisymmetric n m (equal n m e) in absurd (omega (arith, h, is)))
  where
    equal : (a b : ℕ) → eqb a b ≡ true → nat_cmp a b ≡ Equal
    equal a b e = (Equal-is (nat_cmp a b)).0 (unsigned_tied a b ∙ e)

not_found : (n k : ℕ) (tickets : List Ticket) → NumberedFrom n tickets → n + length tickets ≤ k → find nat_cmp k (map ticket_entry tickets) ≡ None
not_found n k [] numbered far = refl
not_found n k (t ∷ tickets) numbered far =
    let is = numbered.0 in
    ap (λ b. cond b (Some (ticket_row t)) (find nat_cmp k (map ticket_entry tickets))) (above_apart t.ticket k (omega (arith, is, far)))
    ∙ not_found (suc n) k tickets numbered.1 (omega (arith, far))

pub with_new_ticket : (tickets : List Ticket) (t : Ticket) → NumberedFrom 1 tickets → t.ticket ≡ length tickets + 1
    → ticket_rows (tickets ++ t ∷ []) ≡ insert (ticket_rows tickets) t.ticket (ticket_row t)
with_new_ticket tickets t numbered next =
    ap from_entries (map-append ticket_entry tickets (t ∷ []))
    ∙ from_entries_push nat_cmp_total nat_cmp-IsAntisymmetric (map ticket_entry tickets) t.ticket (ticket_row t) (not_found 1 t.ticket tickets numbered (omega (arith, next)))

-- ---- lines of a ticket
none_by : {K X : Type 0} (R : K → K → Ordering) (q : K) (es : List (K × X)) → AllByRecursion (λ e. eq_by_cmp R q e.0 ≡ false) es → find R q es ≡ None
none_by R q [] h = refl
none_by R q (e ∷ es) h = ap (λ b. cond b (Some e.1) (find R q es)) h.0 ∙ none_by R q es h.1

-- those of the same ticket stand in earlier places
abbrev AreBefore : ℕ → ℕ → List ((ℕ × ℕ) × PaidRow) → Type 0
AreBefore n place es = AllByRecursion (λ e. e.0.0 ≡ n → e.0.1 < place) es

before_next : (n place : ℕ) (es : List ((ℕ × ℕ) × PaidRow)) (row : PaidRow) → AreBefore n place es → AreBefore n (place + 1) (es ++ ((n, place), row) ∷ [])
before_next n place [] row h = (λ _. omega arith, tt)
before_next n place (e ∷ es) row h = ((λ is. let low = h.0 is in omega (arith, low)), before_next n place es row h.1)

before_apart : (n place : ℕ) (es : List ((ℕ × ℕ) × PaidRow)) → AreBefore n place es → AllByRecursion (λ e. eq_by_cmp pair_cmp (n, place) e.0 ≡ false) es
before_apart n place [] h = tt
before_apart n place (e ∷ es) h = (
  false_from_ne_true (eq_by_cmp pair_cmp (n, place) e.0) (λ same.
      let is = tells_apart pair_same (n, place) e.0 same in
      let low = h.0 (sym (ap (λ k. k.0) is)) in
      let at = ap (λ k. k.1) is in
      absurd (omega (arith, low, at))),
  before_apart n place es h.1,
)

pub paid_with : FinMap pair_cmp PaidRow → ℕ → ℕ → List Line → FinMap pair_cmp PaidRow
paid_with paid n place [] = paid
paid_with paid n place (line ∷ lines) = paid_with (insert paid (n, place) (paid_row line)) n (place + 1) lines

paid_with_is : (es : List ((ℕ × ℕ) × PaidRow)) (n place : ℕ) (lines : List Line) → AreBefore n place es → paid_with (from_entries es) n place lines ≡ from_entries (es ++ placed n place lines)
unfolding paid_with
paid_with_is es n place [] h = ap from_entries (sym (append-nil es))
paid_with_is es n place (line ∷ lines) h =
    ap (λ m. paid_with m n (place + 1) lines) (sym (from_entries_push pair_total pair_same es (n, place) (paid_row line) (none_by pair_cmp (n, place) es (before_apart n place es h))))
    ∙ paid_with_is (es ++ ((n, place), paid_row line) ∷ []) n (place + 1) lines (before_next n place es (paid_row line) h)
    ∙ ap from_entries (append_assoc es (((n, place), paid_row line) ∷ []) (placed n (place + 1) lines))

before_append : (n place : ℕ) (es fs : List ((ℕ × ℕ) × PaidRow)) → AreBefore n place es → AreBefore n place fs → AreBefore n place (es ++ fs)
before_append n place [] fs h k = k
before_append n place (e ∷ es) fs h k = (h.0, before_append n place es fs h.1 k)

placed_before : (m n place from : ℕ) (lines : List Line) → m < n → AreBefore n place (placed m from lines)
placed_before m n place from [] h = tt
placed_before m n place from (line ∷ lines) h = ((λ is. absurd (omega (arith, h, is))), placed_before m n place (from + 1) lines h)

earlier_before : (n k : ℕ) (tickets : List Ticket) → NumberedFrom k tickets → k + length tickets ≤ n → AreBefore n 1 (flat_map ticket_lines tickets)
earlier_before n k [] numbered far = tt
earlier_before n k (t ∷ tickets) numbered far =
    let is = numbered.0 in
    before_append n 1 (ticket_lines t) (flat_map ticket_lines tickets) (placed_before t.ticket n 1 1 t.lines (omega (arith, is, far)))
    (earlier_before n (suc k) tickets numbered.1 (omega (arith, far)))

lines_push : (tickets : List Ticket) (t : Ticket) → flat_map ticket_lines (tickets ++ t ∷ []) ≡ flat_map ticket_lines tickets ++ ticket_lines t
lines_push [] t = append-nil (ticket_lines t)
lines_push (u ∷ tickets) t = ap (λ l. ticket_lines u ++ l) (lines_push tickets t) ∙ sym (append_assoc (ticket_lines u) (flat_map ticket_lines tickets) (ticket_lines t))

pub with_new_lines : (tickets : List Ticket) (t : Ticket) → NumberedFrom 1 tickets → t.ticket ≡ length tickets + 1
    → paid_rows (tickets ++ t ∷ []) ≡ paid_with (paid_rows tickets) t.ticket 1 t.lines
with_new_lines tickets t numbered next =
    ap from_entries (lines_push tickets t)
    ∙ sym (paid_with_is (flat_map ticket_lines tickets) t.ticket 1 t.lines (earlier_before t.ticket 1 tickets numbered (omega (arith, next))))

-- ---- marks on bonds
mark_as : FinMap pair_cmp BondRow → ℕ × ℕ → ℕ → Option BondRow → FinMap pair_cmp BondRow
mark_as bonds k n None = bonds
mark_as bonds k n (Some bond) = insert bonds k (record bond { ticket = Some n })

pub marks : FinMap pair_cmp BondRow → ℕ → List Line → FinMap pair_cmp BondRow
marks bonds n [] = bonds
marks bonds n (line ∷ lines) = marks (mark_as bonds (key_of line.serial) n (finite.get bonds (key_of line.serial))) n lines

abbrev mark_if : Bool → ℕ → BondRow → BondRow
mark_if b n bond = record bond { ticket = cond b (Some n) bond.ticket }

not_marked : (n : ℕ) (o : Option BondRow) → option_map (mark_if false n) o ≡ o
not_marked n None = refl
not_marked n (Some bond) = refl

none_marked : (b : Bool) (n : ℕ) (o : Option BondRow) → (b ≡ true → o ≡ None) → o ≡ option_map (mark_if b n) o
none_marked true n o h = h refl ∙ ap (option_map (mark_if true n)) (sym (h refl))
none_marked false n o h = sym (not_marked n o)

one_marked : (b : Bool) (n : ℕ) (bond : BondRow) (o : Option BondRow) → (b ≡ true → o ≡ Some bond) → cond b (Some (record bond { ticket = Some n })) o ≡ option_map (mark_if b n) o
one_marked true n bond o h = ap (option_map (mark_if true n)) (sym (h refl))
one_marked false n bond o h = sym (not_marked n o)

get_mark : (bonds : FinMap pair_cmp BondRow) (k : ℕ × ℕ) (n : ℕ) (o : Option BondRow) (q : ℕ × ℕ) → finite.get bonds k ≡ o
    → finite.get (mark_as bonds k n o) q ≡ option_map (mark_if (eq_by_cmp pair_cmp q k) n) (finite.get bonds q)
unfolding mark_as
get_mark bonds k n None q is = none_marked (eq_by_cmp pair_cmp q k) n (finite.get bonds q) (λ same. ap (finite.get bonds) (tells_apart pair_same q k same) ∙ is)
get_mark bonds k n (Some bond) q is =
    get-insert pair_total bonds k (record bond { ticket = Some n }) q
    ∙ one_marked (eq_by_cmp pair_cmp q k) n bond (finite.get bonds q) (λ same. ap (finite.get bonds) (tells_apart pair_same q k same) ∙ is)

twice_marked : (b c : Bool) (n : ℕ) (o : Option BondRow) → option_map (mark_if c n) (option_map (mark_if b n) o) ≡ option_map (mark_if (b || c) n) o
twice_marked b c n None = refl
twice_marked true true n (Some bond) = refl
twice_marked true false n (Some bond) = refl
twice_marked false c n (Some bond) = refl

get_marks : (bonds : FinMap pair_cmp BondRow) (n : ℕ) (lines : List Line) (q : ℕ × ℕ)
    → finite.get (marks bonds n lines) q ≡ option_map (mark_if (list_any (λ line. eq_by_cmp pair_cmp q (key_of line.serial)) lines) n) (finite.get bonds q)
unfolding marks
get_marks bonds n [] q = sym (not_marked n (finite.get bonds q))
get_marks bonds n (line ∷ lines) q =
    let k = key_of line.serial in
    get_marks (mark_as bonds k n (finite.get bonds k)) n lines q
    ∙ ap (option_map (mark_if (list_any (λ line. eq_by_cmp pair_cmp q (key_of line.serial)) lines) n)) (get_mark bonds k n (finite.get bonds k) q refl)
    ∙ twice_marked (eq_by_cmp pair_cmp q k) _ n (finite.get bonds q)

any_names : (s : SerialNumber) (lines : List Line) → list_any (λ line. eq_by_cmp pair_cmp (key_of s) (key_of line.serial)) lines ≡ list_any (λ line. same_serial s line.serial) lines
any_names s [] = refl
any_names s (line ∷ lines) = λ i. serials_tied s line.serial i || any_names s lines i

or_none_right : (o : Option ℕ) → option_or o None ≡ o
or_none_right None = refl
or_none_right (Some x) = refl

last_pays : (b : Bool) (n : ℕ) (o : Option ℕ) → (b ≡ true → o ≡ None) → option_or o (cond b (Some n) None) ≡ cond b (Some n) o
last_pays true n o h = ap (λ p. option_or p (Some n)) (h refl)
last_pays false n o h = or_none_right o

paid_row_at : (b : Bool) (n : ℕ) (old new : List Ticket) (s : SerialNumber) (o : Option Bond) → ticket_of new s ≡ cond b (Some n) (ticket_of old s)
    → option_map (row_at new s) o ≡ option_map (mark_if b n) (option_map (row_at old s) o)
paid_row_at b n old new s None is = refl
paid_row_at b n old new s (Some bond) is = ap (λ t. Some (bond_row (record { bond = bond; ticket = t }))) is

pub with_new_marks : (bonds : FinMap serial_cmp Bond) (tickets : List Ticket) (t : Ticket) → AllByRecursion (λ line. ticket_of tickets line.serial ≡ None) t.lines
    → bond_rows bonds (tickets ++ t ∷ []) ≡ marks (bond_rows bonds tickets) t.ticket t.lines
with_new_marks bonds tickets t unpaid = same_map pair_total pair_same _ _ (λ q.
    let s = at q in
    let pays = ticket_of_push tickets t s ∙ last_pays (names s t) t.ticket (ticket_of tickets s) (named_unpaid tickets s t.lines unpaid) in
    get_bond_row bonds (tickets ++ t ∷ []) s
    ∙ paid_row_at (names s t) t.ticket tickets (tickets ++ t ∷ []) s (finite.get bonds s) pays
    ∙ ap (λ b. option_map (mark_if b t.ticket) (option_map (row_at tickets s) (finite.get bonds s))) (sym (any_names s t.lines))
    ∙ ap (option_map (mark_if (list_any (λ line. eq_by_cmp pair_cmp q (key_of line.serial)) t.lines) t.ticket)) (sym (get_bond_row bonds tickets s))
    ∙ sym (get_marks (bond_rows bonds tickets) t.ticket t.lines q))

-- what is written line by line
abbrev pub with_parts : Rows → FinMap pair_cmp PaidRow → FinMap pair_cmp BondRow → Rows
with_parts rows paid bonds = record rows { paid = paid; bonds = bonds }

line_parts : (rows : Rows) (paid : FinMap pair_cmp PaidRow) (k : ℕ × ℕ) (n : ℕ) (o : Option BondRow) → marked_as (record rows { paid = paid }) k n o ≡ with_parts rows paid (mark_as rows.bonds k n o)
unfolding mark_as
line_parts rows paid k n None = refl
line_parts rows paid k n (Some bond) = refl

pub lines_parts : (rows : Rows) (n place : ℕ) (lines : List Line) → with_lines rows n place (map paid_row lines) ≡ with_parts rows (paid_with rows.paid n place lines) (marks rows.bonds n lines)
unfolding paid_with marks
lines_parts rows n place [] = refl
lines_parts rows n place (line ∷ lines) =
    let k = key_of line.serial in
    let now = with_parts rows (insert rows.paid (n, place) (paid_row line)) (mark_as rows.bonds k n (finite.get rows.bonds k)) in
    ap (λ r. with_lines r n (place + 1) (map paid_row lines)) (line_parts rows (insert rows.paid (n, place) (paid_row line)) k n (finite.get rows.bonds k))
    ∙ lines_parts now n (place + 1) lines

-- ---- batches
batches_apart : (day : ℕ) (batches : List Batch) → AllByRecursion (λ d. d < day) (map day_of_batch batches) → AllByRecursion (λ e. eq_by_cmp nat_cmp day e.0 ≡ false) (map batch_entry batches)
batches_apart day [] h = tt
batches_apart day (b ∷ batches) h = (above_apart b.day day h.0, batches_apart day batches h.1)

pub with_new_batch : (batches : List Batch) (b : Batch) → AllByRecursion (λ d. d < b.day) (map day_of_batch batches) → batch_rows (batches ++ b ∷ []) ≡ insert (batch_rows batches) b.day (batch_row b)
with_new_batch batches b later =
    ap from_entries (map-append batch_entry batches (b ∷ []))
    ∙ from_entries_push nat_cmp_total nat_cmp-IsAntisymmetric (map batch_entry batches) b.day (batch_row b) (none_by nat_cmp b.day (map batch_entry batches) (batches_apart b.day batches later))
