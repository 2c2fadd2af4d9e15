-- Rows represent one content at most.
use Rattle.std.proofs.Common.{◌≡◌, ℕ, suc, ◌+◌, List, [], ◌∷◌, ◌++◌, map, length, arith, refl, sym, ap, ◌∙◌}
use Rattle.std.specs.Prelude.{flat_map, Option, Some, None, IfSome, option_and_then}
use Rattle.std.specs.Option.{option_map, unwrap_or}
use Rattle.std.specs.Ordering.{nat_cmp}
use Rattle.std.specs.Cmp.{nat_cmp_total}
use Rattle.std.specs.FinMap as finite
use Rattle.std.specs.FinMap.{FinMap, nat_cmp-IsAntisymmetric, entries, same_map}
use Rattle.ee_units.specs.Spelling.{SerialNumber}
use Rattle.ee_units.proofs.Lemmas.{same_denom}
use Rattle.ee_value.specs.declared.rates.Rates.{Rates}
use Rattle.ee_value.specs.Chain.{rates_with, named_extension}
use Rattle.ee_value.proofs.Lemmas.{rates-back}
use Rattle.ee_calculator.specs.declared.bonds.Bond.{Bond}
use Rattle.ee_desk_model.specs.declared.changes.Kept.{Kept}
use Rattle.ee_desk_model.specs.declared.replies.Line.{Line}
use Rattle.ee_desk_model.specs.declared.replies.Ticket.{Ticket}
use Rattle.ee_desk_model.specs.declared.replies.Batch.{Batch}
use Rattle.ee_desk_model.specs.Serials.{serial_cmp}
use Rattle.ee_desk_model.specs.Numbers.{RequestKey, number_cmp}
use Rattle.ee_desk_model.specs.Seen.{held_as}
use Rattle.ee_desk_model.specs.Sound.{IsRightBond, day_of_batch, open_days}
use Rattle.ee_desk_model.specs.Repeats.{Content}
use Rattle.ee_desk_model.proofs.Lemmas.Maps.{serials_total, serials_exact, numbers_total, numbers_exact}
use Rattle.ee_desk_texts.proofs.Lemmas.{one_act, one_reply}
use Rattle.ee_store_tables.specs.Rows.{Rows, DeskRow, PaidRow, BatchRow}
use Rattle.ee_store_rows.specs.Rows.{bond_row, key_of}
use Rattle.ee_store_books.specs.Standing.{rate_rows, extension_rows, bond_rows, placed, reply_rows, reply_row, desk_rows, IsKept, StandAt}
use Rattle.ee_store_books.proofs.Images.{get_rate, get_extension, get_reply, get_bond, get_desk}
use Rattle.ee_store_books.proofs.Orders.{ticket_entry, ticket_entries, ticket_lines, paid_entries, batch_entry, batch_entries, rising_front}

-- what is the same in two forms is the same
same_some : {A B : Type 0} (f g : A → B) (P : A → Type 0) → ((x y : A) → P x → P y → f x ≡ g y → x ≡ y) → (o p : Option A) → IfSome o P → IfSome p P
    → option_map f o ≡ option_map g p → o ≡ p
same_some f g P one None None h k e = refl
same_some f g P one None (Some y) h k e = absurd (cc)
same_some f g P one (Some x) None h k e = absurd (cc)
same_some f g P one (Some x) (Some y) h k e = ap Some (one x y h k (ap (λ o. unwrap_or o (f x)) e))

-- ---- rates
same_terms : (x y : Rates) → x.fixed ≡ y.fixed → named_extension x ≡ named_extension y → x ≡ y
same_terms x y fixed extension = sym (rates-back x) ∙ (λ i. rates_with (fixed i) (extension i)) ∙ rates-back y

same_at : (o p : Option Rates) → option_map (λ (r : Rates). r.fixed) o ≡ option_map (λ (r : Rates). r.fixed) p → option_and_then named_extension o ≡ option_and_then named_extension p → o ≡ p
same_at None None fixed extension = refl
same_at None (Some y) fixed extension = absurd (cc)
same_at (Some x) None fixed extension = absurd (cc)
same_at (Some x) (Some y) fixed extension = ap Some (same_terms x y (ap (λ o. unwrap_or o x.fixed) fixed) extension)

same_rates : (one other : FinMap nat_cmp Rates) → rate_rows one ≡ rate_rows other → extension_rows one ≡ extension_rows other → one ≡ other
same_rates one other fixed extensions = same_map nat_cmp_total nat_cmp-IsAntisymmetric one other (λ q.
    same_at (finite.get one q) (finite.get other q)
    (sym (get_rate one q) ∙ ap (λ m. finite.get m q) fixed ∙ get_rate other q)
    (sym (get_extension one q) ∙ ap (λ m. finite.get m q) extensions ∙ get_extension other q))

-- ---- bonds
same_bond : (ts us : List Ticket) (s : SerialNumber) (x y : Bond) → x.serial ≡ s → y.serial ≡ s → bond_row (held_as ts s x) ≡ bond_row (held_as us s y) → x ≡ y
same_bond ts us s x y a b e = λ i. record {
  serial = (a ∙ sym b) i;
  denom = same_denom x.denom y.denom (ap (λ r. r.denom) e) i;
  issued = (e i).issued;
  owner = (e i).owner;
  coowner = (e i).coowner;
}

pub keyed : (rates : FinMap nat_cmp Rates) (s : SerialNumber) (o : Option Bond) → IfSome o (IsRightBond rates s) → IfSome o (λ bond. bond.serial ≡ s)
keyed rates s None h = tt
keyed rates s (Some bond) h = h.keyed

abbrev AreKeyed : FinMap serial_cmp Bond → Type 0
AreKeyed bonds = (s : SerialNumber) → IfSome (finite.get bonds s) (λ bond. bond.serial ≡ s)

same_bonds : (one other : FinMap serial_cmp Bond) (ts us : List Ticket) → AreKeyed one → AreKeyed other → bond_rows one ts ≡ bond_rows other us → one ≡ other
same_bonds one other ts us a b e = same_map serials_total serials_exact one other (λ s.
    same_some (λ bond. bond_row (held_as ts s bond)) (λ bond. bond_row (held_as us s bond)) (λ bond. bond.serial ≡ s) (λ x y h k. same_bond ts us s x y h k)
    (finite.get one s) (finite.get other s) (a s) (b s)
    (sym (get_bond one ts s) ∙ ap (λ m. finite.get m (key_of s)) e ∙ get_bond other us s))

-- ---- tickets
abbrev pub head_of : {A : Type 0} → A → List A → A
head_of x [] = x
head_of x (y ∷ ys) = y

abbrev pub tail_of : {A : Type 0} → List A → List A
tail_of [] = []
tail_of (x ∷ xs) = xs

split_same : {A : Type 0} (xs ys us vs : List A) → length xs ≡ length ys → xs ++ us ≡ ys ++ vs → (xs ≡ ys) × (us ≡ vs)
split_same [] [] us vs n e = (refl, e)
split_same [] (y ∷ ys) us vs n e = absurd (omega (arith, n))
split_same (x ∷ xs) [] us vs n e = absurd (omega (arith, n))
split_same (x ∷ xs) (y ∷ ys) us vs n e =
    let rest = split_same xs ys us vs (omega (arith, n)) (ap tail_of e) in
    ((λ i. head_of x (e i) ∷ rest.0 i), rest.1)

length_placed : (n place : ℕ) (lines : List Line) → length (placed n place lines) ≡ length lines
length_placed n place [] = refl
length_placed n place (line ∷ lines) = ap suc (length_placed n (place + 1) lines)

abbrev line_at : (ℕ × ℕ) × PaidRow → Line
line_at e = record { serial = record { letter = e.1.letter; number = e.1.number }; cents = record { 0 = e.1.cents } }

lines_back : (n place : ℕ) (lines : List Line) → map line_at (placed n place lines) ≡ lines
lines_back n place [] = refl
lines_back n place (line ∷ lines) = ap (λ l. line ∷ l) (lines_back n (place + 1) lines)

same_tickets : (ts us : List Ticket) → map ticket_entry ts ≡ map ticket_entry us → flat_map ticket_lines ts ≡ flat_map ticket_lines us → ts ≡ us
same_tickets [] [] heads lines = refl
same_tickets [] (u ∷ us) heads lines = absurd (cc)
same_tickets (t ∷ ts) [] heads lines = absurd (cc)
same_tickets (t ∷ ts) (u ∷ us) heads lines =
    let head = ap (head_of (ticket_entry t)) heads in
    let long = length_placed t.ticket 1 t.lines ∙ ap (λ e. e.1.bonds) head ∙ sym (length_placed u.ticket 1 u.lines) in
    let parts = split_same (ticket_lines t) (ticket_lines u) _ _ long lines in
    let own = sym (lines_back t.ticket 1 t.lines) ∙ ap (map line_at) parts.0 ∙ lines_back u.ticket 1 u.lines in
    let rest = same_tickets ts us (ap tail_of heads) parts.1 in
    λ i. record { ticket = (head i).0; day = (head i).1.day; payee = (head i).1.payee; lines = own i; total = record { 0 = (head i).1.total } } ∷ rest i

-- ---- batches
abbrev batch_at : ℕ × BatchRow → Batch
batch_at e = record { day = e.0; tickets = e.1.tickets; bonds = e.1.bonds; total = record { 0 = e.1.total } }

batches_back : (batches : List Batch) → map batch_at (map batch_entry batches) ≡ batches
batches_back [] = refl
batches_back (b ∷ batches) = ap (λ l. b ∷ l) (batches_back batches)

-- ---- kept replies
same_kept_at : (n : RequestKey) (x y : Kept) → IsKept n x → IsKept n y → reply_row x ≡ reply_row y → x ≡ y
same_kept_at n x y h k e = λ i. record {
  act = one_act x.act y.act h.act_in_range k.act_in_range (ap (λ r. r.act) e) i;
  reply = one_reply x.reply y.reply h.reply_in_range k.reply_in_range (ap (λ r. r.reply) e) i;
}

same_kept : (one other : FinMap number_cmp Kept) → ((n : RequestKey) → IfSome (finite.get one n) (IsKept n)) → ((n : RequestKey) → IfSome (finite.get other n) (IsKept n)) → reply_rows one ≡ reply_rows other → one ≡ other
same_kept one other a b e = same_map numbers_total numbers_exact one other (λ n.
    same_some reply_row reply_row (IsKept n) (same_kept_at n) (finite.get one n) (finite.get other n) (a n) (b n)
    (sym (get_reply one n) ∙ ap (λ m. finite.get m n) e ∙ get_reply other n))

-- ---- days
same_desk : (version : ℕ) (day last_day other_day other_last : Option ℕ) → desk_rows version day last_day ≡ desk_rows version other_day other_last → (day ≡ other_day) × (last_day ≡ other_last)
same_desk version day last_day other_day other_last e =
    let row : DeskRow = record { version = version; day = day; last_day = last_day } in
    let same = ap (λ o. unwrap_or o row) (sym (get_desk version day last_day) ∙ ap (λ m. finite.get m 1) e ∙ get_desk version other_day other_last) in
    (ap (λ (r : DeskRow). r.day) same, ap (λ (r : DeskRow). r.last_day) same)

pub one_content : (version : ℕ) (rows : Rows) (one other : Content) → StandAt version rows one → StandAt version rows other → one ≡ other
one_content version rows one other h k =
    let same = sym h.are ∙ k.are in
    let a = h.right.sound in
    let b = k.right.sound in
    let heads = sym (ticket_entries one.books.tickets a.numbered) ∙ ap (λ (r : Rows). entries r.tickets) same ∙ ticket_entries other.books.tickets b.numbered in
    let lines = sym (paid_entries one.books.tickets a.numbered) ∙ ap (λ (r : Rows). entries r.paid) same ∙ paid_entries other.books.tickets b.numbered in
    let tickets = same_tickets one.books.tickets other.books.tickets heads lines in
    let closed = sym (batch_entries one.books.batches (rising_front (map day_of_batch one.books.batches) (open_days one.books.day) a.rising))
    ∙ ap (λ (r : Rows). entries r.batches) same ∙ batch_entries other.books.batches (rising_front (map day_of_batch other.books.batches) (open_days other.books.day) b.rising) in
    let batches = sym (batches_back one.books.batches) ∙ ap (map batch_at) closed ∙ batches_back other.books.batches in
    let days = same_desk version one.books.day one.books.last_day other.books.day other.books.last_day (ap (λ (r : Rows). r.desk) same) in
    let rates = same_rates one.books.rates other.books.rates (ap (λ (r : Rows). r.rates) same) (ap (λ (r : Rows). r.extensions) same) in
    let bonds = same_bonds one.books.bonds other.books.bonds one.books.tickets other.books.tickets (λ s. keyed one.books.rates s _ (a.bonds s)) (λ s. keyed other.books.rates s _ (b.bonds s)) (ap (λ (r : Rows). r.bonds) same) in
    let kept = same_kept one.kept other.kept h.right.kept k.right.kept (ap (λ (r : Rows). r.answers) same) in
    λ i. record {
      books = record { rates = rates i; bonds = bonds i; day = days.0 i; last_day = days.1 i; tickets = tickets i; batches = batches i };
      kept = kept i;
    }
