-- Bonds as rows, each with the ticket that pays it.
use Rattle.std.proofs.Common.{◌≡◌, ℕ, ◌+◌, ◌<◌, Bool, true, false, cond, List, [], ◌∷◌, Some, length, map, take, drop, get_or, find, refl, sym, ap, ◌∙◌, subst}
use Rattle.std.specs.Option.{IfSome, option_map}
use Rattle.std.specs.List.{list_any}
use Rattle.std.proofs.lemmas.List.{drop_more}
use Rattle.std.specs.FinMap as finite
use Rattle.std.specs.BTreeMap.{insert_entry, is_at}
use Rattle.ee_units.specs.Spelling.{SerialNumber}
use Rattle.ee_value.specs.declared.rates.Rates.{Rates}
use Rattle.ee_calculator.specs.declared.bonds.Bond.{Bond}
use Rattle.ee_desk_model.specs.declared.changes.Held.{Held}
use Rattle.ee_desk_model.specs.declared.replies.Ticket.{Ticket}
use Rattle.ee_desk_model.specs.Serials.{serial_cmp, same_serial}
use Rattle.ee_desk_model.specs.PlainBooks.{names, ticket_of}
use Rattle.ee_desk_model.specs.declared.replies.Line.{Line}
use Rattle.ee_desk_model.proofs.Lemmas.Maps.{serials_total, serials_tied, same_serial-is}
use Rattle.ee_desk_soundness.specs.Checks.{InOrder, IsBefore, HaveRisingSerials, bonds_in, books_of, entry_of_bond, entry_of_row}
use Rattle.ee_desk_soundness.specs.Marks as marks
use Rattle.ee_desk_soundness.specs.Marks.{bond_of}
use Rattle.ee_desk_soundness.specs.Parts.{Parts}
use Rattle.ee_desk.specs.Inner.Marks.{bonds_held, by_serial, held_at, AreMarked}
use Rattle.ee_desk.specs.Inner.Kept as kept
use Rattle.ee_desk_soundness.proofs.Lemmas.{entries_more}
use Rattle.ee_desk.specs.Inner.Parts.{held_bond}

-- the bonds of rows are those that the rows were made of
pub bonds_back : (tickets : List Ticket) (bonds : List Bond) → map bond_of (map (held_bond tickets) bonds) ≡ bonds
bonds_back tickets [] = refl
bonds_back tickets (b ∷ bonds) = ap (λ bs. b ∷ bs) (bonds_back tickets bonds)

-- and so are the bonds that are registered
pub registered : (tickets : List Ticket) (bonds : List Bond) → bonds_held (by_serial (map (held_bond tickets) bonds)) ≡ bonds_in bonds
registered tickets bonds = ap finite.from_entries (same bonds)
  where
    same : (bonds : List Bond) → map (λ (e : SerialNumber × Held). (e.0, e.1.bond)) (by_serial (map (held_bond tickets) bonds)) ≡ map entry_of_bond bonds
    same [] = refl
    same (b ∷ bonds) = ap (λ es. entry_of_bond b ∷ es) (same bonds)

-- each row names the ticket that pays its bond
pub rows_marked : (tickets : List Ticket) (bonds : List Bond) → marks.AreMarked tickets (map (held_bond tickets) bonds)
rows_marked tickets [] = tt
rows_marked tickets (b ∷ bonds) = (refl, rows_marked tickets bonds)

pub entries_marked : (tickets : List Ticket) (bonds : List Bond) → AreMarked (by_serial (map (held_bond tickets) bonds)) tickets
entries_marked tickets [] q = tt
entries_marked tickets (b ∷ bonds) q = by_case (is_at (serial_cmp q) b.serial) (sym (serials_tied q b.serial)) (entries_marked tickets bonds q)
  where
    by_case : (here : Bool) → same_serial q b.serial ≡ here → IfSome (held_at (by_serial (map (held_bond tickets) bonds)) q) (λ held. held.ticket ≡ ticket_of tickets q)
        → IfSome (cond here (Some (held_bond tickets b)) (held_at (by_serial (map (held_bond tickets) bonds)) q)) (λ held. held.ticket ≡ ticket_of tickets q)
    by_case true same later = ap (ticket_of tickets) (sym (same_serial-is q b.serial same))
    by_case false same later = later

keys : (rows : List Held) → map (λ (bond : Bond). bond.serial) (map bond_of rows) ≡ map (λ (h : Held). h.bond.serial) rows
keys [] = refl
keys (x ∷ rows) = ap (λ ks. x.bond.serial ∷ ks) (keys rows)

-- the next row of a rising list goes to the end of a map
pub held_more : (rows : List Held) (i : ℕ) (held : Held) (es : List (SerialNumber × Held)) → HaveRisingSerials (map bond_of rows) → i < length rows → held ≡ get_or rows i held
    → es ≡ by_serial (take i rows) → insert_entry serial_cmp es held.bond.serial held ≡ by_serial (take (i + 1) rows)
held_more rows i held es r h is e =
    entries_more serial_cmp serials_total (λ (h : Held). h.bond.serial) (λ (h : Held). h) rows i held es (subst (InOrder IsBefore) (keys rows) r) h is e

-- what is made of parts in memory represents their books
pub books_made : (parts : Parts) (terms : List (ℕ × Rates)) (rows : List Held) → terms ≡ map entry_of_row parts.rates → rows ≡ map (held_bond parts.tickets) parts.bonds
    → kept.books_of terms (by_serial rows) parts.day parts.last_day parts.tickets parts.batches ≡ books_of parts
books_made parts terms rows rates made = λ i. record {
  rates = finite.from_entries (rates i);
  bonds = (ap (λ (rows : List Held). bonds_held (by_serial rows)) made ∙ registered parts.tickets parts.bonds) i;
  day = parts.day;
  last_day = parts.last_day;
  tickets = parts.tickets;
  batches = parts.batches;
}

-- the ticket of a serial number among those that are left, if it is the next one or not
pub next_ticket : (tickets : List Ticket) (i : ℕ) (t : Ticket) (lines : List Line) (q : SerialNumber) (pays : Bool) → i < length tickets → t ≡ get_or tickets i t → lines ≡ t.lines
    → list_any (λ (line : Line). same_serial q line.serial) lines ≡ pays → ticket_of (drop i tickets) q ≡ cond pays (Some t.ticket) (ticket_of (drop (i + 1) tickets) q)
next_ticket tickets i t lines q pays h is own test =
    ap (λ (ts : List Ticket). ticket_of ts q) (drop_more tickets i t h ∙ ap (λ y. y ∷ drop (i + 1) tickets) (sym is))
    ∙ ap (λ (b : Bool). option_map (λ (ticket : Ticket). ticket.ticket) (cond b (Some t) (find (names q) (drop (i + 1) tickets))))
    (ap (list_any (λ (line : Line). same_serial q line.serial)) (sym own) ∙ test)
    ∙ by_case pays
  where
    by_case : (b : Bool) → option_map (λ (ticket : Ticket). ticket.ticket) (cond b (Some t) (find (names q) (drop (i + 1) tickets))) ≡ cond b (Some t.ticket) (ticket_of (drop (i + 1) tickets) q)
    by_case true = refl
    by_case false = refl
