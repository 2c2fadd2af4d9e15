-- The unpaid bonds of an owner, by their rows.
use Rattle.std.proofs.Common.{◌≡◌, ◌==◌, ◌&&◌, ℕ, Bool, true, false, cond, List, [], ◌∷◌, map, filter, refl, sym, ap, ◌∙◌, subst}
use Rattle.std.specs.Prelude.{T, is_none}
use Rattle.std.specs.List.{AllByRecursion}
use Rattle.std.specs.Ordering.{is_lt}
use Rattle.std.specs.FinMap.{FinMap, entries, is_sorted, entries_sorted}
use Rattle.std.specs.FinMap.Entries.{below_all}
use Rattle.ee_units.specs.Spelling.{SerialNumber}
use Rattle.ee_units.proofs.Lemmas.{same_denom}
use Rattle.ee_calculator.specs.declared.bonds.Bond.{Bond}
use Rattle.ee_desk_model.specs.declared.replies.Ticket.{Ticket}
use Rattle.ee_desk_model.specs.Serials.{serial_cmp}
use Rattle.ee_desk_model.specs.PlainBooks.{ticket_of}
use Rattle.ee_desk_model.specs.Seen.{held_as}
use Rattle.ee_desk_model.specs.Queries.{is_open_bond, bonds_of}
use Rattle.ee_desk_model.specs.Repeats.{Content}
use Rattle.ee_desk_model.proofs.Lemmas.Maps.{serials_total, serials_exact}
use Rattle.ee_desk_decide.proofs.Lemmas.{all_entries}
use Rattle.ee_store_tables.proofs.Lemmas.Rows.{pair_total, pair_same}
use Rattle.ee_store_books.proofs.Lemmas.Contents.{sorted_entries, right_bond_is_keyed, head_of, tail_of}
use Rattle.ee_store_tables.specs.declared.records.UnpaidBond.{UnpaidBond}
use Rattle.ee_store_tables.specs.AsRows.{unpaid_bond_of}
use Rattle.ee_store_tables.specs.Keyed.{pair_cmp}
use Rattle.ee_store_tables.specs.Rows.{BondRow, unpaid_of}
use Rattle.ee_store_rows.specs.Rows.{bond_row, key_of}
use Rattle.ee_store_books.specs.Standing.{rows_of, bond_rows, IsRight}
use Rattle.ee_store_queries.specs.Inner.Asking.{unpaid_row}

-- ---- the rows of bonds, in order
abbrev entry_at : List Ticket → SerialNumber × Bond → (ℕ × ℕ) × BondRow
entry_at tickets e = (key_of e.0, bond_row (held_as tickets e.0 e.1))

same_below : (tickets : List Ticket) (s : SerialNumber) (es : List (SerialNumber × Bond)) → below_all pair_cmp (key_of s) (map (entry_at tickets) es) ≡ below_all serial_cmp s es
same_below tickets s [] = refl
same_below tickets s (e ∷ es) = ap (λ b. is_lt (serial_cmp s e.0) && b) (same_below tickets s es)

same_order : (tickets : List Ticket) (es : List (SerialNumber × Bond)) → is_sorted pair_cmp (map (entry_at tickets) es) ≡ is_sorted serial_cmp es
same_order tickets [] = refl
same_order tickets (e ∷ es) = λ i. same_below tickets e.0 es i && same_order tickets es i

bond_entries : (bonds : FinMap serial_cmp Bond) (tickets : List Ticket) → entries (bond_rows bonds tickets) ≡ map (entry_at tickets) (entries bonds)
bond_entries bonds tickets = sorted_entries pair_total pair_same _ (subst T (sym (same_order tickets (entries bonds))) (entries_sorted bonds))

-- ---- an owner's unpaid bonds
abbrev is_own : ℕ → (ℕ × ℕ) × BondRow → Bool
is_own customer e = (e.1.owner == customer) && is_none e.1.ticket

own_rows : (tickets : List Ticket) (customer : ℕ) (es : List (SerialNumber × Bond)) → AllByRecursion (λ e. e.1.serial ≡ e.0) es
    → map unpaid_bond_of (filter (is_own customer) (map (entry_at tickets) es)) ≡ map unpaid_row (filter (is_open_bond tickets customer) (map (λ e. e.1) es))
own_rows tickets customer [] h = refl
own_rows tickets customer (e ∷ es) h =
    let rows = filter (is_own customer) (map (entry_at tickets) es) in
    (λ i. map unpaid_bond_of (cond ((e.1.owner == customer) && is_none (ticket_of tickets (sym h.0 i))) (entry_at tickets e ∷ rows) rows))
    ∙ chosen (is_open_bond tickets customer e.1) (own_rows tickets customer es h.1)
  where
    chosen : (b : Bool) → map unpaid_bond_of (filter (is_own customer) (map (entry_at tickets) es)) ≡ map unpaid_row (filter (is_open_bond tickets customer) (map (λ e. e.1) es))
        → map unpaid_bond_of (cond b (entry_at tickets e ∷ filter (is_own customer) (map (entry_at tickets) es)) (filter (is_own customer) (map (entry_at tickets) es)))
        ≡ map unpaid_row (cond b (e.1 ∷ filter (is_open_bond tickets customer) (map (λ e. e.1) es)) (filter (is_open_bond tickets customer) (map (λ e. e.1) es)))
    chosen true is = λ i. unpaid_bond_of (key_of (sym h.0 i), bond_row (held_as tickets e.0 e.1)) ∷ is i
    chosen false is = is

-- ---- bonds with the same rows
one_bond : (a b : Bond) → unpaid_row a ≡ unpaid_row b → a ≡ b
one_bond a b e = λ i. record {
  serial = record { letter = (e i).letter; number = (e i).number };
  denom = same_denom a.denom b.denom (ap (λ (r : UnpaidBond). r.denom) e) i;
  issued = (e i).issued;
  owner = (e i).owner;
  coowner = (e i).coowner;
}

same_bonds : (xs ys : List Bond) → map unpaid_row xs ≡ map unpaid_row ys → xs ≡ ys
same_bonds [] [] e = refl
same_bonds [] (y ∷ ys) e = absurd (cc)
same_bonds (x ∷ xs) [] e = absurd (cc)
same_bonds (x ∷ xs) (y ∷ ys) e = λ i. one_bond x y (ap (head_of (unpaid_row x)) e) i ∷ same_bonds xs ys (ap tail_of e) i

-- the rows of an owner's unpaid bonds are theirs
pub bonds_rows : (S : Content) (customer : ℕ) → IsRight S → map unpaid_bond_of (unpaid_of (rows_of S) customer) ≡ map unpaid_row (bonds_of S.books customer)
bonds_rows S customer right =
    let books = S.books in
    ap (λ es. map unpaid_bond_of (filter (is_own customer) es)) (bond_entries books.bonds books.tickets)
    ∙ own_rows books.tickets customer (entries books.bonds)
    (all_entries serials_total serials_exact (λ s (bond : Bond). bond.serial ≡ s) books.bonds (λ s. right_bond_is_keyed books.rates s _ (right.sound.bonds s)))

pub bonds_found : (S : Content) (customer : ℕ) (bonds : List Bond) (rows : List UnpaidBond) → IsRight S → map unpaid_row bonds ≡ rows
    → rows ≡ map unpaid_bond_of (unpaid_of (rows_of S) customer) → bonds ≡ bonds_of S.books customer
bonds_found S customer bonds rows right are found = same_bonds bonds (bonds_of S.books customer) (are ∙ found ∙ bonds_rows S customer right)
