-- Bonds that are registered together are registered in order.
use Rattle.std.proofs.Common.{◌≡◌, ℕ, ◌+◌, List, [], ◌∷◌, ◌++◌, map, length, drop, Some, None, Option, get_or, arith, refl, sym, ap, subst, ◌∙◌}
use Rattle.std.specs.Option.{unwrap_or}
use Rattle.ee_desk_model.specs.declared.changes.Change.{Change}
use Rattle.ee_desk_model.specs.declared.changes.Change.TheVariants as change
use Rattle.ee_store_tables.specs.declared.records.UnpaidBond.{UnpaidBond}
use Rattle.ee_store_tables.specs.AsRows.{entry_of_unpaid}
use Rattle.std.specs.FinMap.{get}
use Rattle.ee_store_tables.specs.Rows.{Rows, BondRow, with_bond, with_bonds, CanRegisterAll}
use Rattle.ee_store_delivery.specs.Inner.Written.{applied_rows, CanWriteAll, all_added_rows, new_entry, added_entry}

abbrev Entry : Type 0
Entry = (ℕ × ℕ) × BondRow

-- these are the entries of the changes
abbrev pub AreEntries : List UnpaidBond → List Change → Type 0
AreEntries rows cs = map (λ row. Some (entry_of_unpaid row)) rows ≡ map added_entry cs

first_entry : (e d : Entry) (es ds : List (Option Entry)) → ◌≡◌ {A = List (Option Entry)} (Some e ∷ es) (Some d ∷ ds) → e ≡ d
first_entry e d es ds same = ap (λ l. unwrap_or (get_or l 0 None) e) same

later_entries : (e d : Option Entry) (es ds : List (Option Entry)) → e ∷ es ≡ d ∷ ds → es ≡ ds
later_entries e d es ds same = ap (drop 1) same

not_added : {e : Entry} {es ds : List (Option Entry)} → ◌≡◌ {A = List (Option Entry)} (Some e ∷ es) (None ∷ ds) → ⊥
not_added {e} same = absurd (let first : Some e ≡ None = ap (λ l. get_or l 0 None) same in cc)

pub bonds_first : (last : Option ℕ) (start : Rows) (rows : List UnpaidBond) (cs rest : List Change) → AreEntries rows cs
    → applied_rows last start (cs ++ rest) ≡ applied_rows last (with_bonds start (map entry_of_unpaid rows)) rest
bonds_first last start [] [] rest same = refl
bonds_first last start [] (c ∷ cs) rest same = absurd cc
bonds_first last start (x ∷ xs) [] rest same = absurd cc
bonds_first last start (x ∷ xs) (change.Bond bond ∷ cs) rest same =
    let one = first_entry (entry_of_unpaid x) (new_entry bond) _ _ same in
    bonds_first last (with_bond start (new_entry bond)) xs cs rest (later_entries _ _ _ _ same)
    ∙ ap (λ e. applied_rows last (with_bonds (with_bond start e) (map entry_of_unpaid xs)) rest) (sym one)
bonds_first last start (x ∷ xs) (change.Rates from rates ∷ cs) rest same = absurd (not_added same)
bonds_first last start (x ∷ xs) (change.Day day ∷ cs) rest same = absurd (not_added same)
bonds_first last start (x ∷ xs) (change.Ticket ticket ∷ cs) rest same = absurd (not_added same)
bonds_first last start (x ∷ xs) (change.Batch batch ∷ cs) rest same = absurd (not_added same)

pub rows_first : (rows : List UnpaidBond) (cs rest : List Change) → AreEntries rows cs → all_added_rows (cs ++ rest) ≡ length rows + all_added_rows rest
rows_first [] [] rest same = let none : all_added_rows rest ≡ 0 + all_added_rows rest = omega arith in none
rows_first [] (c ∷ cs) rest same = absurd cc
rows_first (x ∷ xs) [] rest same = absurd cc
rows_first (x ∷ xs) (change.Bond bond ∷ cs) rest same = let more = rows_first xs cs rest (later_entries _ _ _ _ same) in omega (arith, more)
rows_first (x ∷ xs) (change.Rates from rates ∷ cs) rest same = absurd (not_added same)
rows_first (x ∷ xs) (change.Day day ∷ cs) rest same = absurd (not_added same)
rows_first (x ∷ xs) (change.Ticket ticket ∷ cs) rest same = absurd (not_added same)
rows_first (x ∷ xs) (change.Batch batch ∷ cs) rest same = absurd (not_added same)

-- what can be written can be written so
pub can_together : (last : Option ℕ) (start : Rows) (rows : List UnpaidBond) (cs rest : List Change) → AreEntries rows cs → CanWriteAll last start (cs ++ rest)
    → CanRegisterAll start (map entry_of_unpaid rows) × CanWriteAll last (with_bonds start (map entry_of_unpaid rows)) rest
can_together last start [] [] rest same can = (tt, can)
can_together last start [] (c ∷ cs) rest same can = absurd cc
can_together last start (x ∷ xs) [] rest same can = absurd cc
can_together last start (x ∷ xs) (change.Bond bond ∷ cs) rest same can =
    let one = first_entry (entry_of_unpaid x) (new_entry bond) _ _ same in
    let more = can_together last (with_bond start (new_entry bond)) xs cs rest (later_entries _ _ _ _ same) can.1 in
    subst (λ e. ((get start.bonds e.0 ≡ None) × CanRegisterAll (with_bond start e) (map entry_of_unpaid xs)) × CanWriteAll last (with_bonds (with_bond start e) (map entry_of_unpaid xs)) rest) (sym one)
    ((can.0, more.0), more.1)
can_together last start (x ∷ xs) (change.Rates from rates ∷ cs) rest same can = absurd (not_added same)
can_together last start (x ∷ xs) (change.Day day ∷ cs) rest same can = absurd (not_added same)
can_together last start (x ∷ xs) (change.Ticket ticket ∷ cs) rest same can = absurd (not_added same)
can_together last start (x ∷ xs) (change.Batch batch ∷ cs) rest same can = absurd (not_added same)
