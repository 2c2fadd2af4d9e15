-- Bonds that are registered and taken out again.
use Rattle.std.proofs.Common.{◌≡◌, Bool, true, false, cond, List, [], ◌∷◌, Option, Some, None, refl, sym, ap, ◌∙◌, subst}
use Rattle.std.specs.Option.{IfSome, option_map}
use Rattle.std.specs.List.{AllByRecursion}
use Rattle.std.specs.FinMap as finite
use Rattle.std.specs.FinMap.{FinMap, get-insert, same_map}
use Rattle.std.specs.Ordering.{eq_by_cmp}
use Rattle.ee_units.specs.Spelling.{SerialNumber}
use Rattle.ee_calculator.specs.declared.bonds.Bond.{Bond}
use Rattle.ee_desk_model.specs.declared.changes.Held.{Held}
use Rattle.ee_desk_model.specs.declared.changes.Change.{Change}
use Rattle.ee_desk_model.specs.declared.changes.Change.TheVariants as change
use Rattle.ee_desk_model.specs.declared.replies.Ticket.{Ticket}
use Rattle.ee_desk_model.specs.Serials.{serial_cmp}
use Rattle.ee_desk_model.specs.PlainBooks.{PlainBooks, ticket_of}
use Rattle.ee_desk_model.proofs.Lemmas.Maps.{serials_total, serials_exact, get_lookup}
use Rattle.std.proofs.lemmas.Map.Views.{tells_apart}
use Rattle.ee_desk.proofs.PaidMarks.{get_held_bond}
use Rattle.ee_desk.specs.Inner.Marks.{bonds_held, held_at, AreMarked}
use Rattle.ee_desk_decide.specs.Noted.{held_in}
use Rattle.ee_desk.specs.Inner.Added.{held_row, with_changes}
use Rattle.ee_desk_decide.specs.Inner.NewRows.{bond_row, with_row, AreNew}
use Rattle.ee_desk_decide.specs.Inner.Applicable.{IsUnpaid}

abbrev bond_of : Held → Bond
bond_of held = held.bond

-- the bonds alone of what is held
abbrev AreBondsOf : FinMap serial_cmp Held → FinMap serial_cmp Bond → Type 0
AreBondsOf held bonds = (q : SerialNumber) → finite.get bonds q ≡ option_map bond_of (finite.get held q)

abbrev AreMarkedIn : FinMap serial_cmp Held → List Ticket → Type 0
AreMarkedIn held tickets = (q : SerialNumber) → IfSome (finite.get held q) (λ h. h.ticket ≡ ticket_of tickets q)

mapped_if : (t : Bool) (h : Held) (o : Option Held) → cond t (Some (bond_of h)) (option_map bond_of o) ≡ option_map bond_of (cond t (Some h) o)
mapped_if true h o = refl
mapped_if false h o = refl

bonds_more : (held : FinMap serial_cmp Held) (bonds : FinMap serial_cmp Bond) (c : Change) → AreBondsOf held bonds → AreBondsOf (with_row held (held_row c)) (with_row bonds (bond_row c))
bonds_more held bonds (change.Rates from rates) are = are
bonds_more held bonds (change.Day day) are = are
bonds_more held bonds (change.Ticket ticket) are = are
bonds_more held bonds (change.Batch batch) are = are
bonds_more held bonds (change.Bond bond) are =
    let new : Held = record { bond = bond; ticket = None } in
    λ q. get-insert serials_total bonds bond.serial bond q
    ∙ ap (cond (eq_by_cmp serial_cmp q bond.serial) (Some bond)) (are q)
    ∙ mapped_if (eq_by_cmp serial_cmp q bond.serial) new (finite.get held q)
    ∙ sym (ap (option_map bond_of) (get-insert serials_total held bond.serial new q))

bonds_after : (held : FinMap serial_cmp Held) (bonds : FinMap serial_cmp Bond) (cs : List Change) → AreBondsOf held bonds
    → AreBondsOf (with_changes held_row held cs) (with_changes bond_row bonds cs)
bonds_after held bonds [] are = are
bonds_after held bonds (c ∷ cs) are = bonds_after (with_row held (held_row c)) (with_row bonds (bond_row c)) cs (bonds_more held bonds c are)

not_held : (o : Option Held) → option_map bond_of o ≡ None → o ≡ None
not_held None e = refl
not_held (Some h) e = absurd (cc)

new_one : (held : FinMap serial_cmp Held) (bonds : FinMap serial_cmp Bond) (c : Change) → AreBondsOf held bonds → IfSome (bond_row c) (λ r. finite.get bonds r.0 ≡ None) → IfSome (held_row c) (λ r. finite.get held r.0 ≡ None)
new_one held bonds (change.Rates from rates) are h = tt
new_one held bonds (change.Day day) are h = tt
new_one held bonds (change.Ticket ticket) are h = tt
new_one held bonds (change.Batch batch) are h = tt
new_one held bonds (change.Bond bond) are h = not_held (finite.get held bond.serial) (sym (are bond.serial) ∙ h)

new_held : (held : FinMap serial_cmp Held) (bonds : FinMap serial_cmp Bond) (cs : List Change) → AreBondsOf held bonds → AreNew bond_row bonds cs → AreNew held_row held cs
new_held held bonds [] are new = tt
new_held held bonds (c ∷ cs) are new =
    (new_one held bonds c are new.0, new_held (with_row held (held_row c)) (with_row bonds (bond_row c)) cs (bonds_more held bonds c are) new.1)

marked_if : (t : Bool) (tickets : List Ticket) (q : SerialNumber) (new : Held) (o : Option Held) → (t ≡ true → new.ticket ≡ ticket_of tickets q)
    → IfSome o (λ h. h.ticket ≡ ticket_of tickets q) → IfSome (cond t (Some new) o) (λ h. h.ticket ≡ ticket_of tickets q)
marked_if true tickets q new o here there = here refl
marked_if false tickets q new o here there = there

marked_more : (books : PlainBooks) (held : FinMap serial_cmp Held) (c : Change) → IsUnpaid books c → AreMarkedIn held books.tickets → AreMarkedIn (with_row held (held_row c)) books.tickets
marked_more books held (change.Rates from rates) unpaid are = are
marked_more books held (change.Day day) unpaid are = are
marked_more books held (change.Ticket ticket) unpaid are = are
marked_more books held (change.Batch batch) unpaid are = are
marked_more books held (change.Bond bond) unpaid are =
    let new : Held = record { bond = bond; ticket = None } in
    λ q. subst (λ o. IfSome o (λ h. h.ticket ≡ ticket_of books.tickets q)) (sym (get-insert serials_total held bond.serial new q))
    (marked_if (eq_by_cmp serial_cmp q bond.serial) books.tickets q new (finite.get held q)
    (λ same. sym (ap (ticket_of books.tickets) (tells_apart serials_exact q bond.serial same) ∙ unpaid)) (are q))

marked_after : (books : PlainBooks) (held : FinMap serial_cmp Held) (cs : List Change) → AllByRecursion (IsUnpaid books) cs → AreMarkedIn held books.tickets → AreMarkedIn (with_changes held_row held cs) books.tickets
marked_after books held [] unpaid are = are
marked_after books held (c ∷ cs) unpaid are = marked_after books (with_row held (held_row c)) cs unpaid.1 (marked_more books held c unpaid.0 are)

-- ---- by the entries in memory
at_is : (es : List (SerialNumber × Held)) (q : SerialNumber) → finite.get (held_in es) q ≡ held_at es q
at_is es q = get_lookup serials_total es q

bonds_of_held : (es : List (SerialNumber × Held)) → AreBondsOf (held_in es) (bonds_held es)
bonds_of_held es q = get_held_bond es q ∙ ap (option_map bond_of) (sym (at_is es q))

-- bonds that aren't registered aren't in memory
pub new_in_memory : (es : List (SerialNumber × Held)) (cs : List Change) → AreNew bond_row (bonds_held es) cs → AreNew held_row (held_in es) cs
new_in_memory es cs new = new_held (held_in es) (bonds_held es) cs (bonds_of_held es) new

-- the bonds that memory represents gain what memory gains
pub bonds_gain : (es fs : List (SerialNumber × Held)) (cs : List Change) → held_in fs ≡ with_changes held_row (held_in es) cs → bonds_held fs ≡ with_changes bond_row (bonds_held es) cs
bonds_gain es fs cs is = same_map serials_total serials_exact _ _ (λ q.
    bonds_of_held fs q ∙ ap (λ m. option_map bond_of (finite.get m q)) is ∙ sym (bonds_after (held_in es) (bonds_held es) cs (bonds_of_held es) q))

pub bonds_stay : (es fs : List (SerialNumber × Held)) → held_in fs ≡ held_in es → bonds_held fs ≡ bonds_held es
bonds_stay es fs is = same_map serials_total serials_exact _ _ (λ q.
    bonds_of_held fs q ∙ ap (λ m. option_map bond_of (finite.get m q)) is ∙ sym (bonds_of_held es q))

marks_in : (es : List (SerialNumber × Held)) (tickets : List Ticket) → AreMarked es tickets → AreMarkedIn (held_in es) tickets
marks_in es tickets are q = subst (λ o. IfSome o (λ h. h.ticket ≡ ticket_of tickets q)) (sym (at_is es q)) (are q)

marks_at : (es : List (SerialNumber × Held)) (tickets : List Ticket) → AreMarkedIn (held_in es) tickets → AreMarked es tickets
marks_at es tickets are q = subst (λ o. IfSome o (λ h. h.ticket ≡ ticket_of tickets q)) (at_is es q) (are q)

-- new bonds that no ticket names are marked as they are
pub marks_gain : (books : PlainBooks) (es fs : List (SerialNumber × Held)) (cs : List Change) → AreMarked es books.tickets → AllByRecursion (IsUnpaid books) cs
    → held_in fs ≡ with_changes held_row (held_in es) cs → AreMarked fs books.tickets
marks_gain books es fs cs are unpaid is =
    marks_at fs books.tickets (subst (λ m. AreMarkedIn m books.tickets) (sym is) (marked_after books (held_in es) cs unpaid (marks_in es books.tickets are)))

pub marks_stay : (tickets : List Ticket) (es fs : List (SerialNumber × Held)) → AreMarked es tickets → held_in fs ≡ held_in es → AreMarked fs tickets
marks_stay tickets es fs are is = marks_at fs tickets (subst (λ m. AreMarkedIn m tickets) (sym is) (marks_in es tickets are))
