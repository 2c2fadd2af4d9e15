-- Changes that the books take.
use Rattle.std.proofs.Common.{◌≡◌, ◌<◌, List, [], ◌∷◌, length, get_or, arith, refl, sym, ap, subst}
use Rattle.std.specs.List.{AllByRecursion}
use Rattle.ee_desk_model.specs.declared.changes.Change.{Change}
use Rattle.ee_desk_model.specs.declared.changes.Change.TheVariants as change
use Rattle.ee_desk_model.specs.PlainBooks.{PlainBooks, of_day}
use Rattle.ee_desk_model.specs.Acts.{changed, applied}
use Rattle.ee_desk_decide.specs.Inner.NewRows.{rate_row, bond_row, AreNew}
use Rattle.ee_desk.specs.Inner.Added.{with_changes}
use Rattle.ee_desk_decide.specs.Inner.Applicable.{IsRate, IsBond, IsUnpaid, IsNextTicket, AreApplicable}

pub rates_applied : (books : PlainBooks) (cs : List Change) → AllByRecursion IsRate cs → record books { rates = with_changes rate_row books.rates cs } ≡ applied books cs
rates_applied books [] h = refl
rates_applied books (change.Rates from rates ∷ cs) h = rates_applied (changed books (change.Rates from rates)) cs h.1
rates_applied books (change.Bond bond ∷ cs) h = absurd h.0
rates_applied books (change.Day day ∷ cs) h = absurd h.0
rates_applied books (change.Ticket ticket ∷ cs) h = absurd h.0
rates_applied books (change.Batch batch ∷ cs) h = absurd h.0

pub bonds_applied : (books : PlainBooks) (cs : List Change) → AllByRecursion IsBond cs → record books { bonds = with_changes bond_row books.bonds cs } ≡ applied books cs
bonds_applied books [] h = refl
bonds_applied books (change.Bond bond ∷ cs) h = bonds_applied (changed books (change.Bond bond)) cs h.1
bonds_applied books (change.Rates from rates ∷ cs) h = absurd h.0
bonds_applied books (change.Day day ∷ cs) h = absurd h.0
bonds_applied books (change.Ticket ticket ∷ cs) h = absurd h.0
bonds_applied books (change.Batch batch ∷ cs) h = absurd h.0

-- what the first of the changes says of all
abbrev pub FirstSays : PlainBooks → List Change → Change → Type 0
FirstSays books cs (change.Rates from rates) = AllByRecursion IsRate cs × AreNew rate_row books.rates cs
FirstSays books cs (change.Bond bond) = AllByRecursion IsBond cs × AreNew bond_row books.bonds cs × AllByRecursion (IsUnpaid books) cs
FirstSays books cs (change.Day day) = (cs ≡ change.Day day ∷ []) × (of_day day books.tickets ≡ [])
FirstSays books cs (change.Ticket ticket) = (cs ≡ change.Ticket ticket ∷ []) × IsNextTicket books ticket
FirstSays books cs (change.Batch batch) = cs ≡ change.Batch batch ∷ []

says : (books : PlainBooks) (c : Change) (cs : List Change) → AreApplicable books (c ∷ cs) → FirstSays books (c ∷ cs) c
says books (change.Rates from rates) cs h = ((tt, h.0), h.1)
says books (change.Bond bond) cs h = ((tt, h.0), h.1, h.2)
says books (change.Day day) cs h = (ap (λ l. change.Day day ∷ l) h.0, h.1)
says books (change.Ticket ticket) cs h = (ap (λ l. change.Ticket ticket ∷ l) h.0, h.1)
says books (change.Batch batch) cs h = ap (λ l. change.Batch batch ∷ l) h

pub first_says : (books : PlainBooks) (cs : List Change) (c : Change) → AreApplicable books cs → 0 < length cs → c ≡ get_or cs 0 c → FirstSays books cs c
first_says books [] c h n is = absurd (omega (arith, n))
first_says books (x ∷ cs) c h n is = subst (FirstSays books (x ∷ cs)) (sym is) (says books x cs h)
