-- A delivery leaves rows that represent the content after it.
use Rattle.std.proofs.Common.{◌≡◌, ◌≤◌, Bool, true, false, cond, List, [], ◌∷◌, ◌++◌, map, refl, sym, ap, ◌∙◌, subst}
use Rattle.std.specs.Prelude.{Option, Some, None, IfSome, is_some, is_none, ⊤}
use Rattle.std.specs.List.{AllByRecursion}
use Rattle.std.specs.Ordering.{eq_by_cmp}
use Rattle.std.specs.FinMap as finite
use Rattle.std.specs.FinMap.{insert, get-insert}
use Rattle.ee_value.specs.declared.rates.RateRow.{RateRow}
use Rattle.ee_desk_model.specs.declared.acts.Act.{Act}
use Rattle.ee_desk_model.specs.declared.acts.Act.TheVariants.{AddRates, AddBonds, OpenDay, Redeem, CloseDay}
use Rattle.ee_desk_model.specs.declared.acts.Request.{Request}
use Rattle.ee_desk_model.specs.declared.refusals.Refusal.{Refusal}
use Rattle.ee_desk_model.specs.declared.changes.Change.{Change}
use Rattle.ee_desk_model.specs.declared.changes.Change.TheVariants as change
use Rattle.ee_desk_model.specs.declared.changes.Effects.{Effects}
use Rattle.ee_desk_model.specs.declared.changes.Kept.{Kept}
use Rattle.ee_desk_model.specs.Serials.{serial_cmp}
use Rattle.ee_desk_model.specs.Numbers.{RequestKey, number_cmp, number_of}
use Rattle.ee_desk_model.specs.PlainBooks.{PlainBooks}
use Rattle.ee_desk_model.specs.Seen.{Seen, shown}
use Rattle.ee_desk_model.specs.Refusals.{known_rate, refusal_of}
use Rattle.ee_desk_model.specs.Effects.{new_rates, new_bonds, rate_change, accepted, unless_refused, effects_of}
use Rattle.ee_desk_model.specs.Acts.{changed, applied, books_after}
use Rattle.ee_desk_model.specs.Outcomes.{act}
use Rattle.ee_desk_model.specs.Ranges.{IsInRange}
use Rattle.ee_desk_model.specs.Sound.{IsSound}
use Rattle.ee_desk_model.specs.Repeats.{Content}
use Rattle.ee_desk_model.specs.Contents.{content_after}
use Rattle.ee_desk_model.proofs.Lemmas.Maps.{serials_total, all_weaker, all_append, all_filter, all_mapped, numbers_total, numbers_exact}
use Rattle.std.proofs.lemmas.Map.Views.{tells_apart}
use Rattle.ee_desk_model.proofs.Lemmas.Requests.{content_after-new}
use Rattle.ee_desk_model.proofs.Lemmas.Books.{seen_enough, applied_are_books_after, act_keeps_sound, never_reused}
use Rattle.ee_desk_decide.proofs.Lemmas.{decided_are_applicable}
use Rattle.ee_desk_model.specs.Ranges.{BondFits}
use Rattle.ee_desk_texts.specs.Ranges.{ActFits, ReplyFits, RateRowFits, TicketFits, BatchFits}
use Rattle.ee_store_tables.specs.Rows.{with_answer}
use Rattle.ee_store_books.specs.Standing.{rows_of, reply_row, AreInRange, IsKept, IsRight}
use Rattle.ee_store_delivery.specs.Inner.Written.{applied_rows}
use Rattle.ee_store_delivery.proofs.Changes.{with_new_reply}
use Rattle.ee_store_delivery.proofs.Written.{with_books, written}

-- ---- the ranges of changes
fitting_rates : (seen : Seen) (earlier rows : List RateRow) → AllByRecursion RateRowFits rows → AllByRecursion IsInRange (map rate_change (new_rates seen earlier rows))
fitting_rates seen earlier [] h = tt
fitting_rates seen earlier (row ∷ rows) h = keep (is_none (known_rate seen earlier row.from)) (fitting_rates seen (earlier ++ row ∷ []) rows h.1)
  where
    keep : (b : Bool) → AllByRecursion IsInRange (map rate_change (new_rates seen (earlier ++ row ∷ []) rows))
        → AllByRecursion IsInRange (map rate_change (cond b (row ∷ new_rates seen (earlier ++ row ∷ []) rows) (new_rates seen (earlier ++ row ∷ []) rows)))
    keep true rest = (h.0, rest)
    keep false rest = rest

fitting : (seen : Seen) (asked : Act) → ActFits asked → AllByRecursion IsInRange (accepted seen asked).changes
fitting seen (AddRates rows) h = fitting_rates seen [] rows h
fitting seen (AddBonds bonds) h = all_mapped IsInRange change.Bond (new_bonds seen bonds) (all_weaker BondFits _ (λ b fits. fits.issued) (new_bonds seen bonds) (all_filter BondFits _ bonds h))
fitting seen (OpenDay day) h = (h, tt)
fitting seen (Redeem day payee serials) h = (tt, tt)
fitting seen (CloseDay day) h = (tt, tt)

fitting_unless : (seen : Seen) (asked : Act) (o : Option Refusal) → ActFits asked → AllByRecursion IsInRange (unless_refused seen asked o).changes
fitting_unless seen asked None h = fitting seen asked h
fitting_unless seen asked (Some refusal) h = tt

pub changes_fit : (seen : Seen) (asked : Act) → ActFits asked → AllByRecursion IsInRange (effects_of seen asked).changes
changes_fit seen asked h = fitting_unless seen asked (refusal_of seen asked) h

-- ---- books stay in range
abbrev ChangeFits : Change → Type 0
ChangeFits (change.Rates from rates) = ⊤
ChangeFits (change.Bond bond) = BondFits bond
ChangeFits (change.Day day) = ⊤
ChangeFits (change.Ticket ticket) = TicketFits ticket
ChangeFits (change.Batch batch) = BatchFits batch

any_rates : (rows : List RateRow) → AllByRecursion ChangeFits (map rate_change rows)
any_rates [] = tt
any_rates (row ∷ rows) = (tt, any_rates rows)

told_fits : (seen : Seen) (asked : Act) (o : Option Refusal) → ActFits asked → ReplyFits (unless_refused seen asked o).reply → AllByRecursion ChangeFits (unless_refused seen asked o).changes
told_fits seen asked (Some refusal) h told = tt
told_fits seen (AddRates rows) None h told = any_rates (new_rates seen [] rows)
told_fits seen (AddBonds bonds) None h told = all_mapped ChangeFits change.Bond (new_bonds seen bonds) (all_filter BondFits _ bonds h)
told_fits seen (OpenDay day) None h told = (tt, tt)
told_fits seen (Redeem day payee serials) None h told = (told, tt)
told_fits seen (CloseDay day) None h told = (told, tt)

if_cond : {A : Type 0} (P : A → Type 0) (b : Bool) (x : A) (o : Option A) → P x → IfSome o P → IfSome (cond b (Some x) o) P
if_cond P true x o here there = here
if_cond P false x o here there = there

stays_in_range : (books : PlainBooks) (c : Change) → AreInRange books → ChangeFits c → AreInRange (changed books c)
stays_in_range books (change.Rates from rates) h fits = record { bonds = h.bonds; tickets = h.tickets; batches = h.batches }
stays_in_range books (change.Bond bond) h fits = record {
  bonds = λ s. subst (λ o. IfSome o BondFits) (sym (get-insert serials_total books.bonds bond.serial bond s))
      (if_cond BondFits (eq_by_cmp serial_cmp s bond.serial) bond (finite.get books.bonds s) fits (h.bonds s));
  tickets = h.tickets;
  batches = h.batches;
}
stays_in_range books (change.Day day) h fits = record { bonds = h.bonds; tickets = h.tickets; batches = h.batches }
stays_in_range books (change.Ticket ticket) h fits = record { bonds = h.bonds; tickets = all_append TicketFits books.tickets (ticket ∷ []) h.tickets (fits, tt); batches = h.batches }
stays_in_range books (change.Batch batch) h fits = record { bonds = h.bonds; tickets = h.tickets; batches = all_append BatchFits books.batches (batch ∷ []) h.batches (fits, tt) }

all_in_range : (books : PlainBooks) (cs : List Change) → AreInRange books → AllByRecursion ChangeFits cs → AreInRange (applied books cs)
all_in_range books [] h fits = h
all_in_range books (c ∷ cs) h fits = all_in_range (changed books c) cs (stays_in_range books c h fits.0) fits.1

-- ---- one request more
module _ (S : Content) (q : Request) (right : IsRight S) (new : finite.get S.kept (number_of q) ≡ None) (asked : ActFits q.act)
    (here : (number_of q).0 ≤ 999) (numbered : (1 ≤ (number_of q).1) × ((number_of q).1 ≤ 9223372036854775807)) (told : ReplyFits (act S.books q.act).reply) where
  abbrev effects : Effects
  effects = effects_of (shown S.books) q.act

  abbrev own : Kept
  own = record { act = q.act; reply = (act S.books q.act).reply }

  books_are : applied S.books effects.changes ≡ books_after S.books q.act
  books_are = ap (λ (e : Effects). applied S.books e.changes) (sym (seen_enough S.books q.act)) ∙ applied_are_books_after S.books q.act

  fits : AllByRecursion IsInRange effects.changes
  fits = changes_fit (shown S.books) q.act asked

  sound_then : IsSound (books_after S.books q.act)
  sound_then = act_keeps_sound S.books q.act right.sound fits

  content_is : content_after S (q ∷ []) ≡ record { books = books_after S.books q.act; kept = insert S.kept (number_of q) own }
  content_is = content_after-new S q (ap is_some new)

  own_is_kept : IsKept (number_of q) own
  own_is_kept = record { desk_in_range = here; number_in_range = numbered; act_in_range = asked; reply_in_range = told; first = never_reused (shown S.books) q.act }

  all_kept : (n : RequestKey) → IfSome (finite.get (insert S.kept (number_of q) own) n) (IsKept n)
  all_kept n = subst (λ o. IfSome o (IsKept n)) (sym (get-insert numbers_total S.kept (number_of q) own n)) (by_case (eq_by_cmp number_cmp n (number_of q)) refl)
    where
      by_case : (b : Bool) → eq_by_cmp number_cmp n (number_of q) ≡ b → IfSome (cond b (Some own) (finite.get S.kept n)) (IsKept n)
      by_case true same = subst (λ m. IsKept m own) (sym (tells_apart numbers_exact n (number_of q) same)) own_is_kept
      by_case false apart = right.kept n

  pub right_after : IsRight (content_after S (q ∷ []))
  right_after = subst IsRight (sym content_is) (record {
    sound = sound_then;
    in_range = subst AreInRange books_are (all_in_range S.books effects.changes right.in_range (told_fits (shown S.books) q.act (refusal_of (shown S.books) q.act) asked told));
    kept = all_kept;
  })

  pub rows_after : rows_of (content_after S (q ∷ [])) ≡ with_answer (applied_rows S.books.last_day (rows_of S) effects.changes) (number_of q) (reply_row own)
  rows_after =
      let sound = subst IsSound (sym books_are) sound_then in
      let fitting = decided_are_applicable S.books effects right.sound fits (q.act, sym (seen_enough S.books q.act)) in
      ap rows_of content_is
      ∙ (λ i. record (rows_of (with_books S (sym books_are i))) { answers = with_new_reply S.kept (number_of q) own i })
      ∙ ap (λ rows. with_answer rows (number_of q) (reply_row own)) (written S effects.changes sound fitting)
