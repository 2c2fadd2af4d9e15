-- Why a query fails.
use Rattle.std.proofs.Common.{◌≡◌, ◌==◌, ℕ, suc, zero, ◌<◌, Bool, true, false, cond, List, [], ◌∷◌, map, length, get_or, Some, Result, Ok, Err, IsTrue, refl, sym, ap, ◌∙◌, subst, arith}
use Rattle.std.proofs.lemmas.Result.{IfErr-weaker}
use Rattle.std.specs.Prelude.{IfSome, ⊤}
use Rattle.std.specs.List as list
use Rattle.std.specs.List.{AllByRecursion}
use Rattle.std.specs.FinMap as finite
use Rattle.sqlite.specs.Effect.{Database, IsDatabase}
use Rattle.sqlite.specs.State.{State, Survives, HasCleanDisk, IsRolledBack}
use Rattle.ee_units.specs.Spelling.{SerialNumber}
use Rattle.ee_calculator.specs.declared.bonds.Bond.{Bond}
use Rattle.ee_desk_model.specs.declared.replies.Line.{Line}
use Rattle.ee_desk_model.specs.declared.replies.Ticket.{Ticket}
use Rattle.ee_desk_model.specs.Queries.{is_open_bond, bonds_of}
use Rattle.ee_desk_model.specs.Repeats.{Content}
use Rattle.ee_desk_model.specs.Sound.{IsDay}
use Rattle.ee_desk_model.proofs.Lemmas.Maps.{serials_total, serials_exact, all_filter, all_mapped}
use Rattle.ee_desk_decide.proofs.Lemmas.{all_entries}
use Rattle.ee_desk_model.specs.Ranges.{IsCustomer, IsSerial, BondFits}
use Rattle.ee_desk_texts.specs.Ranges.{LineFits, TicketFits}
use Rattle.ee_store_tables.specs.declared.records.PlacedLine.{PlacedLine}
use Rattle.ee_store_tables.specs.declared.records.UnpaidBond.{UnpaidBond}
use Rattle.ee_store_tables.specs.AsRows.{placed_of}
use Rattle.ee_store_tables.specs.Rows.{TicketRow, lines_on, HasRoomIn}
use Rattle.ee_store_tables.proofs.Lemmas.Transactions.{clean_before, begun, rolled_keeps}
use Rattle.ee_store_rows.specs.Rows.{paid_row}
use Rattle.ee_store_books.specs.Standing.{rows_of, IsRight}
use Rattle.ee_store_tables.specs.declared.failures.Failure.{Failure}
use Rattle.ee_store_tables.specs.Statements.{LeavesNoMore, IsExcused, CommitsNothing}
use Rattle.ee_store_books.specs.Causes.{FailsByCause, IsReady}
use Rattle.ee_store_books.specs.Seen.{FindsIn}
use Rattle.ee_store_queries.specs.Asking.{AnswersOrFails, ShowsContent, KeepsContent, KeepsRoom}
use Rattle.ee_store_queries.specs.Inner.Asking.{row_of_placed, unpaid_row}
use Rattle.ee_store_queries.proofs.FoundTickets.{ticket_found}
use Rattle.ee_store_books.proofs.Lemmas.Lookups.{excused, inside_content, sees_content, still_content}

-- ---- tickets
all_found : {A : Type 0} (P : A → Type 0) (p : A → Bool) (xs : List A) → AllByRecursion P xs → IfSome (list.find p xs) P
all_found P p [] h = tt
all_found P p (x ∷ xs) h = chosen (p x) (all_found P p xs h.1)
  where
    chosen : (b : Bool) → IfSome (list.find p xs) P → IfSome (cond b (Some x) (list.find p xs)) P
    chosen true rest = h.0
    chosen false rest = rest

-- the line that a row shows
abbrev line_of : PlacedLine → Line
line_of line = record { serial = record { letter = line.letter; number = line.number }; cents = record { 0 = line.cents } }

lines_of : (lines : List PlacedLine) → map paid_row (map line_of lines) ≡ map row_of_placed lines
lines_of [] = refl
lines_of (line ∷ lines) = ap (λ l. row_of_placed line ∷ l) (lines_of lines)

serials_fit : (lines : List PlacedLine) → AllByRecursion LineFits (map line_of lines) → (k : ℕ) (d : PlacedLine) → k < length lines
    → IsSerial (record { letter = (get_or lines k d).letter; number = (get_or lines k d).number })
serials_fit [] h k d low = absurd (omega (arith, low))
serials_fit (line ∷ lines) h zero d low = h.0.0
serials_fit (line ∷ lines) h (suc k) d low = serials_fit lines h.1 k d (omega (arith, low))

-- the rows of a ticket are in range
pub ticket_fits : (S : Content) (n : ℕ) (row : TicketRow) (lines : List PlacedLine) → IsRight S → Some row ≡ finite.get (rows_of S).tickets n → lines ≡ map placed_of (lines_on (rows_of S) n)
    → IsDay row.day × IsCustomer row.payee × ((k : ℕ) (d : PlacedLine) → k < length lines → IsSerial (record { letter = (get_or lines k d).letter; number = (get_or lines k d).number }))
ticket_fits S n row lines right found are =
    let ticket : Ticket = record { ticket = n; day = row.day; payee = row.payee; lines = map line_of lines; total = record { 0 = row.total } } in
    let is = ticket_found S n ticket row lines right found are (refl, refl, refl, refl) (lines_of lines) in
    let fits : TicketFits ticket = subst (λ o. IfSome o TicketFits) (sym is) (all_found TicketFits (λ t. t.ticket == n) S.books.tickets right.in_range.tickets) in
    (fits.day, fits.payee, serials_fit lines fits.lines)

-- ---- bonds
pub bonds_fit : (S : Content) (customer : ℕ) → IsRight S → AllByRecursion BondFits (bonds_of S.books customer)
bonds_fit S customer right =
    all_filter BondFits (is_open_bond S.books.tickets customer) (finite.values S.books.bonds)
    (all_mapped BondFits (λ (e : SerialNumber × Bond). e.1) (finite.entries S.books.bonds)
    (all_entries serials_total serials_exact (λ s (bond : Bond). BondFits bond) S.books.bonds right.in_range.bonds))

one_of : (bonds : List Bond) (i : ℕ) → AllByRecursion BondFits bonds → i < length (map unpaid_row bonds) → (bond : Bond) × ((d : UnpaidBond) → get_or (map unpaid_row bonds) i d ≡ unpaid_row bond) × BondFits bond
one_of [] i h low = absurd (omega (arith, low))
one_of (bond ∷ bonds) zero h low = (bond, λ d. refl, h.0)
one_of (bond ∷ bonds) (suc i) h low = one_of bonds i h.1 (omega (arith, low))

-- each row of bonds is that of one of them
pub bond_at : (rows : List UnpaidBond) (bonds : List Bond) (i : ℕ) → rows ≡ map unpaid_row bonds → AllByRecursion BondFits bonds → i < length rows
    → (bond : Bond) × ((d : UnpaidBond) → get_or rows i d ≡ unpaid_row bond) × BondFits bond
bond_at rows bonds i are h low =
    let it = one_of bonds i h (subst (λ (rows : List UnpaidBond). i < length rows) are low) in
    (it.0, λ d. ap (λ rows. get_or rows i d) are ∙ it.1 d, it.2)

-- ---- a query as one transaction
module _ (old start : State) (is : start ≡ begun old) (middle new : State) (crash : LeavesNoMore start middle) (survives : Survives middle new (λ _. ⊥)) where
  pub read_fails : {X : Type 0} (settled : IsTrue old.is_open → old.now ≡ old.committed) (r : Result X Failure) → FailsByCause start middle r (λ _. ⊤) → AnswersOrFails old new r
  read_fails settled r fails clean ready S has =
      IfErr-weaker r (IsExcused start middle) (IsExcused old new) (excused old start is middle new crash survives)
      (fails (clean_before middle new survives clean) (inside_content old start is settled S has) (ap (λ (s : State). s.step_limit) is ∙ ready.1) S (sees_content old start is settled S has) tt)

  pub read_shows : {X : Type 0} (settled : IsTrue old.is_open → old.now ≡ old.committed) (Is : Content → X → Type 0) (r : Result X Failure) → FindsIn start middle r Is → ShowsContent old new r Is
  read_shows settled Is (Ok x) finds clean = λ S has. finds (clean_before middle new survives clean) (inside_content old start is settled S has) S (sees_content old start is settled S has)
  read_shows settled Is (Err e) finds clean = tt

  pub read_ready : new.in_transaction ≡ false → IsReady old → IsReady new
  read_ready ended ready = (ended, survives.limit ∙ crash.limit ∙ ap (λ (s : State). s.step_limit) is ∙ ready.1)

-- a transaction that is read and rolled back keeps the content, and the room for more rows
module _ (old start : State) (is : start ≡ begun old) (settled : IsTrue old.is_open → old.now ≡ old.committed) (middle new : State) (commit : CommitsNothing start middle)
    (survives : Survives middle new (λ _. ⊥)) (undone : HasCleanDisk new → IsRolledBack middle new) where
  pub read_keeps : KeepsContent old new
  read_keeps clean S has =
      still_content old start is middle new S has (commit (clean_before middle new survives clean) (inside_content old start is settled S has)) (rolled_keeps old start is middle new (undone clean))

  pub read_room : KeepsRoom old new
  read_room clean S has n room is_open =
      let keeps = commit (clean_before middle new survives clean) (inside_content old start is settled S has) in
      let rolled = undone clean in
      let before = rolled.was_open is_open in
      let was_open = subst (λ (s : State). IsTrue s.is_open) is (keeps.was_open before) in
      let same = (rolled.undone is_open).0 ∙ keeps.committed before ∙ ap (λ (s : State). s.committed) is ∙ sym (settled was_open) in
      subst (λ (d : Database). IsDatabase d × HasRoomIn n d.trees) (sym same) (room was_open)
