-- No act is refused because its number was used: that is told of kept numbers alone.
use Rattle.std.proofs.Common.{◌≡◌, ◌≢◌, ℕ, ◌==◌, Bool, true, false, cond, not, List, [], ◌∷◌, ◌++◌, length, refl, ap, subst}
use Rattle.std.specs.Prelude.{Option, Some, None, IfSome, nat_lt}
use Rattle.std.specs.Option.{option_map, option_or}
use Rattle.std.specs.List.{AllByRecursion, list_any}
use Rattle.ee_units.specs.Spelling.{SerialNumber}
use Rattle.ee_units.specs.Calendar.{month_of_day}
use Rattle.ee_value.specs.declared.rates.RateRow.{RateRow}
use Rattle.ee_calculator.specs.declared.bonds.Bond.{Bond}
use Rattle.ee_desk_model.specs.Serials.{same_serial}
use Rattle.ee_desk_model.specs.declared.changes.Held.{Held}
use Rattle.ee_desk_model.specs.declared.acts.Act.{Act}
use Rattle.ee_desk_model.specs.declared.acts.Act.TheVariants.{AddRates, AddBonds, OpenDay, Redeem, CloseDay}
use Rattle.ee_desk_model.specs.declared.refusals.Refusal.{Refusal}
use Rattle.ee_desk_model.specs.declared.refusals.Refusal.TheVariants.{NumberReused, Empty, TooMany, Repeated, SameCoowner, NotAnnouncementMonth, RateConflict, RateUnsettled, NoRate, SerialConflict, DayOpen, DayNotLater, DayIsOther, DayFull, NotPayee, AlreadyPaid, NotIssued, NotEligible}
use Rattle.ee_desk_model.specs.declared.replies.Reply.{Reply}
use Rattle.ee_desk_model.specs.declared.replies.Reply.TheVariants.{Refused}
use Rattle.ee_desk_model.specs.declared.replies.Reply.TheVariants as reply
use Rattle.ee_desk_model.specs.Codes.{code_of}
use Rattle.ee_desk_model.specs.Seen.{Seen}
use Rattle.ee_desk_model.specs.Refusals.{first, first_of, when, is_other, known_rate, unannounced, near, rate_conflict, repeated, repeated_bond, own_coowner, unrated, bond_conflict, refusal_of_day, refusal_of_held, refusal_of_serial, refusal_of_length, most_rows, most_serials, tests_of, tests_of_held, refusal_of}
use Rattle.ee_desk_model.specs.Effects.{unless_refused, effects_of}

-- told by its code
abbrev IsOther : Refusal → Type 0
IsOther refusal = (code_of refusal == 10) ≡ false

abbrev NoneReused : Option Refusal → Type 0
NoneReused o = IfSome o IsOther

first_other : (tests : List (Option Refusal)) → AllByRecursion NoneReused tests → NoneReused (first tests)
first_other [] h = tt
first_other (None ∷ tests) h = first_other tests h.1
first_other (Some refusal ∷ tests) h = h.0

or_other : (o p : Option Refusal) → NoneReused o → NoneReused p → NoneReused (option_or o p)
or_other None p a b = b
or_other (Some r) p a b = a

rows_other : {A : Type 0} (f : A → Option Refusal) → ((x : A) → NoneReused (f x)) → (xs : List A) → NoneReused (first_of f xs)
rows_other f h [] = tt
rows_other f h (x ∷ xs) = or_other (f x) (first_of f xs) (h x) (rows_other f h xs)

when_other : (b : Bool) (refusal : Refusal) → IsOther refusal → NoneReused (when b refusal)
when_other true refusal h = h
when_other false refusal h = tt

length_other : (most count : ℕ) → NoneReused (refusal_of_length most count)
length_other most count = or_other (when (count == 0) Empty) (when (nat_lt most count) TooMany) (when_other _ Empty refl) (when_other _ TooMany refl)

if_other : (b : Bool) (refusal : Refusal) (o : Option Refusal) → IsOther refusal → NoneReused o → NoneReused (cond b (Some refusal) o)
if_other true refusal o h k = h
if_other false refusal o h k = k

near_other : (row : RateRow) → NoneReused (near row)
near_other row = each (near row) refl
  where
    each : (o : Option Refusal) → near row ≡ o → NoneReused o
    each o is = subst NoneReused is (mapped _)
      where
        mapped : (age : Option ℕ) → NoneReused (option_map RateUnsettled age)
        mapped None = tt
        mapped (Some age) = refl

conflict_other : (seen : Seen) (earlier rows : List RateRow) → NoneReused (rate_conflict seen earlier rows)
conflict_other seen earlier [] = tt
conflict_other seen earlier (row ∷ rows) = if_other (is_other (known_rate seen earlier row.from) row.rates) (RateConflict row.from) _ refl (conflict_other seen (earlier ++ row ∷ []) rows)

repeated_other : (earlier serials : List SerialNumber) → NoneReused (repeated earlier serials)
repeated_other earlier [] = tt
repeated_other earlier (s ∷ serials) = if_other (list_any (same_serial s) earlier) (Repeated s) _ refl (repeated_other (earlier ++ s ∷ []) serials)

repeated_bond_other : (earlier bonds : List Bond) → NoneReused (repeated_bond earlier bonds)
repeated_bond_other earlier [] = tt
repeated_bond_other earlier (b ∷ bonds) = if_other (list_any (λ other. same_serial b.serial other.serial) earlier) (Repeated b.serial) _ refl (repeated_bond_other (earlier ++ b ∷ []) bonds)

day_other : (o : Option ℕ) (day : ℕ) → NoneReused (refusal_of_day o day)
day_other None day = refl
day_other (Some other) day = when_other (not (other == day)) DayIsOther refl

paid_other : (s : SerialNumber) (o : Option ℕ) → NoneReused (option_map (AlreadyPaid s) o)
paid_other s None = tt
paid_other s (Some ticket) = refl

held_other : (month payee : ℕ) (s : SerialNumber) (o : Option Held) → NoneReused (refusal_of_held month payee s o)
held_other month payee s None = refl
held_other month payee s (Some held) =
    first_other (tests_of_held month payee s held) (when_other _ (NotPayee s) refl, (paid_other s held.ticket, (when_other _ (NotIssued s) refl, (when_other _ (NotEligible s) refl, tt))))

tests_other : (seen : Seen) (asked : Act) → AllByRecursion NoneReused (tests_of seen asked)
tests_other seen (AddRates rows) = (length_other most_rows (length rows), (rows_other unannounced (λ row. when_other _ (NotAnnouncementMonth row.from) refl) rows, (conflict_other seen [] rows, (rows_other near near_other rows, tt))))
tests_other seen (AddBonds bonds) = (length_other most_rows (length bonds), (repeated_bond_other [] bonds, (rows_other own_coowner (λ b. when_other _ (SameCoowner b.serial) refl) bonds, (rows_other (unrated seen) (λ b. when_other _ (NoRate b.serial) refl) bonds, (rows_other (bond_conflict seen) (λ b. when_other _ (SerialConflict b.serial) refl) bonds, tt)))))
tests_other seen (OpenDay day) = (when_other _ DayOpen refl, (when_other _ DayNotLater refl, tt))
tests_other seen (Redeem day payee serials) = (length_other most_serials (length serials), (repeated_other [] serials, (day_other seen.day day, (when_other _ DayFull refl, (rows_other (refusal_of_serial seen (month_of_day day) payee) (λ s. held_other (month_of_day day) payee s (seen.held s)) serials, tt)))))
tests_other seen (CloseDay day) = (day_other seen.day day, tt)

-- whether a reply says that the number was used
says_reused : Reply → Bool
says_reused (Refused refusal) = code_of refusal == 10
says_reused (reply.Added new same) = false
says_reused (reply.Opened day) = false
says_reused (reply.Ticket ticket) = false
says_reused (reply.Batch batch) = false

decided_other : (seen : Seen) (asked : Act) (o : Option Refusal) → NoneReused o → says_reused (unless_refused seen asked o).reply ≡ false
unfolding says_reused
decided_other seen asked (Some refusal) h = h
decided_other seen (AddRates rows) None h = refl
decided_other seen (AddBonds bonds) None h = refl
decided_other seen (OpenDay day) None h = refl
decided_other seen (Redeem day payee serials) None h = refl
decided_other seen (CloseDay day) None h = refl

pub never_reused : (seen : Seen) (asked : Act) → (effects_of seen asked).reply ≢ Refused NumberReused
unfolding says_reused
never_reused seen asked is = absurd (cc (ap says_reused is, decided_other seen asked (refusal_of seen asked) (first_other (tests_of seen asked) (tests_other seen asked))))
