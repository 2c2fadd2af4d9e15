-- Marks of tickets on bonds.
use Rattle.std.proofs.Common.{◌≡◌, ℕ, Bool, true, false, cond, List, [], ◌∷◌, ◌++◌, Option, Some, None, map, refl, sym, ap, ◌∙◌, subst}
use Rattle.std.specs.Option.{option_map, option_or, IfSome}
use Rattle.std.specs.List.{list_any, AllByRecursion}
use Rattle.std.specs.Map.{lookup}
use Rattle.std.specs.BTreeMap.{is_at}
use Rattle.std.specs.FinMap as finite
use Rattle.std.specs.FinMap.{same_map}
use Rattle.ee_units.specs.Spelling.{SerialNumber}
use Rattle.ee_desk_model.specs.declared.changes.Held.{Held}
use Rattle.ee_desk_model.specs.declared.replies.Ticket.{Ticket}
use Rattle.ee_desk_model.specs.Serials.{serial_cmp, same_serial}
use Rattle.ee_desk_model.specs.PlainBooks.{ticket_of, names}
use Rattle.ee_desk_model.proofs.Lemmas.Maps.{serials_total, serials_exact, serials_tied, same_serial-swap, same_serial-is, get_lookup}
use Rattle.ee_desk_model.proofs.Lemmas.Books.{ticket_of_push, named_unpaid}
use Rattle.ee_desk.specs.Inner.Marks.{bonds_held, held_at, AreMarked, marked}

bond_if : (b : Bool) (h : Held) (o : Option Held) → cond b (Some h.bond) (option_map (λ x. x.bond) o) ≡ option_map (λ x. x.bond) (cond b (Some h) o)
bond_if true h o = refl
bond_if false h o = refl

lookup_bond : (es : List (SerialNumber × Held)) (test : SerialNumber → Bool) → lookup test (map (λ e. (e.0, e.1.bond)) es) ≡ option_map (λ h. h.bond) (lookup test es)
lookup_bond [] test = refl
lookup_bond (e ∷ es) test = ap (cond (test e.0) (Some e.1.bond)) (lookup_bond es test) ∙ bond_if (test e.0) e.1 (lookup test es)

pub get_held_bond : (es : List (SerialNumber × Held)) (q : SerialNumber) → finite.get (bonds_held es) q ≡ option_map (λ h. h.bond) (held_at es q)
get_held_bond es q = get_lookup serials_total _ q ∙ lookup_bond es (is_at (serial_cmp q))

bond_stays : (b : Bool) (n : ℕ) (o : Option Held) → option_map (λ h. h.bond) (option_map (marked b n) o) ≡ option_map (λ h. h.bond) o
bond_stays b n None = refl
bond_stays b n (Some h) = refl

pub same_bonds : (es fs : List (SerialNumber × Held)) (pays : SerialNumber → Bool) (n : ℕ)
    → ((q : SerialNumber) → held_at fs q ≡ option_map (marked (pays q) n) (held_at es q)) → bonds_held fs ≡ bonds_held es
same_bonds es fs pays n is = same_map serials_total serials_exact _ _ (λ q.
    get_held_bond fs q ∙ ap (option_map (λ h. h.bond)) (is q) ∙ bond_stays (pays q) n (held_at es q) ∙ sym (get_held_bond es q))

pub unmarked : (n : ℕ) (o : Option Held) → option_map (marked false n) o ≡ o
unmarked n None = refl
unmarked n (Some h) = refl

mark_case : (es fs : List (SerialNumber × Held)) (s : SerialNumber) (h : Held) (n : ℕ) (q : SerialNumber) (b : Bool) → held_at es s ≡ Some h → same_serial q s ≡ b
    → held_at fs q ≡ cond b (Some (record { bond = h.bond; ticket = Some n })) (held_at es q)
    → held_at fs q ≡ option_map (marked b n) (held_at es q)
mark_case es fs s h n q true at same is = is ∙ ap (option_map (marked true n)) (sym (ap (held_at es) (same_serial-is q s same) ∙ at))
mark_case es fs s h n q false at same is = is ∙ sym (unmarked n (held_at es q))

pub mark_one : (es fs : List (SerialNumber × Held)) (s : SerialNumber) (h : Held) (n : ℕ) → held_at es s ≡ Some h
    → ((q : SerialNumber) → held_at fs q ≡ cond (is_at (serial_cmp s) q) (Some (record { bond = h.bond; ticket = Some n })) (held_at es q))
    → (q : SerialNumber) → held_at fs q ≡ option_map (marked (same_serial q s) n) (held_at es q)
mark_one es fs s h n at is q = mark_case es fs s h n q (same_serial q s) at refl
    (is q ∙ ap (λ b. cond b (Some (record { bond = h.bond; ticket = Some n })) (held_at es q)) (serials_tied s q ∙ same_serial-swap s q))

or_right_none : {A : Type 0} (o : Option A) → option_or o None ≡ o
or_right_none None = refl
or_right_none (Some x) = refl

mark_kept : (old : Option ℕ) (n : ℕ) (o : Option Held) (b : Bool) → (b ≡ true → old ≡ None) → IfSome o (λ h. h.ticket ≡ old)
    → IfSome (option_map (marked b n) o) (λ h. h.ticket ≡ option_or old (cond b (Some n) None))
mark_kept old n None b free h = tt
mark_kept old n (Some held) true free h = sym (ap (λ t. option_or t (Some n)) (free refl))
mark_kept old n (Some held) false free h = h ∙ sym (or_right_none old)

pub ticket_kept : (bonds new : List (SerialNumber × Held)) (tickets pushed : List Ticket) (t : Ticket)
    → AreMarked bonds tickets → AllByRecursion (λ line. ticket_of tickets line.serial ≡ None) t.lines → pushed ≡ tickets ++ t ∷ []
    → ((q : SerialNumber) → held_at new q ≡ option_map (marked (list_any (λ line. same_serial q line.serial) t.lines) t.ticket) (held_at bonds q))
    → AreMarked new pushed
ticket_kept bonds new tickets pushed t kept free push marks q =
    subst (λ (p : Option Held × Option ℕ). IfSome p.0 (λ h. h.ticket ≡ p.1)) (λ i. (sym (marks q) i, sym (ap (λ ts. ticket_of ts q) push ∙ ticket_of_push tickets t q) i))
    (mark_kept (ticket_of tickets q) t.ticket (held_at bonds q) (names q t) (named_unpaid tickets q t.lines free) (kept q))
