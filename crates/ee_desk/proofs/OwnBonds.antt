-- The unpaid bonds of an owner in memory are those of the books.
use Rattle.std.proofs.Common.{◌≡◌, ℕ, Bool, true, false, cond, ◌&&◌, ◌==◌, List, [], ◌∷◌, Option, Some, None, refl, sym, ap, ◌∙◌, subst}
use Rattle.std.specs.Option.{IfSome, option_map, is_none}
use Rattle.std.specs.List.{AllByRecursion, filter, filter_map, cons_option}
use Rattle.std.specs.List.Sorted.{IsStrictlySortedBy}
use Rattle.std.specs.Map.{lookup, keys_of, values_of}
use Rattle.std.specs.BTreeMap.{is_at}
use Rattle.std.specs.FinMap as finite
use Rattle.std.specs.Cmp.{IsTotalOrder, eq_by_cmp_equiv}
use Rattle.std.specs.declared.cmp.Ordering.{Ordering}
use Rattle.std.proofs.lemmas.Map.{lookup-none}
use Rattle.std.proofs.lemmas.Map.Entries.{none_past_head}
use Rattle.std.proofs.lemmas.Map.Keys.{sorted_tail, IsDistinct-from_sorted}
use Rattle.ee_units.specs.Spelling.{SerialNumber}
use Rattle.ee_calculator.specs.declared.bonds.Bond.{Bond}
use Rattle.ee_desk_model.specs.declared.changes.Held.{Held}
use Rattle.ee_desk_model.specs.declared.replies.Ticket.{Ticket}
use Rattle.ee_desk_model.specs.Serials.{serial_cmp}
use Rattle.ee_desk_model.specs.PlainBooks.{ticket_of}
use Rattle.ee_desk_model.specs.Queries.{is_open_bond}
use Rattle.ee_desk_model.proofs.Lemmas.Maps.{serials_total, serials_exact}
use Rattle.ee_desk.proofs.PaidMarks.{get_held_bond}
use Rattle.ee_desk.specs.Inner.Marks.{bonds_held, held_at, AreMarked}
use Rattle.ee_desk.specs.Inner.Kept.{own_bond}
use Rattle.ee_desk.proofs.Ordered.{entries_are}
use Rattle.ee_desk.proofs.AsParts.{bonds_kept, same_keys}

-- what holds wherever a key is found holds of each entry
module _ {K V : Type 0} {R : K → K → Ordering} (o : IsTotalOrder R) (P : K → V → Type 0) where
  after : (e : K × V) (es : List (K × V)) (q : K) → IsStrictlySortedBy R (keys_of (e ∷ es)) → (b : Bool) → is_at (R q) e.0 ≡ b
      → IfSome (cond b (Some e.1) (lookup (is_at (R q)) es)) (P q) → IfSome (lookup (is_at (R q)) es) (P q)
  after e es q h true is p =
      let none = lookup-none (is_at (R q)) es (none_past_head (eq_by_cmp_equiv o) q e es (IsDistinct-from_sorted R (keys_of (e ∷ es)) h) is) in
      subst (λ (v : Option V). IfSome v (P q)) (sym none) tt
  after e es q h false is p = p

  pub all_entries : (es : List (K × V)) → IsStrictlySortedBy R (keys_of es) → ((q : K) → IfSome (lookup (is_at (R q)) es) (P q)) → AllByRecursion (λ e. P e.0 e.1) es
  all_entries [] h p = tt
  all_entries (e ∷ es) h p = (
    subst (λ b. IfSome (cond b (Some e.1) (lookup (is_at (R e.0)) es)) (P e.0)) ((eq_by_cmp_equiv o).refl e.0) (p e.0),
    all_entries es (sorted_tail R e.0 (keys_of es) h) (λ q. after e es q h (is_at (R q) e.0) refl (p q)),
  )

-- marked with the ticket that pays it, and kept under its serial
abbrev IsKeptRight : List Ticket → SerialNumber → Held → Type 0
IsKeptRight tickets serial held = (held.ticket ≡ ticket_of tickets serial) × (held.bond.serial ≡ serial)

right_if : (tickets : List Ticket) (q : SerialNumber) (o : Option Held) → IfSome o (λ h. h.ticket ≡ ticket_of tickets q)
    → IfSome (option_map (λ h. h.bond) o) (λ b. b.serial ≡ q) → IfSome o (IsKeptRight tickets q)
right_if tickets q None m k = tt
right_if tickets q (Some held) m k = (m, k)

one_more : (b : Bool) (bond : Bond) (bonds : List Bond) → cons_option (cond b (Some bond) None) bonds ≡ cond b (bond ∷ bonds) bonds
one_more true bond bonds = refl
one_more false bond bonds = refl

own_among : (tickets : List Ticket) (customer : ℕ) (es : List (SerialNumber × Held)) → AllByRecursion (λ e. IsKeptRight tickets e.0 e.1) es
    → filter_map (own_bond customer) (values_of es) ≡ filter (is_open_bond tickets customer) (values_of (bonds_kept es))
own_among tickets customer [] h = refl
own_among tickets customer (e ∷ es) h =
    ap (cons_option (own_bond customer e.1)) (own_among tickets customer es h.1)
    ∙ one_more ((e.1.bond.owner == customer) && is_none e.1.ticket) e.1.bond (filter (is_open_bond tickets customer) (values_of (bonds_kept es)))
    ∙ ap (λ t. cond ((e.1.bond.owner == customer) && is_none t) (e.1.bond ∷ filter (is_open_bond tickets customer) (values_of (bonds_kept es))) (filter (is_open_bond tickets customer) (values_of (bonds_kept es))))
    (h.0.0 ∙ sym (ap (ticket_of tickets) h.0.1))

pub own_is : (tickets : List Ticket) (customer : ℕ) (es : List (SerialNumber × Held)) → IsStrictlySortedBy serial_cmp (keys_of es) → AreMarked es tickets
    → ((q : SerialNumber) → IfSome (finite.get (bonds_held es) q) (λ b. b.serial ≡ q))
    → filter_map (own_bond customer) (values_of es) ≡ filter (is_open_bond tickets customer) (finite.values (bonds_held es))
own_is tickets customer es ordered marked keyed =
    own_among tickets customer es (all_entries serials_total (IsKeptRight tickets) es ordered (λ q.
    right_if tickets q (held_at es q) (marked q) (subst (λ o. IfSome o (λ b. b.serial ≡ q)) (get_held_bond es q) (keyed q))))
    ∙ ap (λ bs. filter (is_open_bond tickets customer) (values_of bs))
    (sym (entries_are serial_cmp serials_total serials_exact (bonds_kept es) (subst (IsStrictlySortedBy serial_cmp) (sym (same_keys es)) ordered)))
