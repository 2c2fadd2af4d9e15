-- What is found by keys is what an act sees of the books.
use Rattle.std.proofs.Common.{◌≡◌, ℕ, ◌+◌, ◌<◌, List, [], ◌∷◌, length, take, get_or, Option, Some, None, refl, sym, ap, ◌∙◌}
use Rattle.std.specs.Prelude.{IfSome, Result, Ok, Err, OnOk}
use Rattle.std.specs.Option.{option_map, option_and_then, option_map_or, unwrap_or}
use Rattle.std.specs.declared.cmp.Ordering.{Ordering}
use Rattle.std.specs.Cmp.{IsTotalOrder}
use Rattle.std.specs.List.{filter_map, cons_option, AllByRecursion}
use Rattle.std.specs.FinMap as finite
use Rattle.std.specs.FinMap.{FinMap}
use Rattle.std.proofs.lemmas.Map.Lookups.{CmpEqualImpliesEq}
use Rattle.ee_units.specs.Spelling.{SerialNumber}
use Rattle.ee_calculator.specs.declared.bonds.Bond.{Bond}
use Rattle.ee_desk_model.specs.declared.changes.Held.{Held}
use Rattle.ee_desk_model.specs.declared.replies.Ticket.{Ticket}
use Rattle.ee_desk_model.specs.Seen.{held_as, held_of}
use Rattle.ee_desk_model.specs.Views.{picked}
use Rattle.ee_desk_model.proofs.Lemmas.Books.{sound_keyed}
use Rattle.ee_desk_decide.proofs.Lemmas.{found_for_next}
use Rattle.ee_desk_model.specs.Repeats.{Content}
use Rattle.ee_desk_model.specs.Ranges.{BondFits}
use Rattle.ee_store_rows.specs.Rows.{bond_row, key_of}
use Rattle.ee_store_books.specs.Standing.{rows_of, IsRight}
use Rattle.ee_store_books.specs.Found.{with_found}
use Rattle.ee_value.specs.declared.rates.Rates.{Rates}
use Rattle.ee_value.specs.Chain.{rates_with, named_extension}
use Rattle.ee_value.proofs.Lemmas.{rates-back}
use Rattle.ee_store_books.proofs.Lemmas.Contents.{get_bond_row, same_denom}

-- one more key of those picked
found_case : {K V : Type 0} {R : K → K → Ordering} (found : FinMap R V) (k : K) (v : Option V) → option_map_or (λ value. finite.insert found k value) v found ≡ with_found found k v
found_case found k None = refl
found_case found k (Some x) = refl

pub found_next : {K V : Type 0} {R : K → K → Ordering} (o : IsTotalOrder R) (exact : CmpEqualImpliesEq R) (look : K → Option V) (ks : List K) (i : ℕ) (d : K) → i < length ks
    → picked {R = R} look (take (i + 1) ks) ≡ with_found (picked look (take i ks)) (get_or ks i d) (look (get_or ks i d))
found_next {R = R} o exact look ks i d h = found_for_next o exact look ks i d h ∙ found_case {R = R} (picked look (take i ks)) (get_or ks i d) (look (get_or ks i d))

-- a bond that its row shows
same_held : (a b : Held) → a.bond.serial ≡ b.bond.serial → bond_row a ≡ bond_row b → a ≡ b
same_held a b s e = λ i. record {
  bond = record { serial = s i; denom = same_denom a.bond.denom b.bond.denom (ap (λ r. r.denom) e) i; issued = (e i).issued; owner = (e i).owner; coowner = (e i).coowner };
  ticket = (e i).ticket;
}

held_by : (ts : List Ticket) (s : SerialNumber) (o : Option Held) (p : Option Bond) → IfSome o (λ h. h.bond.serial ≡ s) → IfSome p (λ b. b.serial ≡ s)
    → option_map bond_row o ≡ option_map (λ b. bond_row (held_as ts s b)) p → o ≡ option_map (held_as ts s) p
held_by ts s None None h k e = refl
held_by ts s None (Some b) h k e = absurd (cc)
held_by ts s (Some x) None h k e = absurd (cc)
held_by ts s (Some x) (Some b) h k e = ap Some (same_held x (held_as ts s b) (h ∙ sym k) (ap (λ o. unwrap_or o (bond_row x)) e))

pub held_found : (S : Content) (s : SerialNumber) (o : Option Held) → IsRight S → IfSome o (λ h. h.bond.serial ≡ s) → option_map bond_row o ≡ finite.get (rows_of S).bonds (key_of s) → o ≡ held_of S.books s
held_found S s o right own e = held_by S.books.tickets s o (finite.get S.books.bonds s) own (sound_keyed S.books right.sound s) (e ∙ get_bond_row S.books.bonds S.books.tickets s)

-- the row of a serial number is that of what is held of it
held_row_of : (ts : List Ticket) (s : SerialNumber) (o : Option Bond) → option_map (λ b. bond_row (held_as ts s b)) o ≡ option_map bond_row (option_map (held_as ts s) o)
held_row_of ts s None = refl
held_row_of ts s (Some b) = refl

pub held_row : (S : Content) (s : SerialNumber) → finite.get (rows_of S).bonds (key_of s) ≡ option_map bond_row (held_of S.books s)
held_row S s = get_bond_row S.books.bonds S.books.tickets s ∙ held_row_of S.books.tickets s (finite.get S.books.bonds s)

held_fits_of : (ts : List Ticket) (s : SerialNumber) (o : Option Bond) → IfSome o BondFits → IfSome (option_map (held_as ts s) o) (λ held. BondFits held.bond)
held_fits_of ts s None fits = tt
held_fits_of ts s (Some b) fits = fits

-- and it is in range
pub held_fits : (S : Content) (s : SerialNumber) → IsRight S → IfSome (held_of S.books s) (λ held. BondFits held.bond)
held_fits S s right = held_fits_of S.books.tickets s (finite.get S.books.bonds s) (right.in_range.bonds s)

pub always : {X E Q : Type 0} (r : Result X E) → Q → OnOk r Q
always (Ok x) q = q
always (Err e) q = tt

-- rates that their rows show
pub rates_found : (o : Option Rates) (fixed extension : Option ℕ) → fixed ≡ option_map (λ rates. rates.fixed) o → extension ≡ option_and_then named_extension o
    → option_map (λ fixed. rates_with fixed extension) fixed ≡ o
rates_found o fixed extension one other = (λ i. option_map (λ fixed. rates_with fixed (other i)) (one i)) ∙ both o
  where
    both : (o : Option Rates) → option_map (λ fixed. rates_with fixed (option_and_then named_extension o)) (option_map (λ (rates : Rates). rates.fixed) o) ≡ o
    both None = refl
    both (Some rates) = ap Some (rates-back rates)

-- what is found alike in each place
pub same_found : {A B : Type 0} (f g : A → Option B) (xs : List A) → AllByRecursion (λ x. f x ≡ g x) xs → filter_map f xs ≡ filter_map g xs
same_found f g [] h = refl
same_found f g (x ∷ xs) h = λ i. cons_option (h.0 i) (same_found f g xs h.1 i)
