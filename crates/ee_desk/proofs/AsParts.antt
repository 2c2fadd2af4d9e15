-- What is kept in memory as lists.
use Rattle.std.proofs.Common.{◌≡◌, ℕ, List, [], ◌∷◌, map, Option, refl, sym, ap, ◌∙◌, subst}
use Rattle.std.specs.List.Sorted.{IsStrictlySortedBy}
use Rattle.std.specs.Map.{keys_of, values_of}
use Rattle.std.specs.FinMap.{nat_cmp-IsAntisymmetric}
use Rattle.std.specs.Ordering.{nat_cmp}
use Rattle.std.specs.Cmp.{nat_cmp_total}
use Rattle.ee_units.specs.Spelling.{SerialNumber}
use Rattle.ee_value.specs.declared.rates.Rates.{Rates}
use Rattle.ee_value.specs.declared.rates.RateRow.{RateRow}
use Rattle.ee_calculator.specs.declared.bonds.Bond.{Bond}
use Rattle.ee_desk_model.specs.declared.changes.Held.{Held}
use Rattle.ee_desk_model.specs.declared.replies.Ticket.{Ticket}
use Rattle.ee_desk_model.specs.declared.replies.Batch.{Batch}
use Rattle.ee_desk_model.specs.Serials.{serial_cmp}
use Rattle.ee_desk_model.proofs.Lemmas.Maps.{serials_total, serials_exact}
use Rattle.ee_desk_soundness.specs.Parts.{Parts, parts_of, row_of_entry}
use Rattle.ee_desk.specs.Inner.Kept.{books_of}
use Rattle.ee_desk.proofs.Ordered.{entries_are}

abbrev pub bonds_kept : List (SerialNumber × Held) → List (SerialNumber × Bond)
bonds_kept es = map (λ e. (e.0, e.1.bond)) es

pub same_keys : (es : List (SerialNumber × Held)) → keys_of (bonds_kept es) ≡ keys_of es
same_keys [] = refl
same_keys (e ∷ es) = ap (λ ks. e.0 ∷ ks) (same_keys es)

same_bonds : (es : List (SerialNumber × Held)) → map (λ (h : Held). h.bond) (values_of es) ≡ values_of (bonds_kept es)
same_bonds [] = refl
same_bonds (e ∷ es) = ap (λ bs. e.1.bond ∷ bs) (same_bonds es)

-- copies of what is kept are the parts of the books
pub as_parts : (terms : List (ℕ × Rates)) (held : List (SerialNumber × Held)) (day last : Option ℕ) (tickets : List Ticket) (batches : List Batch)
    (rows : List RateRow) (bonds : List Bond) (own : List Ticket) (closed : List Batch)
    → IsStrictlySortedBy nat_cmp (keys_of terms) → IsStrictlySortedBy serial_cmp (keys_of held)
    → rows ≡ map row_of_entry terms → bonds ≡ map (λ (h : Held). h.bond) (values_of held) → own ≡ tickets → closed ≡ batches
    → ◌≡◌ {A = Parts} (record { rates = rows; bonds = bonds; day = day; last_day = last; tickets = own; batches = closed }) (parts_of (books_of terms held day last tickets batches))
as_parts terms held day last tickets batches rows bonds own closed months serials a b c d = λ i. record {
  rates = (a ∙ ap (map row_of_entry) (sym (entries_are nat_cmp nat_cmp_total nat_cmp-IsAntisymmetric terms months))) i;
  bonds = (b ∙ same_bonds held ∙ ap values_of (sym (entries_are serial_cmp serials_total serials_exact (bonds_kept held) (subst (IsStrictlySortedBy serial_cmp) (sym (same_keys held)) serials)))) i;
  day = day;
  last_day = last;
  tickets = c i;
  batches = d i;
}
