-- The numbers of a bond's row, and the bond that has them.
use Rattle.std.proofs.Common.{◌≡◌, ℕ, refl, sym, ap, ◌∙◌}
use Rattle.std.specs.Prelude.{Option, Some, None, IfSome}
use Rattle.std.proofs.lemmas.Option.{same_Some}
use Rattle.ee_units.specs.Spelling.{SerialNumber, in_range, serial_at, ◌>>=◌}
use Rattle.ee_units.proofs.Lemmas.{in_range-is, in_range_back}
use Rattle.ee_desk_model.specs.declared.changes.Held.{Held}
use Rattle.ee_desk_model.specs.Ranges.{IsSerial}
use Rattle.ee_store_rows.proofs.Lemmas.{some_from_bind}
use Rattle.ee_store_rows.specs.Rows.{bond_row, key_of}
use Rattle.ee_store_tables.specs.Rows.{BondRow}
use Rattle.ee_store_load.specs.Shown.{bond_entry, IsBond}

pub bind_some : {A B : Type 0} (o : Option A) (x : A) (f : A → Option B) (r : Option B) → o ≡ Some x → f x ≡ r → (o >>= f) ≡ r
bind_some o x f r e k = ap (λ o. o >>= f) e ∙ k

pub serial_read : (s : SerialNumber) → IsSerial s → serial_at s.letter s.number ≡ Some s
unfolding serial_at
serial_read s h =
    bind_some (in_range 1 26 s.letter) s.letter _ _ (in_range_back 1 26 s.letter h.0 h.1)
    (bind_some (in_range 1 9999999999 s.number) s.number _ _ (in_range_back 1 9999999999 s.number h.2 h.3) refl)

pub serial_is : (letter number : ℕ) (s : SerialNumber) → serial_at letter number ≡ Some s → (letter ≡ s.letter) × (number ≡ s.number)
unfolding serial_at
serial_is letter number s e =
    let l = some_from_bind (in_range 1 26 letter) _ s e in
    let n = some_from_bind (in_range 1 9999999999 number) _ s l.2 in
    let is = same_Some _ s n.2 in
    ((in_range-is 1 26 letter l.0 l.1).0 ∙ ap (λ (s : SerialNumber). s.letter) is, (in_range-is 1 9999999999 number n.0 n.1).0 ∙ ap (λ (s : SerialNumber). s.number) is)

-- a bond's letter and number are read as its serial number
pub bond_has_serial : (letter number : ℕ) (row : BondRow) → IsBond ((letter, number), row) → serial_at letter number ≡ None → ⊥
bond_has_serial letter number row is none =
    let same = ap (λ (e : (ℕ × ℕ) × BondRow). e.0) is.2 in
    let found = sym none ∙ ap (λ (k : ℕ × ℕ). serial_at k.0 k.1) same ∙ serial_read is.0.bond.serial is.1.serial in
    cc

-- what has this serial number and this row has the entry of both
pub entry_of : (letter number : ℕ) (row : BondRow) (s : SerialNumber) → serial_at letter number ≡ Some s → (o : Option Held)
    → IfSome o (λ held. (bond_row held ≡ row) × (held.bond.serial ≡ s)) → IfSome o (λ held. ((letter, number), row) ≡ bond_entry held)
entry_of letter number row s is None h = tt
entry_of letter number row s is (Some held) h =
    let named = serial_is letter number s is in
    (λ i. ((named.0 i, named.1 i), sym h.0 i)) ∙ (λ i. (key_of (sym h.1 i), bond_row held))
