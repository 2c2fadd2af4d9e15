-- The values that plain numbers of rows are read as have those numbers.
use Rattle.std.proofs.Common.{◌≡◌, ℕ, refl, sym, ap, ◌∙◌, subst}
use Rattle.std.specs.Prelude.{Option, Some, None, IfSome, IsSome}
use Rattle.ee_units.specs.Spelling.{SerialNumber, in_range, serial_at, ◌>>=◌}
use Rattle.ee_units.proofs.Lemmas.{in_range-is, in_range_back}
use Rattle.std.proofs.lemmas.Option.{same_Some}
use Rattle.ee_desk_model.specs.Ranges.{IsSerial}

pub bind_is : {A B : Type 0} (o : Option A) (f : A → Option B) (y : B) → (o >>= f) ≡ Some y → (x : A) × (o ≡ Some x) × (f x ≡ Some y)
bind_is None f y e = absurd (cc)
bind_is (Some x) f y e = (x, refl, e)

pub serial_read : (letter number : ℕ) (o : Option SerialNumber) → o ≡ serial_at letter number → IfSome o (λ s. (s.letter ≡ letter) × (s.number ≡ number))
unfolding serial_at
serial_read letter number None e = tt
serial_read letter number (Some s) e =
    let l = bind_is (in_range 1 26 letter) _ s (sym e) in
    let n = bind_is (in_range 1 9999999999 number) _ s l.2 in
    let is = same_Some _ s n.2 in (
      sym ((in_range-is 1 26 letter l.0 l.1).0 ∙ ap (λ (s : SerialNumber). s.letter) is),
      sym ((in_range-is 1 9999999999 number n.0 n.1).0 ∙ ap (λ (s : SerialNumber). s.number) is),
    )

-- ---- numbers in range are read

pub serial_fits : (letter number : ℕ) (o : Option SerialNumber) → o ≡ serial_at letter number → IsSerial (record { letter = letter; number = number }) → IsSome o
unfolding serial_at
serial_fits letter number o e fits =
    let gives : serial_at letter number ≡ Some (record { letter = letter; number = number }) = rw (in_range_back 1 26 letter fits.0 fits.1, in_range_back 1 9999999999 number fits.2 fits.3) refl in
    subst IsSome (sym (e ∙ gives)) refl
