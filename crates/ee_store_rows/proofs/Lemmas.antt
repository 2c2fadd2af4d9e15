-- Lemmas that the proofs of crates above use.
use Rattle.std.proofs.Common.{◌≡◌, ℕ}
use Rattle.std.specs.Prelude.{Option, Some, IfSome, IsSome}
use Rattle.ee_units.specs.Spelling.{SerialNumber, serial_at, ◌>>=◌}
use Rattle.ee_desk_model.specs.Ranges.{IsSerial}
use Rattle.ee_store_rows.proofs.ReadValues

-- if one step after another gave a value, each step gave one
pub some_from_bind : {A B : Type 0} (o : Option A) (f : A → Option B) (y : B) → (o >>= f) ≡ Some y → (x : A) × (o ≡ Some x) × (f x ≡ Some y)
some_from_bind = ReadValues.bind_is

-- a serial number that is read has that letter and that number
pub serial_read : (letter number : ℕ) (o : Option SerialNumber) → o ≡ serial_at letter number → IfSome o (λ s. (s.letter ≡ letter) × (s.number ≡ number))
serial_read = ReadValues.serial_read

-- a serial number in range is read
pub serial_fits : (letter number : ℕ) (o : Option SerialNumber) → o ≡ serial_at letter number → IsSerial (record { letter = letter; number = number }) → IsSome o
serial_fits = ReadValues.serial_fits
