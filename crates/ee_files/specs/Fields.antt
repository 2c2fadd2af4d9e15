-- The value of a field (this project's rule).
use Rattle.std.specs.Prelude.{ℕ, List, Option, Some, None, Result, Ok, Err, option_and_then, if◌then◌else◌}
use Rattle.std.specs.Option.{ok_or}
use Rattle.std.specs.Str.{is_utf8}
use Rattle.ee_files.specs.declared.columns.FileColumn.{FileColumn}
use Rattle.ee_files.specs.declared.faults.FileCode.TheVariants.{BadValue}
use Rattle.ee_files.specs.declared.faults.FileFault.{FileFault}

abbrev pub Bytes : Type 0
Bytes = List ℕ

-- stops at the first fault, and otherwise continues
infixl 10 ◌>>=◌
abbrev pub ◌>>=◌ : {A B : Type 0} → Result A FileFault → (A → Result B FileFault) → Result B FileFault
(Ok x) >>= f = f x
(Err e) >>= f = Err e

-- a field that is text
abbrev pub text_of : Option Bytes → Option Bytes
text_of field = option_and_then (λ f. if is_utf8 f then Some f else None) field

-- the value that a whole field spells: no space is trimmed, and a field that is no text spells no value
abbrev pub field_value : {A : Type 0} → (Bytes → Option A) → Option Bytes → Option A
field_value read field = option_and_then read (text_of field)

-- the value of a column, or the fault of that column in that row
abbrev pub value_at : {A : Type 0} → ℕ → FileColumn → (Bytes → Option A) → Option Bytes → Result A FileFault
value_at row column read field = ok_or (field_value read field) (record { row = row; code = BadValue column })
