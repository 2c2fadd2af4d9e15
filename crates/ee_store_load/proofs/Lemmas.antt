-- Lemmas that the proofs of crates above use: whether a store has tables, of which version its rows are, that trees hold one set of rows,
-- and how serial numbers are read.
use Rattle.std.proofs.Common.{ℕ, ◌≡◌}
use Rattle.std.specs.Prelude.{Option, Some}
use Rattle.ee_units.specs.Spelling.{SerialNumber, serial_at, ◌>>=◌}
use Rattle.ee_desk_model.specs.Ranges.{IsSerial}
use Rattle.sqlite.specs.State.{State}
use Rattle.sqlite.specs.Tree.{Trees}
use Rattle.ee_store_schema.specs.Forms.{IsOurs, HoldsIn}
use Rattle.ee_store_tables.specs.Rows.{Rows}
use Rattle.ee_store_schema.specs.declared.forms.Form.{Form}
use Rattle.ee_store_load.specs.Opening.{HasTables, IsOfForm, IsOtherVersion}
use Rattle.ee_store_load.proofs.BondLemmas
use Rattle.ee_store_load.proofs.OneLemmas
use Rattle.ee_store_load.proofs.OpenLemmas
use Rattle.ee_store_load.proofs.VersionLemmas

-- a store with the tables of this program has tables
pub ours_tables : (s : State) → IsOurs s → HasTables s
ours_tables = OpenLemmas.ours_tables

-- rows of a form are of no other version
pub one_version : (form : Form) (rows : Rows) → IsOfForm form rows → ¬ IsOtherVersion rows
one_version = VersionLemmas.one_version

-- trees hold the rows of one form at most once
pub one_rows : (form : Form) (db : Trees) (a b : Rows) → HoldsIn form db a → HoldsIn form db b → a ≡ b
one_rows = OneLemmas.one_rows

-- ---- values that are read
pub bind_some : {A B : Type 0} (o : Option A) (x : A) (f : A → Option B) (r : Option B) → o ≡ Some x → f x ≡ r → (o >>= f) ≡ r
bind_some = BondLemmas.bind_some

-- the letter and the number of a serial number in range are read as it
pub serial_read : (s : SerialNumber) → IsSerial s → serial_at s.letter s.number ≡ Some s
serial_read = BondLemmas.serial_read

-- what is read as a serial number is its letter and its number
pub serial_is : (letter number : ℕ) (s : SerialNumber) → serial_at letter number ≡ Some s → (letter ≡ s.letter) × (number ≡ s.number)
serial_is = BondLemmas.serial_is
