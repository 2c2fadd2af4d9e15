-- Fields of an object, and the first fault in them.
use Rattle.std.specs.Prelude.{ℕ, if◌then◌else◌, List, [], ◌∷◌, Option, Some, None, Result, Ok, Err, option_and_then, option_map, bytes_eq, is_some}
use Rattle.std.specs.List.{list_all, list_any}
use Rattle.std.specs.Option.{ok_or}
use Rattle.serde_json.specs.Data.{Data, null, boolean, number, string, array, object, Members, no_members, member}
use Rattle.serde_json.specs.Find.{get, as_null}
use Rattle.ee_wire_calls.specs.declared.faults.Field.{Field}
use Rattle.ee_wire_calls.specs.declared.faults.Field.TheVariants.{Other}

-- continues with the value, if there is one
infixl 10 ◌>>=◌
abbrev pub ◌>>=◌ : {A B : Type 0} → Result A Field → (A → Result B Field) → Result B Field
◌>>=◌ (Ok x) f = f x
◌>>=◌ (Err e) f = Err e

-- the field with this name, read as this kind, or the fault that names it
abbrev pub field : {A : Type 0} → List ℕ → (Data → Option A) → Field → Data → Result A Field
field name kind fault d = ok_or (option_and_then kind (get name d)) fault

abbrev pub or_null : {A : Type 0} → (Data → Option A) → Field → Data → Result (Option A) Field
or_null kind fault d = if is_some (as_null d) then Ok None else ok_or (option_map Some (kind d)) fault

abbrev pub or_missing : {A : Type 0} → (Data → Option A) → Field → Option Data → Result (Option A) Field
or_missing kind fault None = Ok None
or_missing kind fault (Some d) = or_null kind fault d

-- the same, but the field may be missing or null
abbrev pub optional : {A : Type 0} → List ℕ → (Data → Option A) → Field → Data → Result (Option A) Field
optional name kind fault d = or_missing kind fault (get name d)

-- a default for a field that is missing or null
abbrev pub given_or : {A : Type 0} → A → Result (Option A) Field → Result A Field
given_or a (Ok None) = Ok a
given_or a (Ok (Some b)) = Ok b
given_or a (Err e) = Err e

abbrev pub optional_or : {A : Type 0} → A → List ℕ → (Data → Option A) → Field → Data → Result A Field
optional_or a name kind fault d = given_or a (optional name kind fault d)

abbrev pub keys : Members → List (List ℕ)
keys no_members = []
keys (member k d ms) = k ∷ keys ms

abbrev pub keys_of : Data → List (List ℕ)
keys_of null = []
keys_of (boolean b) = []
keys_of (number n) = []
keys_of (string s) = []
keys_of (array ds) = []
keys_of (object ms) = keys ms

-- the object has no fields but these
abbrev pub no_other : List (List ℕ) → Data → Result (Unit {0}) Field
no_other names d = if list_all (λ k. list_any (λ n. bytes_eq n k) names) (keys_of d) then Ok tt else Err Other

-- the value is an object, or the fault
abbrev pub an_object : Field → Data → Result Data Field
an_object fault (object ms) = Ok (object ms)
an_object fault null = Err fault
an_object fault (boolean b) = Err fault
an_object fault (number n) = Err fault
an_object fault (string s) = Err fault
an_object fault (array ds) = Err fault
