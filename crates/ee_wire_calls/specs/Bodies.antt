-- The request of a POST's body, as a function of its JSON.
use Rattle.std.specs.Prelude.{List, [], ◌∷◌, codes, Result, Ok}
use Rattle.std.specs.Option.{ok_or}
use Rattle.serde_json.specs.Data.{Data, Items, no_items, item}
use Rattle.serde_json.specs.Find.{as_array}
use Rattle.ee_wire_calls.specs.Kinds.{desk_in, number_in, day_in, issue_in, rate_in, serial_in, denom_in, customer_in}
use Rattle.ee_wire_calls.specs.Fields.{◌>>=◌, field, optional, optional_or, no_other, an_object}
use Rattle.ee_wire_calls.specs.declared.faults.Field.{Field}
use Rattle.ee_wire_calls.specs.declared.faults.Field.TheVariants as at
use Rattle.ee_value.specs.Chain.{rates_with}
use Rattle.ee_value.specs.declared.rates.RateRow.{RateRow}
use Rattle.ee_calculator.specs.declared.bonds.Bond.{Bond}
use Rattle.ee_desk_model.specs.declared.acts.Request.{Request}
use Rattle.ee_units.specs.Spelling.{SerialNumber}
use Rattle.ee_desk_model.specs.declared.acts.Act.TheVariants as act
use Rattle.ee_wire_calls.specs.declared.routes.Post.{Post}
use Rattle.ee_wire_calls.specs.declared.routes.Post.TheVariants as post

-- ---- lists

-- the rows in order, or the first fault
abbrev pub each : {A : Type 0} → (Data → Result A Field) → Items → Result (List A) Field
each row no_items = Ok []
each row (item d ds) = row d >>= λ x. each row ds >>= λ xs. Ok (x ∷ xs)

unfoldable pub rate_row : Data → Result RateRow Field
rate_row d = do
  o ← an_object at.Rates d
  from ← field (codes "from") issue_in at.From o
  rate ← field (codes "rate") rate_in at.Rate o
  extension ← optional (codes "extension") rate_in at.Extension o
  _ ← no_other (codes "from" ∷ codes "rate" ∷ codes "extension" ∷ []) o
  Ok (record { from = from; rates = rates_with rate extension })

abbrev pub rate_rows : Items → Result (List RateRow) Field
rate_rows ds = each rate_row ds

unfoldable pub bond_of : Data → Result Bond Field
bond_of d = do
  o ← an_object at.Bonds d
  serial ← field (codes "serial") serial_in at.Serial o
  denom ← field (codes "denom") denom_in at.Denom o
  issued ← field (codes "issued") issue_in at.Issued o
  owner ← field (codes "owner") customer_in at.Owner o
  coowner ← optional (codes "coowner") customer_in at.Coowner o
  _ ← no_other (codes "serial" ∷ codes "denom" ∷ codes "issued" ∷ codes "owner" ∷ codes "coowner" ∷ []) o
  Ok (record { serial = serial; denom = denom; issued = issued; owner = owner; coowner = coowner })

abbrev pub bonds_of : Items → Result (List Bond) Field
bonds_of ds = each bond_of ds

abbrev pub serials_of : Items → Result (List SerialNumber) Field
serials_of ds = each (λ d. ok_or (serial_in d) at.Serials) ds

-- ---- bodies

unfoldable pub add_rates : Data → Result Request Field
add_rates d = do
  o ← an_object at.Body d
  desk ← optional_or 0 (codes "desk") desk_in at.Desk o
  n ← field (codes "number") number_in at.Number o
  ds ← field (codes "rates") as_array at.Rates o
  rows ← rate_rows ds
  _ ← no_other (codes "desk" ∷ codes "number" ∷ codes "rates" ∷ []) o
  Ok (record { desk = desk; number = n; act = act.AddRates rows })

unfoldable pub add_bonds : Data → Result Request Field
add_bonds d = do
  o ← an_object at.Body d
  desk ← optional_or 0 (codes "desk") desk_in at.Desk o
  n ← field (codes "number") number_in at.Number o
  ds ← field (codes "bonds") as_array at.Bonds o
  rows ← bonds_of ds
  _ ← no_other (codes "desk" ∷ codes "number" ∷ codes "bonds" ∷ []) o
  Ok (record { desk = desk; number = n; act = act.AddBonds rows })

unfoldable pub open_day : Data → Result Request Field
open_day d = do
  o ← an_object at.Body d
  desk ← optional_or 0 (codes "desk") desk_in at.Desk o
  n ← field (codes "number") number_in at.Number o
  day ← field (codes "day") day_in at.Day o
  _ ← no_other (codes "desk" ∷ codes "number" ∷ codes "day" ∷ []) o
  Ok (record { desk = desk; number = n; act = act.OpenDay day })

unfoldable pub close_day : Data → Result Request Field
close_day d = do
  o ← an_object at.Body d
  desk ← optional_or 0 (codes "desk") desk_in at.Desk o
  n ← field (codes "number") number_in at.Number o
  day ← field (codes "day") day_in at.Day o
  _ ← no_other (codes "desk" ∷ codes "number" ∷ codes "day" ∷ []) o
  Ok (record { desk = desk; number = n; act = act.CloseDay day })

unfoldable pub redeem : Data → Result Request Field
redeem d = do
  o ← an_object at.Body d
  desk ← optional_or 0 (codes "desk") desk_in at.Desk o
  n ← field (codes "number") number_in at.Number o
  day ← field (codes "day") day_in at.Day o
  payee ← field (codes "payee") customer_in at.Payee o
  ds ← field (codes "serials") as_array at.Serials o
  serials ← serials_of ds
  _ ← no_other (codes "desk" ∷ codes "number" ∷ codes "day" ∷ codes "payee" ∷ codes "serials" ∷ []) o
  Ok (record { desk = desk; number = n; act = act.Redeem day payee serials })

abbrev pub request_of : Post → Data → Result Request Field
request_of post.Rates d = add_rates d
request_of post.Bonds d = add_bonds d
request_of post.DayOpen d = open_day d
request_of post.DayClose d = close_day d
request_of post.Redeem d = redeem d
