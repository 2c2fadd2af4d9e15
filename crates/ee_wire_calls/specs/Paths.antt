-- The parts of a path, and the query that they make.
use Rattle.std.specs.Prelude.{ℕ, zero, suc, ◌==◌, List, Option, Result, Ok}
use Rattle.std.specs.List.{before_first, after_first}
use Rattle.std.specs.Option.{ok_or}
use Rattle.ee_wire_calls.specs.Kinds.{number_text}
use Rattle.ee_units.specs.Denoms.{denom_of}
use Rattle.ee_units.specs.Spelling.{customer_of, month_of, issue_of, day_of}
use Rattle.ee_wire_calls.specs.Fields.{◌>>=◌}
use Rattle.ee_wire_calls.specs.declared.faults.Field.{Field}
use Rattle.ee_wire_calls.specs.declared.faults.Field.TheVariants as at
use Rattle.ee_desk_model.specs.declared.queries.Query.{Query}
use Rattle.ee_desk_model.specs.declared.queries.Query.TheVariants as ask
use Rattle.ee_wire_calls.specs.declared.routes.Get.{Get}
use Rattle.ee_wire_calls.specs.declared.routes.Get.TheVariants as get

-- the part of a path after `slashes` slashes
abbrev pub segment : ℕ → List ℕ → List ℕ
segment zero path = before_first (λ b. b == 47) path
segment (suc slashes) path = segment slashes (after_first (λ b. b == 47) path)

-- that part, read as this kind, or the fault that names it
abbrev pub part : {A : Type 0} → ℕ → (List ℕ → Option A) → Field → List ℕ → Result A Field
part slashes kind fault path = ok_or (kind (segment slashes path)) fault

unfoldable pub query_of : Get → List ℕ → Result Query Field
query_of get.Inventory path = do
  customer ← part 2 customer_of at.Customer path
  month ← part 3 month_of at.Month path
  Ok (ask.Inventory customer month)
query_of get.Ticket path = do
  n ← part 2 number_text at.Ticket path
  Ok (ask.Ticket n)
query_of get.Batch path = do
  day ← part 2 day_of at.Day path
  Ok (ask.Batch day)
query_of get.Value path = do
  denom ← part 2 denom_of at.Denom path
  issued ← part 3 issue_of at.Issued path
  month ← part 4 month_of at.Month path
  Ok (ask.Value denom issued month)
