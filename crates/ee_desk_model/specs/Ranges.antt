-- Bonds, acts and changes whose plain numbers are in the ranges of their types, as in every program.
use Rattle.std.specs.Prelude.{ℕ, ◌≤◌, IfSome, ⊤}
use Rattle.std.specs.List.{AllByRecursion}
use Rattle.ee_units.specs.Spelling.{SerialNumber}
use Rattle.ee_units.specs.Limits.{highest_customer, highest_serial}
use Rattle.ee_calculator.specs.declared.bonds.Bond.{Bond}
use Rattle.ee_desk_model.specs.declared.acts.Act.{Act}
use Rattle.ee_desk_model.specs.declared.acts.Act.TheVariants.{AddRates, AddBonds, OpenDay, Redeem, CloseDay}
use Rattle.ee_desk_model.specs.declared.changes.Change.{Change}
use Rattle.ee_desk_model.specs.declared.changes.Change.TheVariants as change
use Rattle.ee_value.specs.Chain.{InRange}
use Rattle.ee_desk_model.specs.Sound.{IsDay, IsIssueMonth}

abbrev pub IsCustomer : ℕ → Type 0
IsCustomer customer = (1 ≤ customer) × (customer ≤ highest_customer)

abbrev pub IsSerial : SerialNumber → Type 0
IsSerial serial = (1 ≤ serial.letter) × (serial.letter ≤ 26) × (1 ≤ serial.number) × (serial.number ≤ highest_serial)

pub record BondFits (bond : Bond) : Type 0 where
  pub serial : IsSerial bond.serial
  pub issued : IsIssueMonth bond.issued
  pub owner : IsCustomer bond.owner
  pub coowner : IfSome bond.coowner IsCustomer

abbrev pub IsInRange : Change → Type 0
IsInRange (change.Rates from rates) = IsIssueMonth from × InRange rates
IsInRange (change.Bond bond) = IsIssueMonth bond.issued
IsInRange (change.Day day) = IsDay day
IsInRange (change.Ticket ticket) = ⊤
IsInRange (change.Batch batch) = ⊤

abbrev pub IsActInRange : Act → Type 0
IsActInRange (AddRates rows) = AllByRecursion (λ row. IsIssueMonth row.from × InRange row.rates) rows
IsActInRange (AddBonds bonds) = AllByRecursion (λ bond. IsIssueMonth bond.issued) bonds
IsActInRange (OpenDay day) = IsDay day
IsActInRange (Redeem day payee serials) = ⊤
IsActInRange (CloseDay day) = ⊤
