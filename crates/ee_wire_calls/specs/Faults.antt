-- The codes and names of faults, and the names of fields (this project's rule).
use Rattle.std.specs.Prelude.{ℕ, List, codes}
use Rattle.ee_wire_framing.specs.declared.FramingFault.TheVariants.{BadHead, HeadTooLong, BodyTooLong, BadLength, Truncated}
use Rattle.ee_wire_calls.specs.declared.faults.Field.{Field}
use Rattle.ee_wire_calls.specs.declared.faults.Field.TheVariants as at
use Rattle.ee_wire_calls.specs.declared.faults.WireFault.{WireFault}
use Rattle.ee_wire_calls.specs.declared.faults.WireFault.TheVariants.{Framing, BadJson, BadField, NoRoute, BadMethod, NoMemory}

abbrev pub code_of : WireFault → ℕ
code_of NoMemory = 1
code_of (Framing BadHead) = 60
code_of (Framing HeadTooLong) = 61
code_of (Framing BodyTooLong) = 62
code_of (Framing BadLength) = 63
code_of BadJson = 64
code_of (BadField field) = 65
code_of NoRoute = 66
code_of BadMethod = 67
code_of (Framing Truncated) = 68

abbrev pub name_of : WireFault → List ℕ
name_of NoMemory = codes "NoMemory"
name_of (Framing BadHead) = codes "BadHead"
name_of (Framing HeadTooLong) = codes "HeadTooLong"
name_of (Framing BodyTooLong) = codes "BodyTooLong"
name_of (Framing BadLength) = codes "BadLength"
name_of BadJson = codes "BadJson"
name_of (BadField field) = codes "BadField"
name_of NoRoute = codes "NoRoute"
name_of BadMethod = codes "BadMethod"
name_of (Framing Truncated) = codes "Truncated"

abbrev pub field_name : Field → List ℕ
field_name at.Body = codes "body"
field_name at.Desk = codes "desk"
field_name at.Number = codes "number"
field_name at.Rates = codes "rates"
field_name at.From = codes "from"
field_name at.Rate = codes "rate"
field_name at.Extension = codes "extension"
field_name at.Bonds = codes "bonds"
field_name at.Serial = codes "serial"
field_name at.Denom = codes "denom"
field_name at.Issued = codes "issued"
field_name at.Owner = codes "owner"
field_name at.Coowner = codes "coowner"
field_name at.Day = codes "day"
field_name at.Payee = codes "payee"
field_name at.Serials = codes "serials"
field_name at.Other = codes "other"
field_name at.Customer = codes "customer"
field_name at.Month = codes "month"
field_name at.Ticket = codes "ticket"
