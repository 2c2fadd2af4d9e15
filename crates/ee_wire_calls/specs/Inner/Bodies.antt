-- Definitions that private contracts alone cite; specs/Bodies.antt has the others.
use Rattle.std.specs.Prelude.{◌≡◌, Result, Ok, Err}
use Rattle.ee_wire_calls.specs.declared.faults.Field.{Field}
use Rattle.ee_wire_calls.specs.declared.faults.BodyFault.{BodyFault}
use Rattle.ee_wire_calls.specs.declared.faults.BodyFault.TheVariants as fault

-- ---- the result of a function, if memory may be refused

abbrev pub Fails : {Y : Type 0} → BodyFault → Result Y Field → Type 0
Fails fault.NoMemory r = Unit {0}
Fails (fault.Field f) r = r ≡ Err f

-- the result, seen by view, is that of the definition, unless memory was refused
abbrev pub Gives : {X Y : Type 0} → (X → Y) → Result X BodyFault → Result Y Field → Type 0
Gives view (Ok x) r = r ≡ Ok (view x)
Gives view (Err e) r = Fails e r
