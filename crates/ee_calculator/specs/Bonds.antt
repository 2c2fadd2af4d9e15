-- Who owns a bond, and who is paid (31 CFR Part 353).
use Rattle.std.specs.Prelude.{ℕ, Bool, false, ◌||◌, ◌==◌}
use Rattle.std.specs.Option.{option_map_or}
use Rattle.ee_calculator.specs.declared.bonds.Bond.{Bond}

abbrev pub has_coowner : Bond → ℕ → Bool
has_coowner bond customer = option_map_or (λ other. other == customer) bond.coowner false

-- the customer is the owner or the coowner
abbrev pub is_payee : Bond → ℕ → Bool
is_payee bond payee = (bond.owner == payee) || has_coowner bond payee
