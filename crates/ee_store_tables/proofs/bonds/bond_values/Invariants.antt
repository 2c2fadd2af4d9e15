use Rattle.std.proofs.Common.{◌≡◌, ◌++◌, drop, map}
use Rattle.std.specs.Prelude.{flat_map}
use Rattle.sqlite_value.specs.Value.{owned}
use Rattle.ee_store_tables.specs.AsRows.{unpaid_columns}
use Rattle.ee_store_tables.proofs.bonds.bond_values.Given as goal

-- the values so far, and those of the bonds that are left
abbrev pub invariant-loop-bond : goal.invariant-loop-bond
invariant-loop-bond l = map owned l.values.items ++ flat_map unpaid_columns (drop l.bond-index l.bonds) ≡ flat_map unpaid_columns l.bonds
