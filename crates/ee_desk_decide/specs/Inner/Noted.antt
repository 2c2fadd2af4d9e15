-- Definitions that private contracts alone cite; specs/Noted.antt has the others.
use Rattle.std.specs.Prelude.{Option}
use Rattle.std.specs.Option.{option_map_or}
use Rattle.std.specs.declared.cmp.Ordering.{Ordering}
use Rattle.std.specs.FinMap as finite
use Rattle.std.specs.FinMap.{FinMap}

-- a map with what is found for one more key
abbrev pub noted : {K V : Type 0} {R : K → K → Ordering} → (K → Option V) → FinMap R V → K → FinMap R V
noted look found key = option_map_or (λ value. finite.insert found key value) (look key) found

-- a map with what is found for a key, if there is one
abbrev pub noted_at : {K V : Type 0} {R : K → K → Ordering} → (K → Option V) → FinMap R V → Option K → FinMap R V
noted_at look found key = option_map_or (λ k. noted look found k) key found
