-- What is known about rows that are tested one after another.
use Rattle.std.specs.Prelude.{◌≡◌, ◌↔◌, Bool, true, List, [], ◌∷◌, Option, Some, None}
use Rattle.std.specs.List.{AllByRecursion}
use Rattle.ee_store_load.specs.Reading.{rises}

abbrev pub last_of : {X : Type 0} → List X → Option X
last_of [] = None
last_of (x ∷ []) = Some x
last_of (x ∷ y ∷ ys) = last_of (y ∷ ys)

-- the last row, whether the key of each is above that of the one before it, and whether each passed its test
pub record Tells {X : Type 0} (precedes : X → X → Bool) (Passes : X → Type 0) (last : Option X) (rise pass : Bool) (rows : List X) : Type 0 where
  pub last_is : last ≡ last_of rows
  pub rise_is : rise ≡ rises precedes rows
  pub pass_is : (pass ≡ true) ↔ AllByRecursion Passes rows
