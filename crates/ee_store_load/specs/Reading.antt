-- Reading a whole table.
use Rattle.std.specs.Prelude.{◌&&◌, Bool, true, List, [], ◌∷◌}

-- each element comes before the next
abbrev pub rises : {X : Type 0} → (X → X → Bool) → List X → Bool
rises precedes [] = true
rises precedes (x ∷ []) = true
rises precedes (x ∷ y ∷ ys) = precedes x y && rises precedes (y ∷ ys)
