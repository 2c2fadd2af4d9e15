-- A record that is passed, and the one that is wanted.
use Rattle.std.proofs.Common.{◌≡◌, ◌∙◌, ℕ, suc, List, ◌∷◌, Option, Some, sym, ap}
use Rattle.ee_files.specs.Fields.{Bytes}
use Rattle.ee_files.specs.Showing.{record_after}

pub past_one : (before n : ℕ) (all rest : List (List Bytes)) (fields : List Bytes) (wanted : Option (List Bytes)) → n ≡ suc before → all ≡ fields ∷ rest → record_after n all ≡ wanted → record_after before rest ≡ wanted
unfolding record_after
past_one before n all rest fields wanted is first h = ap (λ m. record_after m (fields ∷ rest)) (sym is) ∙ ap (record_after n) (sym first) ∙ h

pub this_one : (n : ℕ) (all rest : List (List Bytes)) (fields : List Bytes) (wanted : Option (List Bytes)) → n ≡ 0 → all ≡ fields ∷ rest → record_after n all ≡ wanted → wanted ≡ Some fields
unfolding record_after
this_one n all rest fields wanted is first h = sym h ∙ ap (λ m. record_after m all) is ∙ ap (record_after 0) first
