-- The rows of a file, by each of its records.
use Rattle.std.proofs.Common.{◌≡◌, ℕ, zero, suc, ◌+◌, List, [], ◌∷◌, take, Result, Ok, Err, refl, ap}
use Rattle.std.specs.Bool.{Decides}
use Rattle.std.proofs.lemmas.Slice.Eq.{bytes_eq-Decides, slice_eq-Decides}
use Rattle.ee_files.specs.Fields.{Bytes, ◌>>=◌}
use Rattle.ee_files.specs.Order.{AllOrFirstFault, each}
use Rattle.ee_files.specs.Rows.{rows_from, same_fields}
use Rattle.ee_files.specs.declared.faults.FileFault.{FileFault}

-- one record more, before those that were read
one_before : {A : Type 0} (first : Result A FileFault) (read : List (Result A FileFault)) (others : Result (List A) FileFault) → AllOrFirstFault read others
    → AllOrFirstFault (first ∷ read) (first >>= λ x. others >>= λ xs. Ok (x ∷ xs))
one_before (Err e) read others h = record { before = []; after = read; parts = refl }
one_before (Ok x) read (Ok xs) h = ap (λ t. Ok x ∷ t) h
one_before (Ok x) read (Err e) h = record { before = x ∷ h.before; after = h.after; parts = ap (λ t. Ok x ∷ t) h.parts }

pub in_order : {A : Type 0} (entry : ℕ → List Bytes → Result A FileFault) (row most : ℕ) (rest : List (List Bytes)) → AllOrFirstFault (each entry row (take most rest)) (rows_from entry row most rest)
unfolding each rows_from
in_order entry row zero rest = refl
in_order entry row (suc most) [] = refl
in_order entry row (suc most) (fields ∷ rest) = one_before (entry row fields) (each entry (row + 1) (take most rest)) (rows_from entry (row + 1) most rest) (in_order entry (row + 1) most rest)

pub same_decides : (fields names : List Bytes) → Decides (same_fields fields names) (fields ≡ names)
same_decides fields names = slice_eq-Decides bytes_eq-Decides fields names (same_fields fields names) refl
