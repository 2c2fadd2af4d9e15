-- A loop that writes a row for each element.
use Rattle.std.proofs.Common.{◌≡◌, ◌∙◌, ℕ, ◌+◌, ◌<◌, ◌≤◌, List, ◌++◌, Option, Some, Bool, length, get_or, take, sym, ap, append_assoc, subst}
use Rattle.std.specs.List.{flat_map}
use Rattle.std.proofs.lemmas.List.{take_all}
use Rattle.std.proofs.lemmas.List.Folds.{flat_map-map}
use Rattle.std.proofs.lemmas.Option.{same_Some}
use Rattle.std.specs.Io.KnownBytes.{Appends}
use Rattle.ee_io.specs.Written.{WritesFront}
use Rattle.ee_io.proofs.Lemmas.{flat_map_more}
use Rattle.csv.specs.Writing.{row_text, default_writer}
use Rattle.ee_files.specs.BondFile.{bond_columns, bond_fields, inventory_text}
use Rattle.ee_files.specs.Rows.{header_of}
use Rattle.ee_calculator.specs.declared.bonds.Bond.{Bond}

pub more_row : {X : Type 0} (f : X → List ℕ) (head old new : List ℕ) (xs : List X) (i : ℕ) (d x : X) → i < length xs → x ≡ get_or xs i d → Some old ≡ Some (head ++ flat_map f (take i xs)) → Appends (Some old) (Some new) (f x) → Some new ≡ Some (head ++ flat_map f (take (i + 1) xs))
more_row f head old new xs i d x below is before adds =
    let was : old ≡ head ++ flat_map f (take i xs) = same_Some _ _ before in
    ap Some (adds ∙ ap (λ z. z ++ f x) was ∙ append_assoc head (flat_map f (take i xs)) (f x) ∙ ap (λ y. head ++ (flat_map f (take i xs) ++ f y)) is ∙ ap (λ z. head ++ z) (sym (flat_map_more f xs i d below)))

pub whole_text : (bonds : List Bond) (i : ℕ) → length bonds ≤ i → row_text default_writer (header_of bond_columns) ++ flat_map (λ b. row_text default_writer (bond_fields b)) (take i bonds) ≡ inventory_text bonds
unfolding inventory_text
whole_text bonds i all =
    ap (λ bs. row_text default_writer (header_of bond_columns) ++ flat_map (λ b. row_text default_writer (bond_fields b)) bs) (take_all i bonds all)
    ∙ ap (λ z. row_text default_writer (header_of bond_columns) ++ z) (sym (flat_map-map (row_text default_writer) bond_fields bonds))

-- the same text, written as far
pub written_as : (old new : Option (List ℕ)) (text whole : List ℕ) (done is : Bool) → text ≡ whole → done ≡ is → WritesFront old new text done → WritesFront old new whole is
written_as old new text whole done is same so written = subst (WritesFront old new whole) so (subst (λ t. WritesFront old new t done) same written)
