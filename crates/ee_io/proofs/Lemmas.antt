-- Lemmas that the proofs of crates above use: texts that are written piece by piece.
use Rattle.std.proofs.Common.{Bool, List, Option, false, get_or, length, take, true, ℕ, ◌++◌, ◌+◌, ◌<◌, ◌≡◌, ◌≤◌}
use Rattle.std.specs.Io.KnownBytes.{Appends}
use Rattle.std.specs.List.{flat_map}
use Rattle.ee_io.specs.Written.{WritesFront}
use Rattle.ee_io.proofs.Fronts

-- ---- a loop that writes the text of each element
-- the texts so far, with one element's more
pub flat_map_more : {X : Type 0} (f : X → List ℕ) (xs : List X) (i : ℕ) (d : X) → i < length xs
    → flat_map f (take (i + 1) xs) ≡ flat_map f (take i xs) ++ f (get_or xs i d)
flat_map_more = Fronts.flat_map_more

-- one text more was written whole
pub next_piece_written : {X : Type 0} (old mid new : Option (List ℕ)) (f : X → List ℕ) (xs : List X) (i : ℕ) (d x : X) (done : Bool) → i < length xs
    → x ≡ get_or xs i d → Appends old mid (flat_map f (take i xs)) → WritesFront mid new (f x) done → done ≡ true
    → Appends old new (flat_map f (take (i + 1) xs))
next_piece_written = Fronts.piece_done

-- the next text was cut, so a front of all texts was written
pub next_piece_cut : {X : Type 0} (old mid new : Option (List ℕ)) (f : X → List ℕ) (xs : List X) (i : ℕ) (d x : X) (done : Bool) → i < length xs
    → x ≡ get_or xs i d → Appends old mid (flat_map f (take i xs)) → WritesFront mid new (f x) done → done ≡ false
    → WritesFront old new (flat_map f xs) false
next_piece_cut = Fronts.piece_cut

-- after the last text all were written
pub all_pieces_written : {X : Type 0} (old new : Option (List ℕ)) (f : X → List ℕ) (xs : List X) (i : ℕ) → length xs ≤ i
    → Appends old new (flat_map f (take i xs)) → WritesFront old new (flat_map f xs) true
all_pieces_written = Fronts.all_done

-- ---- two texts, the second written if the first was whole
-- the first was whole: what was written of both ends as the second did
pub second_after_whole : (old mid new : Option (List ℕ)) (a b : List ℕ) (first done : Bool) → WritesFront old mid a first → first ≡ true
    → WritesFront mid new b done → WritesFront old new (a ++ b) done
second_after_whole = Fronts.then_all

-- the first was cut, and the second not begun: a front of both was written
pub none_after_cut : (old new : Option (List ℕ)) (a b : List ℕ) (first : Bool) → WritesFront old new a first → first ≡ false
    → WritesFront old new (a ++ b) first
none_after_cut = Fronts.then_cut
