-- Lemmas that the proofs of crates above use.
use Rattle.std.proofs.Common.{List, Option, Some, drop, get_or, length, map, take, ℕ, ◌+◌, ◌<◌, ◌∷◌, ◌≡◌, ◌↔◌}
use Rattle.std.specs.BTreeMap.{insert_entry}
use Rattle.std.specs.Cmp.{IsTotalOrder}
use Rattle.std.specs.Prelude.{T}
use Rattle.std.specs.FinMap.{FinMap}
use Rattle.std.specs.FinMap.Entries.{is_sorted}
use Rattle.std.specs.List.{AllByRecursion}
use Rattle.std.specs.Option.{IfSome}
use Rattle.std.specs.declared.cmp.Ordering.{Ordering}
use Rattle.std.specs.declared.cmp.Ordering.TheVariants.{Less}
use Rattle.std.proofs.lemmas.Map.Lookups.{CmpEqualImpliesEq}
use Rattle.ee_desk_soundness.specs.Checks.{HaveRisingMonths, HaveRisingSerials, InOrder, IsBefore, books_of}
use Rattle.ee_desk_soundness.specs.Inner.Checks.{IsAfter}
use Rattle.ee_desk_soundness.specs.Parts.{AreUnsound, Parts, parts_of}
use Rattle.ee_units.specs.Spelling.{SerialNumber}
use Rattle.std.specs.FinMap as finite
use Rattle.ee_desk_soundness.proofs.Entries
use Rattle.ee_desk_soundness.proofs.InOrder
use Rattle.ee_desk_soundness.proofs.Making
use Rattle.ee_desk_soundness.proofs.SortedRows
use Rattle.ee_desk_soundness.proofs.SoundParts
pub use Rattle.ee_desk_soundness.proofs.InOrder.{Follows}

-- ---- books and their parts
-- parts whose keys rise are those of the books that they represent
pub parts_of-books_of : (parts : Parts) → HaveRisingMonths parts.rates → HaveRisingSerials parts.bonds → parts_of (books_of parts) ≡ parts
parts_of-books_of = SoundParts.parts_kept

-- no sound books have parts whose serial numbers don't rise
pub not_rising : (parts : Parts) → (HaveRisingSerials parts.bonds → ⊥) → AreUnsound parts
not_rising parts never = Making.not_register parts (λ register. never register.serials)

-- ---- finite maps
-- what each entry has, each value has that is found
pub get_all : {K V : Type 0} {R : K → K → Ordering} (o : IsTotalOrder R) (exact : CmpEqualImpliesEq R) (P : K → V → Type 0) (es : List (K × V))
    → AllByRecursion (λ e. P e.0 e.1) es → (q : K) → IfSome (finite.get (finite.from_entries {R = R} es) q) (P q)
get_all = SortedRows.get_all

-- the map of a map's entries is the map
pub map_of_entries : {K V : Type 0} (R : K → K → Ordering) → IsTotalOrder R → CmpEqualImpliesEq R → (m : FinMap R V)
    → finite.from_entries (finite.entries m) ≡ m
map_of_entries = SortedRows.map_of_entries

-- the map of entries whose keys rise has these entries
pub entries_of_rising : {K V : Type 0} (R : K → K → Ordering) → IsTotalOrder R → CmpEqualImpliesEq R → (es : List (K × V))
    → InOrder (λ a b. R a b ≡ Less) (map (λ e. e.0) es) → finite.entries (finite.from_entries {R = R} es) ≡ es
entries_of_rising = SortedRows.entries_are

-- the keys of sorted entries rise
pub rising_of_sorted : {K V : Type 0} (R : K → K → Ordering) → (es : List (K × V)) → T (is_sorted R es) → InOrder (λ a b. R a b ≡ Less) (map (λ e. e.0) es)
rising_of_sorted = SortedRows.ordered_is

-- ---- order
-- an order of serial numbers goes on
pub before_on : (a b c : SerialNumber) → IsBefore a b → IsBefore b c → IsBefore a c
before_on = InOrder.before_on

-- one more in order
pub ordered_on : {K : Type 0} (R : K → K → Type 0) → ((a b c : K) → R a b → R b c → R a c)
    → {X : Type 0} (f : X → K) (g : List X → List K) → ((x : X) (xs : List X) → g (x ∷ xs) ≡ f x ∷ g xs)
    → (xs : List X) (i : ℕ) (x : X) (last : Option K) (H : Type 0) → i < length xs → x ≡ get_or xs i x → IsAfter R last (f x)
    → (Follows R last (g (drop i xs)) ↔ H) → (Follows R (Some (f x)) (g (drop (i + 1) xs)) ↔ H)
ordered_on = InOrder.ordered_on

-- a row whose key is above the earlier ones goes to the end
pub entries_more : {X K V : Type 0} (R : K → K → Ordering) (o : IsTotalOrder R) (key : X → K) (value : X → V) (xs : List X) (i : ℕ) (x : X) (es : List (K × V))
    → InOrder (λ a b. R a b ≡ Less) (map key xs) → i < length xs → x ≡ get_or xs i x
    → es ≡ map (λ x. (key x, value x)) (take i xs) → insert_entry R es (key x) (value x) ≡ map (λ x. (key x, value x)) (take (i + 1) xs)
entries_more = Entries.entries_more
