-- Lemmas that the proofs of crates above use.
use Rattle.std.proofs.Common.{Bool, List, None, Option, [], get_or, length, map, take, ℕ, ◌+◌, ◌++◌, ◌<◌, ◌||◌, ◌∷◌, ◌≡◌}
use Rattle.std.specs.Prelude.{Result, OnOk, OnErr, T}
use Rattle.std.specs.Option.{IfSome}
use Rattle.std.specs.FinMap as finite
use Rattle.std.specs.FinMap.{FinMap, find}
use Rattle.std.specs.FinMap.Entries.{is_sorted, below_all}
use Rattle.std.specs.Cmp.{IsTotalOrder}
use Rattle.std.specs.List.{AllByRecursion, filter_map, list_any, sum_by}
use Rattle.std.specs.declared.cmp.Ordering.{Ordering}
use Rattle.std.proofs.lemmas.Map.Lookups.{CmpEqualImpliesEq}
use Rattle.ee_calculator.specs.declared.rows.Row.{Row}
use Rattle.ee_calculator.specs.declared.sheets.Sheet.{Sheet}
use Rattle.ee_desk_model.specs.PlainBooks.{PlainBooks}
use Rattle.ee_desk_model.specs.Acts.{applied}
use Rattle.ee_desk_model.specs.Queries.{sheet_of, shown_in_row, shown_in_sheet}
use Rattle.ee_desk_model.specs.Ranges.{IsInRange}
use Rattle.ee_desk_model.specs.Sound.{IsSound}
use Rattle.ee_desk_model.specs.Views.{picked}
use Rattle.ee_desk_model.specs.declared.changes.Effects.{Effects}
use Rattle.ee_desk_decide.specs.Inner.Applicable.{AreApplicable}
use Rattle.ee_desk_decide.specs.Inner.Noted.{noted, noted_at}
use Rattle.ee_desk_decide.proofs.Deciding
use Rattle.ee_desk_decide.proofs.Entries
use Rattle.ee_desk_decide.proofs.Picked
use Rattle.ee_desk_decide.proofs.SheetRows
pub use Rattle.ee_desk_decide.proofs.Deciding.{AreDecided}

-- ---- effects
-- effects that were decided can be applied to sound books
pub decided_are_applicable : (books : PlainBooks) (effects : Effects) → IsSound books → AllByRecursion IsInRange effects.changes
    → AreDecided books effects → AreApplicable books effects.changes
decided_are_applicable = Deciding.applicable

-- sound books to which they are applied, or which stay as they were, are sound
pub decided_keep_sound : {A E : Type 0} (r : Result A E) (old new : PlainBooks) (effects : Effects) → AllByRecursion IsInRange effects.changes
    → AreDecided old effects → OnOk r (new ≡ applied old effects.changes) → OnErr r (new ≡ old) → IsSound old → IsSound new
decided_keep_sound = Deciding.sound_after

-- ---- sheets
-- a sheet of rows and their sums shows as the sheet of what the rows show
pub sheet_shows_rows : (sheet : Sheet) (rows : List Row) → sheet.rows.items ≡ rows → sheet.price.0 ≡ sum_by (λ row. row.price.0) rows
    → sheet.value.0 ≡ sum_by (λ row. row.value.0) rows → sheet.interest.0 ≡ sum_by (λ row. row.interest.0) rows
    → shown_in_sheet sheet ≡ sheet_of (map shown_in_row rows)
sheet_shows_rows = SheetRows.sheet_is

-- ---- finite maps
-- what each value has that is found, each entry has
pub all_entries : {K V : Type 0} {R : K → K → Ordering} (o : IsTotalOrder R) (exact : CmpEqualImpliesEq R) (P : K → V → Type 0) (m : FinMap R V)
    → ((q : K) → IfSome (finite.get m q) (P q)) → AllByRecursion (λ e. P e.0 e.1) (finite.entries m)
all_entries = Entries.all_entries

-- so it has of sorted entries
pub all_sorted : {K V : Type 0} {R : K → K → Ordering} (o : IsTotalOrder R) (exact : CmpEqualImpliesEq R) (P : K → V → Type 0) (es : List (K × V)) → T (is_sorted R es)
    → ((q : K) → IfSome (find R q es) (P q)) → AllByRecursion (λ e. P e.0 e.1) es
all_sorted = Entries.all_sorted

-- if a key comes before all entries, nothing is found at it
pub none_below : {K V : Type 0} (R : K → K → Ordering) (q : K) (es : List (K × V)) → T (below_all R q es) → find R q es ≡ None
none_below = Entries.none_below

-- what is found for one more key of a list
pub found_for_next : {K V : Type 0} {R : K → K → Ordering} (o : IsTotalOrder R) (exact : CmpEqualImpliesEq R) (look : K → Option V) (ks : List K) (i : ℕ) (d : K)
    → i < length ks → picked {R = R} look (take (i + 1) ks) ≡ noted look (picked look (take i ks)) (get_or ks i d)
found_for_next = Picked.picked_next

-- what is found for the key of one more element
pub found_for_next_key : {K V : Type 0} {R : K → K → Ordering} (o : IsTotalOrder R) (exact : CmpEqualImpliesEq R) (look : K → Option V) {A : Type 0} (key : A → K) (xs : List A)
    (i : ℕ) (d : A) → i < length xs → picked {R = R} look (map key (take (i + 1) xs)) ≡ noted look (picked look (map key (take i xs))) (key (get_or xs i d))
found_for_next_key = Picked.picked_more

-- what is found for the key of one more element, if it has one
pub found_for_next_if : {K V : Type 0} {R : K → K → Ordering} (o : IsTotalOrder R) (exact : CmpEqualImpliesEq R) (look : K → Option V) {A : Type 0} (key : A → Option K) (xs : List A)
    (i : ℕ) (d : A) → i < length xs → picked {R = R} look (filter_map key (take (i + 1) xs)) ≡ noted_at look (picked look (filter_map key (take i xs))) (key (get_or xs i d))
found_for_next_if = Picked.picked_found

-- ---- lists
-- one element more: the test finds it, or another
pub list_any_push : {A : Type 0} (p : A → Bool) (xs : List A) (y : A) → list_any p (xs ++ y ∷ []) ≡ (p y || list_any p xs)
list_any_push = Picked.list_any_push
