-- Orders of serial numbers and of requests' numbers; lists; finite maps.
use Rattle.std.proofs.Common.{Bool, List, None, Option, Some, [], cond, drop, get_or, length, map, take, true, ℕ, ◌*◌, ◌++◌, ◌+◌, ◌<◌, ◌∷◌, ◌≡◌, ◌≤◌}
use Rattle.std.specs.BTreeMap.{is_at}
use Rattle.std.specs.Cmp.{IsTotalOrder}
use Rattle.std.specs.List.{AllByRecursion, filter, list_any, sum_by}
use Rattle.std.specs.Map.{lookup}
use Rattle.std.specs.Ordering.{eq_by_cmp}
use Rattle.std.specs.declared.cmp.Ordering.{Ordering}
use Rattle.std.proofs.lemmas.Map.Lookups.{CmpEqualImpliesEq}
use Rattle.ee_desk_model.specs.Lists.{Rising}
use Rattle.ee_desk_model.specs.Numbers.{RequestKey, number_cmp, same_number}
use Rattle.ee_desk_model.specs.Refusals.{repeated_bond}
use Rattle.ee_desk_model.specs.Serials.{same_serial, serial_cmp}
use Rattle.ee_desk_model.specs.Views.{picked}
use Rattle.ee_desk_model.specs.declared.refusals.Refusal.TheVariants.{Repeated}
use Rattle.ee_calculator.specs.declared.bonds.Bond.{Bond}
use Rattle.ee_units.specs.Spelling.{SerialNumber}
use Rattle.std.specs.FinMap as finite
use Rattle.ee_desk_model.proofs.Bounds
use Rattle.ee_desk_model.proofs.Maps
use Rattle.ee_desk_model.proofs.Orders
use Rattle.ee_desk_model.proofs.RequestNumbers
use Rattle.ee_desk_model.proofs.SameActs

-- ---- serial numbers
-- serial numbers have a total order
pub serials_total : IsTotalOrder serial_cmp
serials_total = Maps.serials_total

-- serial numbers that compare alike are one
pub serials_exact : CmpEqualImpliesEq serial_cmp
serials_exact = Maps.exact_serials

-- they compare as equal only if they are the same
pub serials_tied : (s q : SerialNumber) → is_at (serial_cmp s) q ≡ same_serial s q
serials_tied = Maps.serials_tied

-- which of two is named first makes no difference
pub same_serial-swap : (s q : SerialNumber) → same_serial s q ≡ same_serial q s
same_serial-swap = Maps.serials_swap

-- serial numbers that are the same are equal
pub same_serial-is : (s q : SerialNumber) → same_serial s q ≡ true → s ≡ q
same_serial-is = Maps.serial_is

-- each serial number is the same as itself
pub same_serial-self : (s : SerialNumber) → same_serial s s ≡ true
same_serial-self = SameActs.serial_self

-- ---- numbers of requests
-- the numbers of requests have a total order
pub numbers_total : IsTotalOrder number_cmp
numbers_total = RequestNumbers.numbers_total

-- numbers that compare alike are one
pub numbers_exact : CmpEqualImpliesEq number_cmp
numbers_exact = RequestNumbers.numbers_exact

-- numbers that are the same are equal
pub same_number-is : (m n : RequestKey) → same_number m n ≡ true → m ≡ n
same_number-is = RequestNumbers.number_is

-- each number is the same as itself
pub same_number-self : (n : RequestKey) → same_number n n ≡ true
same_number-self = RequestNumbers.number_self

-- ---- lists
-- what follows from what all elements have, all elements have
pub all_weaker : {A : Type 0} (P Q : A → Type 0) → ((x : A) → P x → Q x) → (xs : List A) → AllByRecursion P xs → AllByRecursion Q xs
all_weaker = Maps.all_map

-- if all elements have one property and another, they have both
pub all_both : {A : Type 0} (P Q : A → Type 0) (xs : List A) → AllByRecursion P xs → AllByRecursion Q xs → AllByRecursion (λ x. P x × Q x) xs
all_both = Maps.all_both

-- what the elements of two lists have, those of the two joined have
pub all_append : {A : Type 0} (P : A → Type 0) (xs ys : List A) → AllByRecursion P xs → AllByRecursion P ys → AllByRecursion P (xs ++ ys)
all_append = Orders.all_append

-- what all elements have, those that pass a test have
pub all_filter : {A : Type 0} (P : A → Type 0) (p : A → Bool) (xs : List A) → AllByRecursion P xs → AllByRecursion P (filter p xs)
all_filter = Orders.all_filter

-- those that pass a test pass it
pub all_passed : {A : Type 0} (p : A → Bool) (xs : List A) → AllByRecursion (λ x. p x ≡ true) (filter p xs)
all_passed = Orders.all_passed

-- what all elements have at a function, the elements of the list's image have
pub all_mapped : {A B : Type 0} (P : B → Type 0) (f : A → B) (xs : List A) → AllByRecursion (λ x. P (f x)) xs → AllByRecursion P (map f xs)
all_mapped = Orders.all_mapped

-- what the elements of a list's image have, all elements have at the function
pub all_unmapped : {A B : Type 0} (P : B → Type 0) (f : A → B) (xs : List A) → AllByRecursion P (map f xs) → AllByRecursion (λ x. P (f x)) xs
all_unmapped = Orders.all_unmapped

-- numbers of at most k each sum to at most k times their count
pub sum_by_le : {A : Type 0} (f : A → ℕ) (k : ℕ) (xs : List A) → AllByRecursion (λ x. f x ≤ k) xs → sum_by f xs ≤ length xs * k
sum_by_le = Bounds.sum_le

-- in a rising list each element is below the last
pub rising_below : (ds : List ℕ) (d : ℕ) → Rising (ds ++ d ∷ []) → AllByRecursion (λ x. x < d) ds
rising_below = Orders.rising_below

-- the first repeated bond of a list, one bond further on
pub repeated_bond_more : (xs : List Bond) (i : ℕ) (x : Bond) (b : Bool) → i < length xs → x ≡ get_or xs i x
    → list_any (λ other. same_serial x.serial other.serial) (take i xs) ≡ b
    → repeated_bond (take i xs) (drop i xs) ≡ cond b (Some (Repeated x.serial)) (repeated_bond (take (i + 1) xs) (drop (i + 1) xs))
repeated_bond_more = Maps.repeated_bond_more

-- ---- finite maps
-- what a map has is what is looked up among its entries
pub get_lookup : {K X : Type 0} {R : K → K → Ordering} (o : IsTotalOrder R) (es : List (K × X)) (q : K)
    → finite.get (finite.from_entries {R = R} es) q ≡ lookup (is_at (R q)) es
get_lookup = Maps.get_lookup

-- entries that differ at one key, which is put in, make maps that differ there
pub map_with_one_more : {K X : Type 0} {R : K → K → Ordering} (o : IsTotalOrder R) (exact : CmpEqualImpliesEq R) (es fs : List (K × X)) (k : K)
    (v : X)
    → ((q : K) → lookup (is_at (R q)) fs ≡ cond (is_at (R k) q) (Some v) (lookup (is_at (R q)) es))
    → finite.from_entries {R = R} fs ≡ finite.insert (finite.from_entries es) k v
map_with_one_more = Maps.one_more

-- what is picked of a function is found where its key is named
pub get_picked : {K V : Type 0} {R : K → K → Ordering} (o : IsTotalOrder R) (exact : CmpEqualImpliesEq R) (look : K → Option V) (ks : List K) (q : K)
    → finite.get (picked {R = R} look ks) q ≡ cond (list_any (eq_by_cmp R q) ks) (look q) None
get_picked = Maps.get_picked

-- at a key that is named, what was picked is what the function gives
pub get_named : {K V : Type 0} {R : K → K → Ordering} (o : IsTotalOrder R) (exact : CmpEqualImpliesEq R) (look : K → Option V) (ks : List K) (q : K)
    → list_any (eq_by_cmp R q) ks ≡ true → finite.get (picked {R = R} look ks) q ≡ look q
get_named = Maps.get_named

-- each element's key is among the keys of the elements
pub all_named : {A K : Type 0} {R : K → K → Ordering} (o : IsTotalOrder R) (key : A → K) (xs : List A)
    → AllByRecursion (λ x. list_any (eq_by_cmp R (key x)) (map key xs) ≡ true) xs
all_named = Maps.all_named
