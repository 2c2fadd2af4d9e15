-- Finite maps, and what is picked of them.
use Rattle.std.proofs.Common.{◌≡◌, ◌==◌, ℕ, suc, ◌+◌, ◌<◌, ◌++◌, length, take, drop, get_or, drop-cons, add-one, Bool, true, false, cond, ◌&&◌, ◌||◌, List, [], ◌∷◌, Option, Some, None, map, true≢false, refl, sym, ap, ◌∙◌}
use Rattle.std.specs.Option.{option_map, IfSome}
use Rattle.std.specs.List.{list_any, filter_map, cons_option, AllByRecursion}
use Rattle.std.specs.Map.{lookup}
use Rattle.std.specs.BTreeMap.{is_at}
use Rattle.std.specs.FinMap as finite
use Rattle.std.specs.FinMap.{find, get-from_entries, get-insert, same_map}
use Rattle.std.specs.Ordering.{nat_cmp, eq_by_cmp, is_eq, ordering_then}
use Rattle.std.specs.declared.cmp.Ordering.TheVariants.{Less, Equal, Greater}
use Rattle.std.proofs.Math.Bool.{or-true}
use Rattle.std.proofs.lemmas.Bool.{and_parts, eqb-true}
use Rattle.std.specs.declared.cmp.Ordering.{Ordering}
use Rattle.std.specs.Cmp.{IsTotalOrder, nat_cmp_total, eq_by_cmp_equiv, unsigned_tied}
use Rattle.std.proofs.lemmas.Cmp.{on_total, then_total}
use Rattle.std.proofs.lemmas.Map.Lookups.{CmpEqualImpliesEq, exact_pairs, exact_unsigned}
use Rattle.std.proofs.lemmas.Map.Views.{tells_apart}
use Rattle.ee_units.specs.Spelling.{SerialNumber}
use Rattle.ee_desk_model.specs.Serials.{serial_cmp, same_serial}
use Rattle.std.proofs.lemmas.List.{take_more}
use Rattle.ee_calculator.specs.declared.bonds.Bond.{Bond}
use Rattle.ee_desk_model.specs.declared.refusals.Refusal.TheVariants.{Repeated}
use Rattle.ee_desk_model.specs.Refusals.{repeated_bond}
use Rattle.ee_desk_model.specs.Views.{picked, entry_of}

pub serials_total : IsTotalOrder serial_cmp
serials_total = then_total (on_total (λ s. s.letter) nat_cmp_total) (on_total (λ s. s.number) nat_cmp_total)

-- serials that compare alike are one
pub exact_serials : CmpEqualImpliesEq serial_cmp
exact_serials a b h = ap (λ (p : ℕ × ℕ). record { letter = p.0; number = p.1 }) (exact_pairs nat_cmp nat_cmp exact_unsigned exact_unsigned (a.letter, a.number) (b.letter, b.number) h)

-- two comparisons, the second if the first tells nothing, are equal where both are
pub eq_then : (a b : Ordering) → is_eq (ordering_then a b) ≡ (is_eq a && is_eq b)
eq_then Less b = refl
eq_then Equal b = refl
eq_then Greater b = refl

-- the order ties what is the same
pub serials_tied : (s q : SerialNumber) → is_at (serial_cmp s) q ≡ same_serial s q
serials_tied s q = eq_then (nat_cmp s.letter q.letter) (nat_cmp s.number q.number) ∙ λ i. unsigned_tied s.letter q.letter i && unsigned_tied s.number q.number i

pub serials_swap : (s q : SerialNumber) → same_serial s q ≡ same_serial q s
serials_swap s q = sym (serials_tied s q) ∙ (eq_by_cmp_equiv serials_total).symm s q ∙ serials_tied q s

pub serial_is : (s q : SerialNumber) → same_serial s q ≡ true → s ≡ q
serial_is s q e =
    let p = and_parts (s.letter == q.letter) (s.number == q.number) e in
    λ i. record { letter = eqb-true s.letter q.letter p.0 i; number = eqb-true s.number q.number p.1 i }

module _ {K V : Type 0} {R : K → K → Ordering} (o : IsTotalOrder R) (exact : CmpEqualImpliesEq R) (look : K → Option V) where
  find_step : (q k : K) (rest : List (K × V)) (any b : Bool) (v : Option V) → eq_by_cmp R q k ≡ b → (b ≡ true → look q ≡ v)
      → find R q rest ≡ cond any (look q) None → find R q (cons_option (option_map (λ x. (k, x)) v) rest) ≡ cond (b || any) (look q) None
  find_step q k rest true true None same at is = is
  find_step q k rest false true None same at is = is ∙ sym (at refl)
  find_step q k rest any true (Some x) same at is = ap (λ c. cond c (Some x) (find R q rest)) same ∙ sym (at refl)
  find_step q k rest any false None same at is = is
  find_step q k rest any false (Some x) same at is = ap (λ c. cond c (Some x) (find R q rest)) same ∙ is

  find_picked : (q : K) (ks : List K) → find R q (filter_map (entry_of look) ks) ≡ cond (list_any (eq_by_cmp R q) ks) (look q) None
  find_picked q [] = refl
  find_picked q (k ∷ ks) =
      find_step q k (filter_map (entry_of look) ks) (list_any (eq_by_cmp R q) ks) (eq_by_cmp R q k) (look k) refl (λ same. ap look (tells_apart exact q k same)) (find_picked q ks)

  -- what is picked is found where its key is named
  pub get_picked : (ks : List K) (q : K) → finite.get (picked {R = R} look ks) q ≡ cond (list_any (eq_by_cmp R q) ks) (look q) None
  get_picked ks q = get-from_entries o (filter_map (entry_of look) ks) q ∙ find_picked q ks

  pub get_named : (ks : List K) (q : K) → list_any (eq_by_cmp R q) ks ≡ true → finite.get (picked {R = R} look ks) q ≡ look q
  get_named ks q named = get_picked ks q ∙ ap (λ b. cond b (look q) None) named

pub all_map : {A : Type 0} (P Q : A → Type 0) → ((x : A) → P x → Q x) → (xs : List A) → AllByRecursion P xs → AllByRecursion Q xs
all_map P Q f [] h = tt
all_map P Q f (x ∷ xs) h = (f x h.0, all_map P Q f xs h.1)

pub all_both : {A : Type 0} (P Q : A → Type 0) (xs : List A) → AllByRecursion P xs → AllByRecursion Q xs → AllByRecursion (λ x. P x × Q x) xs
all_both P Q [] h k = tt
all_both P Q (x ∷ xs) h k = ((h.0, k.0), all_both P Q xs h.1 k.1)

or_here : (b c : Bool) → b ≡ true → (b || c) ≡ true
or_here true c e = refl
or_here false c e = absurd (true≢false (sym e))

pub or_there : (b c : Bool) → c ≡ true → (b || c) ≡ true
or_there b true e = or-true b
or_there b false e = absurd (true≢false (sym e))

-- each key is among the keys
pub all_named : {A K : Type 0} {R : K → K → Ordering} (o : IsTotalOrder R) (key : A → K) (xs : List A) → AllByRecursion (λ x. list_any (eq_by_cmp R (key x)) (map key xs) ≡ true) xs
all_named o key [] = tt
all_named {R = R} o key (x ∷ xs) = (
  or_here _ (list_any (eq_by_cmp R (key x)) (map key xs)) ((eq_by_cmp_equiv o).refl (key x)),
  all_map _ _ (λ y h. or_there (eq_by_cmp R (key y) (key x)) _ h) xs (all_named o key xs),
)

or_some : {A : Type 0} (P Q : A → Type 0) → ((x : A) → P x → Q x) → (v : Option A) → IfSome v P → IfSome v Q
or_some P Q f None h = tt
or_some P Q f (Some x) h = f x h

-- each key that is found is among those found
pub all_found : {A K : Type 0} {R : K → K → Ordering} (o : IsTotalOrder R) (key : A → Option K) (xs : List A) → AllByRecursion (λ x. IfSome (key x) (λ k. list_any (eq_by_cmp R k) (filter_map key xs) ≡ true)) xs
all_found o key [] = tt
all_found {K = K} {R = R} o key (x ∷ xs) =
    (here (key x), all_map _ _ (λ y h. or_some _ _ (λ k e. there (key x) k e) (key y) h) xs (all_found o key xs))
  where
    here : (v : Option K) → IfSome v (λ k. list_any (eq_by_cmp R k) (cons_option v (filter_map key xs)) ≡ true)
    here None = tt
    here (Some k) = or_here _ (list_any (eq_by_cmp R k) (filter_map key xs)) ((eq_by_cmp_equiv o).refl k)

    there : (v : Option K) (k : K) → list_any (eq_by_cmp R k) (filter_map key xs) ≡ true → list_any (eq_by_cmp R k) (cons_option v (filter_map key xs)) ≡ true
    there None k e = e
    there (Some j) k e = or_there (eq_by_cmp R k j) _ e

find_lookup : {K X : Type 0} (R : K → K → Ordering) (es : List (K × X)) (q : K) → find R q es ≡ lookup (is_at (R q)) es
find_lookup R [] q = refl
find_lookup R (e ∷ es) q = ap (cond (is_at (R q) e.0) (Some e.1)) (find_lookup R es q)

-- what a map in memory has is what its finite map has
pub get_lookup : {K X : Type 0} {R : K → K → Ordering} (o : IsTotalOrder R) (es : List (K × X)) (q : K) → finite.get (finite.from_entries {R = R} es) q ≡ lookup (is_at (R q)) es
get_lookup {R = R} o es q = get-from_entries o es q ∙ find_lookup R es q

-- entries that differ at one key make maps that differ there
pub one_more : {K X : Type 0} {R : K → K → Ordering} (o : IsTotalOrder R) (exact : CmpEqualImpliesEq R) (es fs : List (K × X)) (k : K) (v : X)
    → ((q : K) → lookup (is_at (R q)) fs ≡ cond (is_at (R k) q) (Some v) (lookup (is_at (R q)) es))
    → finite.from_entries {R = R} fs ≡ finite.insert (finite.from_entries es) k v
one_more {R = R} o exact es fs k v h = same_map o exact _ _ (λ q.
    get_lookup o fs q ∙ h q ∙ ap (λ b. cond b (Some v) (lookup (is_at (R q)) es)) ((eq_by_cmp_equiv o).symm k q)
    ∙ sym (get-insert o (finite.from_entries es) k v q ∙ ap (cond (eq_by_cmp R q k) (Some v)) (get_lookup o es q)))

-- one bond more of a list
pub repeated_bond_more : (xs : List Bond) (i : ℕ) (x : Bond) (b : Bool) → i < length xs → x ≡ get_or xs i x
    → list_any (λ other. same_serial x.serial other.serial) (take i xs) ≡ b
    → repeated_bond (take i xs) (drop i xs) ≡ cond b (Some (Repeated x.serial)) (repeated_bond (take (i + 1) xs) (drop (i + 1) xs))
repeated_bond_more xs i x b h is any =
    ap (repeated_bond (take i xs)) (drop-cons xs i x h ∙ ap (λ y. y ∷ drop (suc i) xs) (sym is))
    ∙ ap (λ t. cond t (Some (Repeated x.serial)) (repeated_bond (take i xs ++ x ∷ []) (drop (suc i) xs))) any
    ∙ ap (λ l. cond b (Some (Repeated x.serial)) (repeated_bond l (drop (suc i) xs))) (ap (λ y. take i xs ++ y ∷ []) is ∙ sym (take_more xs i x h))
    ∙ ap (λ k. cond b (Some (Repeated x.serial)) (repeated_bond (take (i + 1) xs) (drop k xs))) (sym (add-one i))
