-- One more key of what is picked.
use Rattle.std.proofs.Common.{◌≡◌, ℕ, ◌+◌, ◌<◌, Bool, true, false, cond, ◌||◌, List, [], ◌∷◌, ◌++◌, map, append-nil, length, take, get_or, Option, Some, None, refl, sym, ap, ◌∙◌}
use Rattle.std.specs.Option.{option_map_or}
use Rattle.std.specs.List.{list_any, filter_map, cons_option}
use Rattle.std.specs.FinMap as finite
use Rattle.std.specs.FinMap.{get-insert, same_map}
use Rattle.std.specs.Ordering.{eq_by_cmp}
use Rattle.std.specs.declared.cmp.Ordering.{Ordering}
use Rattle.std.specs.Cmp.{IsTotalOrder}
use Rattle.std.proofs.lemmas.Map.Lookups.{CmpEqualImpliesEq}
use Rattle.std.proofs.lemmas.List.{take_more, map-append}
use Rattle.ee_desk_model.specs.Views.{picked}
use Rattle.ee_desk_model.proofs.Lemmas.Maps.{get_picked}
use Rattle.std.proofs.lemmas.Map.Views.{tells_apart}
use Rattle.ee_desk_decide.specs.Inner.Noted.{noted, noted_at}

-- one element more: the test finds it, or another
pub list_any_push : {A : Type 0} (p : A → Bool) (xs : List A) (y : A) → list_any p (xs ++ y ∷ []) ≡ (p y || list_any p xs)
list_any_push p [] y = refl
list_any_push p (x ∷ xs) y = ap (λ b. p x || b) (list_any_push p xs y) ∙ swap (p x) (p y) (list_any p xs)
  where
    swap : (a b c : Bool) → (a || (b || c)) ≡ (b || (a || c))
    swap true true c = refl
    swap true false c = refl
    swap false b c = refl

module _ {K V : Type 0} {R : K → K → Ordering} (o : IsTotalOrder R) (exact : CmpEqualImpliesEq R) (look : K → Option V) where
  push_at : (ks : List K) (k : K) (v : Option V) → look k ≡ v → (q : K) (b : Bool) → eq_by_cmp R q k ≡ b
      → cond (b || list_any (eq_by_cmp R q) ks) (look q) None ≡ finite.get (option_map_or (λ x. finite.insert (picked {R = R} look ks) k x) v (picked look ks)) q
  push_at ks k None is q true same = let none : look q ≡ None = ap look (tells_apart exact q k same) ∙ is in none ∙ sym (get_picked o exact look ks q ∙ ap (λ x. cond (list_any (eq_by_cmp R q) ks) x None) none ∙ both (list_any (eq_by_cmp R q) ks))
    where
      both : (b : Bool) → ◌≡◌ {A = Option V} (cond {A = Option V} b None None) None
      both true = refl
      both false = refl
  push_at ks k None is q false same = sym (get_picked o exact look ks q)
  push_at ks k (Some x) is q true same = ap look (tells_apart exact q k same) ∙ is ∙ sym (get-insert o (picked {R = R} look ks) k x q ∙ ap (λ b. cond b (Some x) (finite.get (picked {R = R} look ks) q)) same)
  push_at ks k (Some x) is q false same = sym (get-insert o (picked {R = R} look ks) k x q ∙ ap (λ b. cond b (Some x) (finite.get (picked {R = R} look ks) q)) same ∙ get_picked o exact look ks q)

  pub picked_push : (ks : List K) (k : K) → picked {R = R} look (ks ++ k ∷ []) ≡ noted look (picked look ks) k
  picked_push ks k = same_map o exact _ _ (λ q.
      get_picked o exact look (ks ++ k ∷ []) q ∙ ap (λ b. cond b (look q) None) (list_any_push (eq_by_cmp R q) ks k) ∙ push_at ks k (look k) refl q (eq_by_cmp R q k) refl)

  pub picked_more : {A : Type 0} (key : A → K) (xs : List A) (i : ℕ) (d : A) → i < length xs
      → picked {R = R} look (map key (take (i + 1) xs)) ≡ noted look (picked look (map key (take i xs))) (key (get_or xs i d))
  picked_more key xs i d h =
      ap (λ ys. picked look (map key ys)) (take_more xs i d h) ∙ ap (picked look) (map-append key (take i xs) (get_or xs i d ∷ [])) ∙ picked_push (map key (take i xs)) (key (get_or xs i d))

  pub picked_next : (ks : List K) (i : ℕ) (d : K) → i < length ks
      → picked {R = R} look (take (i + 1) ks) ≡ noted look (picked look (take i ks)) (get_or ks i d)
  picked_next ks i d h = ap (picked look) (take_more ks i d h) ∙ picked_push (take i ks) (get_or ks i d)

  found_push : {A : Type 0} (key : A → Option K) (xs : List A) (y : A) → filter_map key (xs ++ y ∷ []) ≡ filter_map key xs ++ cons_option (key y) []
  found_push key [] y = refl
  found_push key (x ∷ xs) y = ap (cons_option (key x)) (found_push key xs y) ∙ front (key x)
    where
      front : (v : Option K) → cons_option v (filter_map key xs ++ cons_option (key y) []) ≡ cons_option v (filter_map key xs) ++ cons_option (key y) []
      front None = refl
      front (Some k) = refl

  picked_option : (ks : List K) (k : Option K) → picked {R = R} look (ks ++ cons_option k []) ≡ noted_at look (picked look ks) k
  picked_option ks None = ap (picked look) (append-nil ks)
  picked_option ks (Some k) = picked_push ks k

  pub picked_found : {A : Type 0} (key : A → Option K) (xs : List A) (i : ℕ) (d : A) → i < length xs
      → picked {R = R} look (filter_map key (take (i + 1) xs)) ≡ noted_at look (picked look (filter_map key (take i xs))) (key (get_or xs i d))
  picked_found key xs i d h =
      ap (λ ys. picked look (filter_map key ys)) (take_more xs i d h) ∙ ap (picked look) (found_push key (take i xs) (get_or xs i d)) ∙ picked_option (filter_map key (take i xs)) (key (get_or xs i d))
