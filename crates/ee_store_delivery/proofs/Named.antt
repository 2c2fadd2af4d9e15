-- The periods of the bonds that an act names.
use Rattle.std.proofs.Common.{◌≡◌, ℕ, ◌+◌, ◌<◌, List, [], ◌∷◌, ◌++◌, length, take, get_or, Option, Some, None, map-id, refl, ap, ◌∙◌, subst, true}
use Rattle.std.specs.Option.{option_map}
use Rattle.std.specs.List.{filter_map, cons_option, list_any}
use Rattle.std.specs.Ordering.{eq_by_cmp}
use Rattle.std.specs.FinMap as finite
use Rattle.std.specs.FinMap.{FinMap}
use Rattle.std.proofs.lemmas.List.{take_more}
use Rattle.ee_units.specs.Spelling.{SerialNumber}
use Rattle.ee_desk_model.specs.declared.changes.Held.{Held}
use Rattle.ee_desk_model.specs.Serials.{serial_cmp}
use Rattle.ee_desk_model.specs.PlainBooks.{PlainBooks}
use Rattle.ee_desk_model.specs.Seen.{held_of}
use Rattle.ee_desk_model.specs.Views.{picked, period_of_held}
use Rattle.ee_store_books.proofs.Lemmas.Lookups.{same_found}
use Rattle.ee_desk_model.proofs.Lemmas.Maps.{serials_total, serials_exact, get_named, all_named, all_weaker}

found_push : {A B : Type 0} (f : A → Option B) (xs : List A) (y : A) → filter_map f (xs ++ y ∷ []) ≡ filter_map f xs ++ cons_option (f y) []
found_push f [] y = refl
found_push f (x ∷ xs) y = ap (cons_option (f x)) (found_push f xs y) ∙ front f xs y (f x)
  where
    front : {A B : Type 0} (f : A → Option B) (xs : List A) (y : A) (v : Option B) → cons_option v (filter_map f xs ++ cons_option (f y) []) ≡ cons_option v (filter_map f xs) ++ cons_option (f y) []
    front f xs y None = refl
    front f xs y (Some k) = refl

pub found_next : {A B : Type 0} (f : A → Option B) (xs : List A) (i : ℕ) (d : A) → i < length xs → filter_map f (take (i + 1) xs) ≡ filter_map f (take i xs) ++ cons_option (f (get_or xs i d)) []
found_next f xs i d h = ap (filter_map f) (take_more xs i d h) ∙ found_push f (take i xs) (get_or xs i d)

pub periods_named : (books : PlainBooks) (found : FinMap serial_cmp Held) (ss : List SerialNumber) → found ≡ picked (held_of books) ss
    → filter_map (λ s. option_map period_of_held (finite.get found s)) ss ≡ filter_map (λ s. option_map period_of_held (held_of books s)) ss
periods_named books found ss is = same_found _ _ ss (all_weaker _ _ (λ s named.
    ap (option_map period_of_held) (ap (λ m. finite.get m s) is ∙ get_named serials_total serials_exact (held_of books) ss s (subst (λ l. list_any (eq_by_cmp serial_cmp s) l ≡ true) (map-id ss) named)))
    ss (all_named serials_total (λ s. s) ss))
