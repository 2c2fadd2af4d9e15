-- Five tests of the five elements of a list.
use Rattle.std.proofs.Common.{◌≡◌, ℕ, ◌<◌, ◌≤◌, suc, List, [], ◌∷◌, ◌&&◌, Bool, length, get_or, drop, sym, ap, arith, ◌∙◌}
use Rattle.std.specs.Bool.{Decides}
use Rattle.std.proofs.Math.Seq.{drop-cons}
use Rattle.std.proofs.lemmas.List.{drop_all}
use Rattle.std.proofs.lemmas.Bool.Decides.{Decides-and}

module _ {X : Type 0} (xs : List X) where
  next : (n : ℕ) (x : X) → n < length xs → x ≡ get_or xs n x → drop n xs ≡ x ∷ drop (suc n) xs
  next n x short is = drop-cons xs n x short ∙ ap (λ y. y ∷ drop (suc n) xs) (sym is)

  module _ (a b c d e : X) (long : 5 ≤ length xs) (short : length xs < 6)
      (is_0 : a ≡ get_or xs 0 a) (is_1 : b ≡ get_or xs 1 b) (is_2 : c ≡ get_or xs 2 c) (is_3 : d ≡ get_or xs 3 d) (is_4 : e ≡ get_or xs 4 e) where
    are : xs ≡ a ∷ b ∷ c ∷ d ∷ e ∷ []
    are =
        let at_0 : xs ≡ a ∷ drop 1 xs = next 0 a (omega arith) is_0 in
        let at_1 = next 1 b (omega arith) is_1 in
        let at_2 = next 2 c (omega arith) is_2 in
        let at_3 = next 3 d (omega arith) is_3 in
        let at_4 = next 4 e (omega arith) is_4 in
        let end = drop_all 5 xs (omega arith) in
        cc

    -- the list is another if each element is the other's
    pub five_decided : (v w x y z : X) (p q r s t : Bool) → Decides p (a ≡ v) → Decides q (b ≡ w) → Decides r (c ≡ x) → Decides s (d ≡ y) → Decides t (e ≡ z)
        → Decides ((((p && q) && r) && s) && t) (xs ≡ v ∷ w ∷ x ∷ y ∷ z ∷ [])
    five_decided v w x y z p q r s t for_p for_q for_r for_s for_t =
        let whole = are in
        let all = Decides-and _ _ (Decides-and _ _ (Decides-and _ _ (Decides-and p q for_p for_q) for_r) for_s) for_t in (
          λ h. let each = all.0 h in cc,
          λ same. all.1 ((((cc, cc), cc), cc), cc),
        )
