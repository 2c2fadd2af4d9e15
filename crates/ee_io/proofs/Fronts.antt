-- Texts written one after another: what stands of them, whole or cut.
use Rattle.std.proofs.Common.{◌≡◌, ◌≢◌, ◌∙◌, ℕ, suc, ◌+◌, ◌-◌, ◌<◌, ◌≤◌, List, [], ◌∷◌, ◌++◌, Option, Some, None, Bool, true, false, length, get_or, take, drop, refl, sym, ap, append_assoc, length-drop, drop-cons, subst, true≢false, arith}
use Rattle.std.proofs.lemmas.List.{append-nil, take-append-drop, take_more, take_all}
use Rattle.std.proofs.Math.Seq.{take-length}
use Rattle.std.specs.List.{flat_map}
use Rattle.std.proofs.lemmas.Grind.{flat_map-append}
use Rattle.std.specs.Io.KnownBytes.{Appends}
use Rattle.ee_io.specs.Written.{WritesFront}

appends_both : (a b c : Option (List ℕ)) (xs ys : List ℕ) → Appends a b xs → Appends b c ys → Appends a c (xs ++ ys)
appends_both None b c xs ys h k = tt
appends_both (Some s) None c xs ys h k = absurd h
appends_both (Some s) (Some t) None xs ys h k = absurd k
appends_both (Some s) (Some t) (Some u) xs ys h k = k ∙ ap (λ z. z ++ ys) h ∙ append_assoc s xs ys

-- one more write of a text's rest
pub more_written : (old mid new : Option (List ℕ)) (text front rest : List ℕ) (n : ℕ) → text ≡ front ++ rest → Appends old mid front → Appends mid new (take n rest)
    → (f : List ℕ) × (text ≡ f ++ take (length rest - n) (drop n rest)) × Appends old new f
more_written old mid new text front rest n parts before after =
    let all : take (length rest - n) (drop n rest) ≡ drop n rest = rw (← length-drop n rest) (take-length (drop n rest)) in (
      front ++ take n rest,
      parts ∙ ap (λ z. front ++ z) (sym (take-append-drop n rest)) ∙ sym (append_assoc front (take n rest) (drop n rest)) ∙ ap (λ z. (front ++ take n rest) ++ z) (sym all),
      appends_both old mid new front (take n rest) before after,
    )

-- one more write that didn't take the whole rest
pub front_written : (old mid new : Option (List ℕ)) (text front rest : List ℕ) (n : ℕ) → text ≡ front ++ rest → Appends old mid front → Appends mid new (take n rest)
    → n < length rest → WritesFront old new text false
front_written old mid new text front rest n parts before after few = record {
  front = front ++ take n rest;
  rest = drop n rest;
  parts = parts ∙ ap (λ z. front ++ z) (sym (take-append-drop n rest)) ∙ sym (append_assoc front (take n rest) (drop n rest));
  written = appends_both old mid new front (take n rest) before after;
  whole = λ e. absurd (true≢false (sym e));
  cut = λ _ none. omega (arith, few, ap length none, length-drop n rest);
}

-- a text that is not empty, with another after it
not_empty : (xs ys : List ℕ) → xs ≢ [] → xs ++ ys ≢ []
not_empty [] ys some e = some refl
not_empty (x ∷ xs) ys some e = omega (arith, ap length e)

-- a text after what was written before; if it was done, it was the last
continued : (old mid new : Option (List ℕ)) (before t after whole : List ℕ) (done : Bool) → Appends old mid before → WritesFront mid new t done → whole ≡ before ++ (t ++ after) → (done ≡ true → after ≡ []) → WritesFront old new whole done
continued old mid new before t after whole done h w parts last = record {
  front = before ++ w.front;
  rest = w.rest ++ after;
  parts = parts ∙ ap (λ z. before ++ (z ++ after)) w.parts ∙ ap (λ z. before ++ z) (append_assoc w.front w.rest after) ∙ sym (append_assoc before w.front (w.rest ++ after));
  written = appends_both old mid new before w.front h w.written;
  whole = λ yes_done. ap (λ z. before ++ z) (w.whole yes_done) ∙ ap (λ z. before ++ z) (sym (append-nil t)) ∙ ap (λ z. before ++ (t ++ z)) (sym (last yes_done)) ∙ sym parts;
  cut = λ not_done. not_empty w.rest after (w.cut not_done);
}

-- a text that was written whole
written_more : (old mid new : Option (List ℕ)) (before t : List ℕ) (done : Bool) → Appends old mid before → WritesFront mid new t done → done ≡ true → Appends old new (before ++ t)
written_more old mid new before t done h w is = rw (← w.whole is) (appends_both old mid new before w.front h w.written)

-- the part of one element
flat_map_at : {X : Type 0} (f : X → List ℕ) (xs : List X) (i : ℕ) (d : X) → i < length xs → flat_map f xs ≡ flat_map f (take i xs) ++ (f (get_or xs i d) ++ flat_map f (drop (suc i) xs))
flat_map_at f xs i d below =
    ap (flat_map f) (sym (take-append-drop i xs)) ∙ flat_map-append f (take i xs) (drop i xs) ∙ ap (λ z. flat_map f (take i xs) ++ flat_map f z) (drop-cons xs i d below)

-- the texts of one element more
pub flat_map_more : {X : Type 0} (f : X → List ℕ) (xs : List X) (i : ℕ) (d : X) → i < length xs → flat_map f (take (i + 1) xs) ≡ flat_map f (take i xs) ++ f (get_or xs i d)
flat_map_more f xs i d below =
    ap (flat_map f) (take_more xs i d below) ∙ flat_map-append f (take i xs) (get_or xs i d ∷ []) ∙ ap (λ z. flat_map f (take i xs) ++ z) (append-nil (f (get_or xs i d)))

-- a loop that writes the text of each element: one more
pub piece_done : {X : Type 0} (old mid new : Option (List ℕ)) (f : X → List ℕ) (xs : List X) (i : ℕ) (d x : X) (done : Bool) → i < length xs → x ≡ get_or xs i d → Appends old mid (flat_map f (take i xs)) → WritesFront mid new (f x) done → done ≡ true → Appends old new (flat_map f (take (i + 1) xs))
piece_done old mid new f xs i d x done below is h w all =
    rw (flat_map_more f xs i d below, ← is) (written_more old mid new (flat_map f (take i xs)) (f x) done h w all)

-- and one that was cut
pub piece_cut : {X : Type 0} (old mid new : Option (List ℕ)) (f : X → List ℕ) (xs : List X) (i : ℕ) (d x : X) (done : Bool) → i < length xs → x ≡ get_or xs i d → Appends old mid (flat_map f (take i xs)) → WritesFront mid new (f x) done → done ≡ false → WritesFront old new (flat_map f xs) false
piece_cut old mid new f xs i d x done below is h w cut =
    subst (WritesFront old new (flat_map f xs)) cut (continued old mid new (flat_map f (take i xs)) (f x) (flat_map f (drop (suc i) xs)) (flat_map f xs) done h w
    (flat_map_at f xs i d below ∙ ap (λ y. flat_map f (take i xs) ++ (f y ++ flat_map f (drop (suc i) xs))) (sym is))
    (λ all. absurd (true≢false (sym all ∙ cut))))

-- all were written
pub all_done : {X : Type 0} (old new : Option (List ℕ)) (f : X → List ℕ) (xs : List X) (i : ℕ) → length xs ≤ i → Appends old new (flat_map f (take i xs)) → WritesFront old new (flat_map f xs) true
all_done old new f xs i all h = record { front = flat_map f xs; rest = []; parts = sym (append-nil (flat_map f xs)); written = rw (← take_all i xs all) h; whole = λ _. refl; cut = λ e. absurd (true≢false e) }

-- two texts, the second if the first was done
written_then : (old mid new : Option (List ℕ)) (a b : List ℕ) (done : Bool) → WritesFront old mid a true → WritesFront mid new b done → WritesFront old new (a ++ b) done
written_then old mid new a b done v w = continued old mid new a b [] (a ++ b) done (subst (Appends old mid) (v.whole refl) v.written) w (ap (λ z. a ++ z) (sym (append-nil b))) (λ _. refl)

-- a text that was cut, before another
cut_before : (old new : Option (List ℕ)) (a b : List ℕ) → WritesFront old new a false → WritesFront old new (a ++ b) false
cut_before old new a b w = record { front = w.front; rest = w.rest ++ b; parts = ap (λ z. z ++ b) w.parts ∙ append_assoc w.front w.rest b; written = w.written; whole = λ e. absurd (true≢false (sym e)); cut = λ e. not_empty w.rest b (w.cut e) }

-- two texts, the second written if the first was done
pub then_all : (old mid new : Option (List ℕ)) (a b : List ℕ) (first done : Bool) → WritesFront old mid a first → first ≡ true → WritesFront mid new b done → WritesFront old new (a ++ b) done
then_all old mid new a b first done v is w = written_then old mid new a b done (subst (WritesFront old mid a) is v) w

-- the first was cut, so that the second was not begun
pub then_cut : (old new : Option (List ℕ)) (a b : List ℕ) (first : Bool) → WritesFront old new a first → first ≡ false → WritesFront old new (a ++ b) first
then_cut old new a b first v is = subst (WritesFront old new (a ++ b)) (sym is) (cut_before old new a b (subst (WritesFront old new a) is v))
