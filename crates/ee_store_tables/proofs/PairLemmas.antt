-- Lists of entries, and rows that stand under their rowids.
use Rattle.std.proofs.Common.{◌≡◌, ◌≢◌, inl, inr, ℤ, List, [], ◌∷◌, filter, Bool, true, false, cond, not, None, refl, sym, ap, ap₂, subst, ◌∙◌, arith, Ordering, Less, Equal, Greater, int_cmp}
use Rattle.std.specs.Prelude.{◌||◌, option_map, T, IsPermutation}
use Rattle.std.specs.List.{AllByRecursion, list_any}
use Rattle.std.specs.Option.{option_to_list}
use Rattle.std.proofs.lemmas.Bool.{cases_Bool, or_parts}
use Rattle.std.specs.Ordering.{is_eq, is_lt, match_ordering, int_eq}
use Rattle.std.specs.Cmp.{IsTotalOrder, Equal-is}
use Rattle.std.specs.FinMap.{IsAntisymmetric}
use Rattle.std.specs.FinMap.Entries.{put, find, by_order, below_all, is_sorted}
use Rattle.std.proofs.lemmas.List.Sorted.{IsPermutation-refl, IsPermutation-trans, IsPermutation-cons, IsPermutation-append_left, IsPermutation-append_comm}
use Rattle.std.proofs.lemmas.Int.{ints}
use Rattle.std.proofs.Math.Facts.{and_yes}
use Rattle.sqlite.specs.declared.types.Value.TheVariants.{Int}
use Rattle.sqlite.specs.Order.{Row, value_cmp}
use Rattle.sqlite.specs.Tree.{put_row, rowid, without_rowid}
use Rattle.sqlite_rules.specs.Edit.{is_taken}
use Rattle.sqlite_value.proofs.OrderLemmas.{value_cmp-Int}
use Rattle.sqlite_keyed.specs.Keyed.{insert_by}
use Rattle.ee_store_tables.specs.Keyed.{ReadAlike, AreRows, AreApart}

pub exchanged : {X : Type 0} (x y : X) (zs : List X) → IsPermutation (x ∷ y ∷ zs) (y ∷ x ∷ zs)
exchanged x y zs = IsPermutation-append_left zs (x ∷ y ∷ []) (y ∷ x ∷ []) (IsPermutation-append_comm (x ∷ []) (y ∷ []))

pub is_less : (o : Ordering) → T (is_lt o) → o ≡ Less
is_less Less h = refl
is_less Equal h = absurd h
is_less Greater h = absurd h

-- ---- lists of entries

module _ {K : Type 0} (R : K → K → Ordering) (o : IsTotalOrder R) (k : K) where
  untied_above : (h e : K) → R k h ≡ Equal → R h e ≡ Less → is_eq (R k e) ≡ false
  untied_above h e same less = ap is_eq (o.congr k h e same ∙ less)

  untied_past : (h e : K) → R k h ≡ Less → R h e ≡ Less → is_eq (R k e) ≡ false
  untied_past h e low less = ap is_eq (o.trans k h e low less)

module _ {K X : Type 0} (R : K → K → Ordering) (o : IsTotalOrder R) (k : K) where
  abbrev pub tied : K × X → Bool
  tied e = is_eq (R k e.0)

  keeps_above : (h : K) → R k h ≡ Equal → (es : List (K × X)) → T (below_all R h es) → filter (λ e. not (tied e)) es ≡ es
  keeps_above h same [] b = refl
  keeps_above h same (e ∷ es) b =
      let two = and_yes _ _ b in
      rw (untied_above R o k h e.0 same (is_less (R h e.0) two.0)) (ap (λ xs. e ∷ xs) (keeps_above h same es two.1))

  keeps_past : (h : K) → R k h ≡ Less → (es : List (K × X)) → T (below_all R h es) → filter (λ e. not (tied e)) es ≡ es
  keeps_past h low [] b = refl
  keeps_past h low (e ∷ es) b =
      let two = and_yes _ _ b in
      rw (untied_past R o k h e.0 low (is_less (R h e.0) two.0)) (ap (λ xs. e ∷ xs) (keeps_past h low es two.1))

  -- the map with an entry is that entry, and those of the other keys
  pub put_permutes : IsAntisymmetric R → (x : X) (es : List (K × X)) → T (is_sorted R es) → IsPermutation ((k, x) ∷ filter (λ e. not (tied e)) es) (put R k x es)
  put_permutes same x [] s = IsPermutation-refl _
  put_permutes same x (e ∷ es) s =
      let two = and_yes _ _ s in
      elim (R k e.0) as (λ r. R k e.0 ≡ r → IsPermutation ((k, x) ∷ cond (not (is_eq r)) (e ∷ filter (λ e. not (tied e)) es) (filter (λ e. not (tied e)) es)) (by_order r ((k, x) ∷ e ∷ es) ((e.0, x) ∷ es) (e ∷ put R k x es))) [
        | Less ↦ λ p. rw (keeps_past e.0 p es two.0) (IsPermutation-refl _)
        | Equal ↦ λ p. rw (keeps_above e.0 p es two.0, same k e.0 p) (IsPermutation-refl _)
        | Greater ↦ λ p. IsPermutation-trans _ _ _ (exchanged _ _ _) (IsPermutation-cons e _ _ (put_permutes same x es two.1))
      ] refl

  pub untied_each : (es : List (K × X)) → find R k es ≡ None → filter (λ e. not (tied e)) es ≡ es
  untied_each [] h = refl
  untied_each (e ∷ es) h =
      elim (cases_Bool (is_eq (R k e.0))) [
        | inl is ↦ absurd (let a = rw is at h in cc)
        | inr apart ↦ let rest = rw apart at h in rw apart (ap (λ xs. e ∷ xs) (untied_each es rest))
      ]

  -- the entry of a key, if there is one
  pub tied_entry : IsAntisymmetric R → (es : List (K × X)) → T (is_sorted R es) → filter tied es ≡ option_to_list (option_map (λ x. (k, x)) (find R k es))
  tied_entry same [] s = refl
  tied_entry same (e ∷ es) s =
      let two = and_yes _ _ s in
      elim (cases_Bool (is_eq (R k e.0))) [
        | inl is ↦ let eq = (Equal-is _).0 is in rw (is, none_tied e.0 eq es two.0) (ap (λ q. (q, e.1) ∷ []) (sym (same k e.0 eq)))
        | inr apart ↦ rw apart (tied_entry same es two.1)
      ]
    where
      none_tied : (h : K) → R k h ≡ Equal → (es : List (K × X)) → T (below_all R h es) → filter tied es ≡ []
      none_tied h eq [] b = refl
      none_tied h eq (f ∷ fs) b = let two = and_yes _ _ b in rw (untied_above R o k h f.0 eq (is_less (R h f.0) two.0)) (none_tied h eq fs two.1)

-- ---- rows under their rowids

pub alike_itself : (r : Row) → ReadAlike r r
alike_itself r at = refl

pub any_alike : {A : Type 0} (row : A → Row) (test : Row → Bool) (q : A → Bool) → ((r : Row) (a : A) → ReadAlike r (row a) → test r ≡ q a)
    → (rows : List Row) (xs : List A) → AreRows row rows xs → list_any test rows ≡ list_any q xs
any_alike row test q same [] [] h = refl
any_alike row test q same [] (x ∷ xs) h = absurd h
any_alike row test q same (r ∷ rows) [] h = absurd h
any_alike row test q same (r ∷ rows) (x ∷ xs) h = ap₂ ◌||◌ (same r x h.0) (any_alike row test q same rows xs h.1)

pub number_apart : (i j : ℤ) → i ≢ j → int_eq i j ≡ false
number_apart i j apart = grind (arith, ints)

pub apart_number : (i j : ℤ) → int_eq i j ≡ false → i ≢ j
apart_number i j differ same = absurd (let e : int_eq i j ≡ true = grind (arith, ints) in cc)

abbrev pub Numbered : Type 0 → Type 0
Numbered E = ℤ × E

module _ {E : Type 0} where
  abbrev pub with_number : List (Numbered E) → Numbered E → List (Numbered E)
  with_number = insert_by (λ p. p.0)

  abbrev pub is_new : Numbered E → List (Numbered E) → Type 0
  is_new p ps = list_any (λ q. int_eq q.0 p.0) ps ≡ false

  pub all_with : (P : Numbered E → Type 0) (p : Numbered E) (ps : List (Numbered E)) → P p → AllByRecursion P ps → AllByRecursion P (with_number ps p)
  all_with P p [] h all = (h, tt)
  all_with P p (q ∷ ps) h all =
      elim (int_cmp q.0 p.0) as (λ o. AllByRecursion P (match_ordering o (q ∷ with_number ps p) (p ∷ ps) (p ∷ q ∷ ps))) [
        | Less ↦ (all.0, all_with P p ps h all.1)
        | Equal ↦ (h, all.1)
        | Greater ↦ (h, all)
      ]

  all_apart : (p : Numbered E) (ps : List (Numbered E)) → is_new p ps → AllByRecursion (λ q. p.0 ≢ q.0) ps
  all_apart p [] h = tt
  all_apart p (q ∷ ps) h = let two = or_parts _ _ h in (λ e. apart_number q.0 p.0 two.0 (sym e), all_apart p ps two.1)

  pub apart_with : (p : Numbered E) (ps : List (Numbered E)) → is_new p ps → AreApart ps → AreApart (with_number ps p)
  apart_with p [] h apart = (tt, tt)
  apart_with p (q ∷ ps) h apart =
      let two = or_parts _ _ h in
      elim (int_cmp q.0 p.0) as (λ o. AreApart (match_ordering o (q ∷ with_number ps p) (p ∷ ps) (p ∷ q ∷ ps))) [
        | Less ↦ (all_with (λ s. q.0 ≢ s.0) p ps (apart_number q.0 p.0 two.0) apart.0, apart_with p ps two.1 apart.1)
        | Equal ↦ (all_apart p ps two.1, apart.1)
        | Greater ↦ (all_apart p (q ∷ ps) h, apart)
      ]

  -- a row under a new rowid is one row more
  pub with_is_more : (p : Numbered E) (ps : List (Numbered E)) → is_new p ps → IsPermutation (p ∷ ps) (with_number ps p)
  with_is_more p [] h = IsPermutation-refl _
  with_is_more p (q ∷ ps) h =
      elim (int_cmp q.0 p.0) as (λ o. (is_eq o || list_any (λ q. int_eq q.0 p.0) ps) ≡ false
      → IsPermutation (p ∷ q ∷ ps) (match_ordering o (q ∷ with_number ps p) (p ∷ ps) (p ∷ q ∷ ps))) [
        | Less ↦ λ f. IsPermutation-trans _ _ _ (exchanged p q ps) (IsPermutation-cons q _ _ (with_is_more p ps f))
        | Equal ↦ λ f. absurd cc
        | Greater ↦ λ f. IsPermutation-refl _
      ] h

  module _ (row : Numbered E → Row) (is : (p : Numbered E) → rowid (row p) ≡ Int p.0) where
    same_order : (r s : Row) (p q : Numbered E) → ReadAlike r (row p) → ReadAlike s (row q) → value_cmp (rowid r) (rowid s) ≡ int_cmp p.0 q.0
    same_order r s p q one two = ap₂ value_cmp (one 0 ∙ is p) (two 0 ∙ is q) ∙ value_cmp-Int p.0 q.0

    pub put_numbered : (new : Row) (p : Numbered E) → ReadAlike new (row p) → (rows : List Row) (ps : List (Numbered E)) → AreRows row rows ps → AreRows row (put_row new rows) (with_number ps p)
    put_numbered new p alike [] [] h = (alike, tt)
    put_numbered new p alike [] (q ∷ ps) h = absurd h
    put_numbered new p alike (r ∷ rows) [] h = absurd h
    put_numbered new p alike (r ∷ rows) (q ∷ ps) h =
        subst (λ o. AreRows row (match_ordering o (r ∷ put_row new rows) (new ∷ rows) (new ∷ r ∷ rows)) (match_ordering (int_cmp q.0 p.0) (q ∷ with_number ps p) (p ∷ ps) (p ∷ q ∷ ps)))
        (sym (same_order r new q p h.0 alike))
        (elim (int_cmp q.0 p.0) as (λ o. AreRows row (match_ordering o (r ∷ put_row new rows) (new ∷ rows) (new ∷ r ∷ rows)) (match_ordering o (q ∷ with_number ps p) (p ∷ ps) (p ∷ q ∷ ps))) [
          | Less ↦ (h.0, put_numbered new p alike rows ps h.1)
          | Equal ↦ (alike, h.1)
          | Greater ↦ (alike, h)
        ])

    pub new_number : (new : Row) (p : Numbered E) → ReadAlike new (row p) → (rows : List Row) (ps : List (Numbered E)) → AreRows row rows ps → is_taken rows new ≡ false → is_new p ps
    new_number new p alike rows ps h fresh = sym (any_alike row _ (λ q. int_eq q.0 p.0) (λ r q one. ap is_eq (same_order r new q p one alike)) rows ps h) ∙ fresh

    -- the rows but those of a rowid
    pub without_numbered : (id : ℤ) (rows : List Row) (ps : List (Numbered E)) → AreRows row rows ps → AreRows row (without_rowid id rows) (filter (λ p. not (int_eq p.0 id)) ps)
    without_numbered id [] [] h = tt
    without_numbered id [] (p ∷ ps) h = absurd h
    without_numbered id (r ∷ rows) [] h = absurd h
    without_numbered id (r ∷ rows) (p ∷ ps) h =
        let rest = without_numbered id rows ps h.1 in
        subst (λ o. AreRows row (cond (not (is_eq o)) (r ∷ without_rowid id rows) (without_rowid id rows)) (cond (not (int_eq p.0 id)) (p ∷ filter (λ p. not (int_eq p.0 id)) ps) (filter (λ p. not (int_eq p.0 id)) ps)))
        (sym (ap (λ v. value_cmp v (Int id)) (h.0 0 ∙ is p) ∙ value_cmp-Int p.0 id))
        (elim (int_eq p.0 id) as (λ b. AreRows row (cond (not b) (r ∷ without_rowid id rows) (without_rowid id rows)) (cond (not b) (p ∷ filter (λ p. not (int_eq p.0 id)) ps) (filter (λ p. not (int_eq p.0 id)) ps))) [
          | true ↦ rest
          | false ↦ (h.0, rest)
        ])

  module _ (test : Numbered E → Bool) where
    keeps_others : (id : ℤ) (ps : List (Numbered E)) → AllByRecursion (λ q. id ≢ q.0) ps → filter (λ p. not (int_eq p.0 id)) ps ≡ ps
    keeps_others id [] all = refl
    keeps_others id (p ∷ ps) all = rw (number_apart p.0 id (λ e. all.0 (sym e))) (ap (λ xs. p ∷ xs) (keeps_others id ps all.1))

    keeps_failing : (ps : List (Numbered E)) → filter test ps ≡ [] → filter (λ p. not (test p)) ps ≡ ps
    keeps_failing [] h = refl
    keeps_failing (p ∷ ps) h =
        elim (cases_Bool (test p)) [
          | inl hit ↦ absurd (let a = rw hit at h in cc)
          | inr miss ↦ let rest = rw miss at h in rw miss (ap (λ xs. p ∷ xs) (keeps_failing ps rest))
        ]

    later_one : (id : ℤ) (h : Numbered E) (ps : List (Numbered E)) → AllByRecursion (λ q. id ≢ q.0) ps → filter test ps ≡ h ∷ [] → id ≢ h.0
    later_one id h [] all e = absurd cc
    later_one id h (p ∷ ps) all e =
        elim (cases_Bool (test p)) [
          | inl hit ↦ let two = rw hit at e in let same : p ≡ h = cc in subst (λ (q : Numbered E). id ≢ q.0) same all.0
          | inr miss ↦ let rest = rw miss at e in later_one id h ps all.1 rest
        ]

    -- if one row passes a test, the rows of other rowids are those that fail it
    pub others_fail : (h : Numbered E) (ps : List (Numbered E)) → AreApart ps → filter test ps ≡ h ∷ [] → filter (λ p. not (int_eq p.0 h.0)) ps ≡ filter (λ p. not (test p)) ps
    others_fail h [] up e = absurd cc
    others_fail h (p ∷ ps) up e =
        elim (cases_Bool (test p)) [
          | inl hit ↦
              let two = rw hit at e in
              let same : p ≡ h = cc in
              let none : filter test ps ≡ [] = cc in
              let id : p.0 ≡ h.0 = ap (λ (q : Numbered E). q.0) same in
              let tied : int_eq p.0 h.0 ≡ true = grind (arith, ints) in
              rw (hit, tied) (keeps_others h.0 ps (subst (λ i. AllByRecursion (λ (q : Numbered E). i ≢ q.0) ps) id up.0) ∙ sym (keeps_failing ps none))
          | inr miss ↦
              let rest = rw miss at e in
              rw (miss, number_apart p.0 h.0 (later_one p.0 h ps up.0 rest)) (ap (λ xs. p ∷ xs) (others_fail h ps up.1 rest))
        ]
