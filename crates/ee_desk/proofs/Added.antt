-- Rows that are added and taken out again.
use Rattle.std.proofs.Common.{◌≡◌, ℕ, suc, ◌+◌, ◌<◌, zero, Bool, true, false, cond, ◌||◌, List, [], ◌∷◌, ◌++◌, length, take, drop, get_or, Option, Some, None, true≢false, refl, sym, ap, ◌∙◌}
use Rattle.std.specs.Option.{IfSome}
use Rattle.std.specs.Map.{lookup}
use Rattle.std.specs.BTreeMap.{is_at}
use Rattle.std.specs.FinMap as finite
use Rattle.std.specs.FinMap.{FinMap, get-insert, get-remove, same_map}
use Rattle.std.specs.Ordering.{eq_by_cmp}
use Rattle.std.specs.declared.cmp.Ordering.{Ordering}
use Rattle.std.specs.Cmp.{IsTotalOrder, eq_by_cmp_equiv}
use Rattle.std.proofs.lemmas.Bool.{or_parts}
use Rattle.std.proofs.lemmas.List.{take_more}
use Rattle.std.proofs.lemmas.Map.Lookups.{CmpEqualImpliesEq}
use Rattle.ee_desk_model.specs.declared.changes.Change.{Change}
use Rattle.ee_desk_model.proofs.Lemmas.Maps.{get_lookup}
use Rattle.std.proofs.lemmas.Map.Views.{tells_apart}
use Rattle.ee_desk_decide.specs.Inner.NewRows.{with_row, AreNew}
use Rattle.ee_desk.specs.Inner.Added.{without_row, with_changes, without_changes, every_second, is_row, adds_at, AgreeBeside}

pub taken_out : {K V : Type 0} {R : K → K → Ordering} (o : IsTotalOrder R) (exact : CmpEqualImpliesEq R) (es fs : List (K × V)) (k : K)
    → ((q : K) → lookup (is_at (R q)) fs ≡ cond (is_at (R k) q) None (lookup (is_at (R q)) es)) → finite.from_entries {R = R} fs ≡ finite.remove (finite.from_entries es) k
taken_out {R = R} o exact es fs k h = same_map o exact _ _ (λ q.
    get_lookup o fs q ∙ h q ∙ ap (λ b. cond b None (lookup (is_at (R q)) es)) ((eq_by_cmp_equiv o).symm k q)
    ∙ sym (get-remove o (finite.from_entries es) k q ∙ ap (cond (eq_by_cmp R q k) None) (get_lookup o es q)))

module _ {K V : Type 0} {R : K → K → Ordering} (o : IsTotalOrder R) (exact : CmpEqualImpliesEq R) (row : Change → Option (K × V)) where
  none_if : (a b : Bool) (v : Option V) → cond b None (cond a None v) ≡ cond (a || b) None v
  none_if true true v = refl
  none_if true false v = refl
  none_if false b v = refl

  out_of : (m : FinMap R V) (added : Option (K × V)) (q : K) → finite.get (without_row m added) q ≡ cond (is_row R q added) None (finite.get m q)
  out_of m None q = refl
  out_of m (Some r) q = get-remove o m r.0 q

  get_without : (m : FinMap R V) (cs : List Change) (q : K) → finite.get (without_changes row m cs) q ≡ cond (adds_at R row q cs) None (finite.get m q)
  get_without m [] q = refl
  get_without m (c ∷ cs) q =
      get_without (without_row m (row c)) cs q ∙ ap (cond (adds_at R row q cs) None) (out_of m (row c) q) ∙ none_if (is_row R q (row c)) (adds_at R row q cs) (finite.get m q)

  pub get_beside : (m : FinMap R V) (added : Option (K × V)) (q : K) → is_row R q added ≡ false → finite.get (with_row m added) q ≡ finite.get m q
  get_beside m None q e = refl
  get_beside m (Some r) q e = get-insert o m r.0 r.1 q ∙ ap (λ b. cond b (Some r.1) (finite.get m q)) e

  get_with : (m : FinMap R V) (cs : List Change) (q : K) → adds_at R row q cs ≡ false → finite.get (with_changes row m cs) q ≡ finite.get m q
  get_with m [] q e = refl
  get_with m (c ∷ cs) q e =
      let p = or_parts (is_row R q (row c)) (adds_at R row q cs) e in
      get_with (with_row m (row c)) cs q p.1 ∙ get_beside m (row c) q p.0

  before_none : (m : FinMap R V) (added : Option (K × V)) (q : K) → IfSome added (λ r. finite.get m r.0 ≡ None) → finite.get (with_row m added) q ≡ None → finite.get m q ≡ None
  before_none m None q new e = e
  before_none m (Some r) q new e = by_case (eq_by_cmp R q r.0) refl
    where
      by_case : (b : Bool) → eq_by_cmp R q r.0 ≡ b → finite.get m q ≡ None
      by_case true same = ap (finite.get m) (tells_apart exact q r.0 same) ∙ new
      by_case false apart = sym (get-insert o m r.0 r.1 q ∙ ap (λ b. cond b (Some r.1) (finite.get m q)) apart) ∙ e

  new_none : (m : FinMap R V) (cs : List Change) (q : K) → AreNew row m cs → adds_at R row q cs ≡ true → finite.get m q ≡ None
  new_none m [] q new e = absurd (true≢false (sym e))
  new_none m (c ∷ cs) q new e =
      by_case (row c) new.0 e (λ later. before_none m (row c) q new.0 (new_none (with_row m (row c)) cs q new.1 later))
    where
      here : (k : K) (b : Bool) → eq_by_cmp R q k ≡ b → finite.get m k ≡ None → (b || adds_at R row q cs) ≡ true → (adds_at R row q cs ≡ true → finite.get m q ≡ None) → finite.get m q ≡ None
      here k true same none any rest = ap (finite.get m) (tells_apart exact q k same) ∙ none
      here k false apart none any rest = rest any

      by_case : (added : Option (K × V)) → IfSome added (λ r. finite.get m r.0 ≡ None) → (is_row R q added || adds_at R row q cs) ≡ true → (adds_at R row q cs ≡ true → finite.get m q ≡ None) → finite.get m q ≡ None
      by_case None none any rest = rest any
      by_case (Some r) none any rest = here r.0 (eq_by_cmp R q r.0) refl none any rest

  undone_at : (m : FinMap R V) (cs : List Change) (q : K) (b : Bool) → adds_at R row q cs ≡ b → AreNew row m cs → cond b None (finite.get (with_changes row m cs) q) ≡ finite.get m q
  undone_at m cs q true e new = sym (new_none m cs q new e)
  undone_at m cs q false e new = get_with m cs q e

  -- ---- all that some changes may have added is taken out

  back_at : (m n : FinMap R V) (cs : List Change) (q : K) (b : Bool) → adds_at R row q cs ≡ b → AreNew row m cs → AgreeBeside row cs n m → cond b None (finite.get n q) ≡ finite.get m q
  back_at m n cs q true e new agree = sym (new_none m cs q new e)
  back_at m n cs q false e new agree = agree q e

  pub taken_back : (m n : FinMap R V) (cs : List Change) → AreNew row m cs → AgreeBeside row cs n m → without_changes row n cs ≡ m
  taken_back m n cs new agree = same_map o exact _ _ (λ q. get_without n cs q ∙ back_at m n cs q (adds_at R row q cs) refl new agree)

  pub fewer_beside : (cs : List Change) (q : K) → adds_at R row q cs ≡ false → adds_at R row q (drop 1 cs) ≡ false
  fewer_beside [] q e = e
  fewer_beside (c ∷ cs) q e = (or_parts (is_row R q (row c)) (adds_at R row q cs) e).1

  -- ---- every second change, and then the others

  swapped_at : (a b : Bool) (v w : Option V) (u : Option V) → (a ≡ true → b ≡ true → ⊥) → cond b w (cond a v u) ≡ cond a v (cond b w u)
  swapped_at true true v w u apart = absurd (apart refl refl)
  swapped_at true false v w u apart = refl
  swapped_at false true v w u apart = refl
  swapped_at false false v w u apart = refl

  abbrev Apart : Option (K × V) → Option (K × V) → Type 0
  Apart None b = Unit {0}
  Apart (Some a) None = Unit {0}
  Apart (Some a) (Some b) = eq_by_cmp R b.0 a.0 ≡ false

  swapped : (m : FinMap R V) (a b : Option (K × V)) → Apart a b → with_row (with_row m a) b ≡ with_row (with_row m b) a
  swapped m None b apart = refl
  swapped m (Some a) None apart = refl
  swapped m (Some a) (Some b) apart = same_map o exact _ _ (λ q.
      get-insert o (finite.insert m a.0 a.1) b.0 b.1 q ∙ ap (cond (eq_by_cmp R q b.0) (Some b.1)) (get-insert o m a.0 a.1 q)
      ∙ swapped_at (eq_by_cmp R q a.0) (eq_by_cmp R q b.0) (Some a.1) (Some b.1) (finite.get m q) (λ one two. true≢false (sym (ap (λ k. eq_by_cmp R k a.0) (sym (tells_apart exact q b.0 two)) ∙ one) ∙ apart))
      ∙ sym (get-insert o (finite.insert m b.0 b.1) a.0 a.1 q ∙ ap (cond (eq_by_cmp R q a.0) (Some a.1)) (get-insert o m b.0 b.1 q)))

  abbrev AllApart : Option (K × V) → List Change → Type 0
  AllApart b [] = Unit {0}
  AllApart b (c ∷ cs) = Apart (row c) b × AllApart b cs

  -- a row may be added before others
  moved : (m : FinMap R V) (xs : List Change) (b : Option (K × V)) → AllApart b xs → with_row (with_changes row m xs) b ≡ with_changes row (with_row m b) xs
  moved m [] b apart = refl
  moved m (x ∷ xs) b apart = moved (with_row m (row x)) xs b apart.1 ∙ ap (λ n. with_changes row n xs) (swapped m (row x) b apart.0)

  some_of : (m : FinMap R V) (a : Option (K × V)) (k : K) (v : V) → IfSome a (λ r. finite.get m r.0 ≡ None) → finite.get m k ≡ Some v → finite.get (with_row m a) k ≡ Some v
  some_of m None k v new there = there
  some_of m (Some r) k v new there = get-insert o m r.0 r.1 k ∙ by_case (eq_by_cmp R k r.0) refl
    where
      by_case : (b : Bool) → eq_by_cmp R k r.0 ≡ b → cond b (Some r.1) (finite.get m k) ≡ Some v
      by_case true same = absurd (let e = sym there ∙ ap (finite.get m) (tells_apart exact k r.0 same) ∙ new in cc)
      by_case false apart = there

  new_apart : (m : FinMap R V) (a : Option (K × V)) (b : K × V) (v : V) → IfSome a (λ r. finite.get m r.0 ≡ None) → finite.get m b.0 ≡ Some v → Apart a (Some b)
  new_apart m None b v new there = tt
  new_apart m (Some r) b v new there = by_case (eq_by_cmp R b.0 r.0) refl
    where
      by_case : (t : Bool) → eq_by_cmp R b.0 r.0 ≡ t → eq_by_cmp R b.0 r.0 ≡ false
      by_case true same = absurd (let e = sym there ∙ ap (finite.get m) (tells_apart exact b.0 r.0 same) ∙ new in cc)
      by_case false apart = apart

  later_apart : (m : FinMap R V) (cs : List Change) (b : K × V) (v : V) → AreNew row m cs → finite.get m b.0 ≡ Some v → AllApart (Some b) (every_second cs)
  later_apart m [] b v new there = tt
  later_apart m (c ∷ []) b v new there = (new_apart m (row c) b v new.0 there, tt)
  later_apart m (c ∷ d ∷ cs) b v new there =
      let next = some_of m (row c) b.0 v new.0 there in
      (new_apart m (row c) b v new.0 there, later_apart (with_row (with_row m (row c)) (row d)) cs b v new.1.1 (some_of (with_row m (row c)) (row d) b.0 v new.1.0 next))

  none_apart : (cs : List Change) → AllApart None cs
  none_apart [] = tt
  none_apart (c ∷ cs) = (alone (row c), none_apart cs)
    where
      alone : (a : Option (K × V)) → Apart a None
      alone None = tt
      alone (Some a) = tt

  row_apart : (m : FinMap R V) (cs : List Change) (b : Option (K × V)) → AreNew row (with_row m b) cs → AllApart b (every_second cs)
  row_apart m cs None new = none_apart (every_second cs)
  row_apart m cs (Some b) new = later_apart (with_row m (Some b)) cs b b.1 new (get-insert o m b.0 b.1 b.0 ∙ ap (λ t. cond t (Some b.1) (finite.get m b.0)) (itself b.0))
    where
      itself : (k : K) → eq_by_cmp R k k ≡ true
      itself k = (eq_by_cmp_equiv o).refl k

  pub next_turn : (n : FinMap R V) (d : Change) (cs : List Change) → with_changes row n (every_second (d ∷ cs)) ≡ with_changes row (with_row n (row d)) (every_second (drop 1 cs))
  next_turn n d [] = refl
  next_turn n d (e ∷ cs) = refl

  pub woven : (m : FinMap R V) (cs : List Change) → AreNew row m cs → with_changes row (with_changes row m (every_second cs)) (every_second (drop 1 cs)) ≡ with_changes row m cs
  woven m [] new = refl
  woven m (c ∷ []) new = refl
  woven m (c ∷ d ∷ cs) new =
      let first = with_row m (row c) in
      next_turn (with_changes row first (every_second cs)) d cs
      ∙ ap (λ n. with_changes row n (every_second (drop 1 cs))) (moved first (every_second cs) (row d) (row_apart first cs (row d) new.1.1))
      ∙ woven (with_row first (row d)) cs new.1.1

  pub undone : (m : FinMap R V) (cs : List Change) → AreNew row m cs → without_changes row (with_changes row m cs) cs ≡ m
  undone m cs new = same_map o exact _ _ (λ q. get_without (with_changes row m cs) cs q ∙ undone_at m cs q (adds_at R row q cs) refl new)

pub new_take : {K V : Type 0} {R : K → K → Ordering} (row : Change → Option (K × V)) (m : FinMap R V) (n : ℕ) (cs : List Change) → AreNew row m cs → AreNew row m (take n cs)
new_take row m zero cs new = tt
new_take row m (suc n) [] new = tt
new_take row m (suc n) (c ∷ cs) new = (new.0, new_take row (with_row m (row c)) n cs new.1)

pub with_push : {K V : Type 0} {R : K → K → Ordering} (row : Change → Option (K × V)) (m : FinMap R V) (cs : List Change) (c : Change)
    → with_changes row m (cs ++ c ∷ []) ≡ with_row (with_changes row m cs) (row c)
with_push row m [] c = refl
with_push row m (x ∷ cs) c = with_push row (with_row m (row x)) cs c

pub with_more : {K V : Type 0} {R : K → K → Ordering} (row : Change → Option (K × V)) (m : FinMap R V) (cs : List Change) (i : ℕ) (d : Change) → i < length cs
    → with_changes row m (take (i + 1) cs) ≡ with_row (with_changes row m (take i cs)) (row (get_or cs i d))
with_more row m cs i d h = ap (with_changes row m) (take_more cs i d h) ∙ with_push row m (take i cs) (get_or cs i d)
