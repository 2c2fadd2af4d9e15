-- What a statement inside a transaction keeps.
use Rattle.std.proofs.Common.{◌≡◌, ◌⊎◌, inl, inr, Bool, true, false, IsTrue, refl, List, ℕ, Some, None, Option, Ok, Err, Result, IfOk, IfErr, OnOk, OnErr, sym, ap, subst, subst₂, ◌∙◌, arith, [], ◌∷◌, ◌++◌, map}
use Rattle.std.specs.Result.{is_ok, is_err, IsErrAnd}
use Rattle.std.specs.Prelude.{if◌then◌else◌}
use Rattle.sqlite.specs.Order.{Row}
use Rattle.sqlite.specs.declared.error.Error.{Error}
use Rattle.sqlite_resolve.specs.declared.compiled.Compiled.{Compiled}
use Rattle.sqlite_schema.specs.declared.command.Returning.{Returning}
use Rattle.sqlite.specs.State.{ExecutesInside, HasCleanDisk, Survives, Shown, Shows, ShowsRows, State, IsUnchanged, IsRolledBack, KeepsCommit, FailsToQuery, FailsToShow, IsTooLate, IsNotRun}
use Rattle.sqlite.proofs.InsideLemmas.{unchanged_keeps, inside_keeps, keeps_then}
use Rattle.sqlite.proofs.StateLemmas.{survives_then}
use Rattle.std.proofs.lemmas.Bool.{cases_Bool}
use Rattle.std.proofs.lemmas.Result.{IfOk-weaker, IfErr-weaker}
use Rattle.sqlite.specs.Tree.{Trees}
use Rattle.ee_store_tables.specs.Rows.{IsInside, Sees, Rows, Holds}
use Rattle.ee_store_tables.specs.Statements.{LeavesNoMore, OnlyQueries, WritesInside, WritesIfAny}
use Rattle.sqlite.specs.Effect.{Database}
use Rattle.sqlite.specs.Schema.{Schema}
use Rattle.sqlite.specs.Clock.{timed}
use Rattle.sqlite.specs.Listing.{understood}
use Rattle.sqlite.proofs.Callers.{IsPlain}
use Rattle.ee_store_tables.specs.Tables.{with_others, others_in, HasCounterTables, KeepsOthers}
use Rattle.ee_store_tables.proofs.OtherLemmas.{Follows, keeps_on}

module _ (old new : State) where
  fails_to_show : (sql : List ℕ) (c : Compiled) (params : Row) (e : Error) (what : Option Returning) → FailsToShow old new sql c params e what → IsUnchanged old new ⊎ IsRolledBack old new
  fails_to_show sql c params e None h = inl h.3
  fails_to_show sql c params e (Some what) (inl h) = inl h.1
  fails_to_show sql c params e (Some what) (inr h) = inr h.3

  query_fails : (sql : List ℕ) (params : Row) (e : Error) → FailsToQuery sql params old new e → IsUnchanged old new ⊎ IsRolledBack old new
  unfolding FailsToQuery IsNotRun
  query_fails sql params e (inl (inl h)) = inl h.1
  query_fails sql params e (inl (inr h)) = inr h.3
  query_fails sql params e (inr h) = fails_to_show sql h.0 _ e h.0.returning h.2

  pub query_keeps : (sql : List ℕ) (params : Row) (e : Error) → FailsToQuery sql params old new e ⊎ IsTooLate sql params old new e → KeepsCommit old new
  query_keeps sql params e (inl h) = unchanged_keeps old new (query_fails sql params e h)
  query_keeps sql params e (inr h) = unchanged_keeps old new (inl h.5)

  was_open_by : (sql : List ℕ) (c : Compiled) (params : Row) (rows : List Row) (what : Option Returning) → ShowsRows old new sql c params rows what → IsTrue old.is_open
  was_open_by sql c params rows None h = h.3.0.was_open
  was_open_by sql c params rows (Some what) h = h.1.shown.was_open

  pub shown_open : (sql : List ℕ) (params : Row) (rows : List Row) → Shown sql params old new rows → IsTrue old.is_open
  unfolding Shown
  shown_open sql params rows h = was_open_by sql h.0 _ rows h.0.returning h.2

  is_open_by : (sql : List ℕ) (c : Compiled) (params : Row) (rows : List Row) (what : Option Returning) → ShowsRows old new sql c params rows what → IsTrue new.is_open
  is_open_by sql c params rows None h = h.3.0.is_open
  is_open_by sql c params rows (Some what) h = h.1.shown.is_open

  is_open_after : (sql : List ℕ) (params : Row) (rows : List Row) → Shown sql params old new rows → IsTrue new.is_open
  unfolding Shown
  is_open_after sql params rows h = is_open_by sql h.0 _ rows h.0.returning h.2

  shown_unchanged : (sql : List ℕ) (params : Row) → HasCounterTables old.now.schema → ((others : Schema) → IsPlain (understood (with_others others) sql)) → (rows : List Row) → Shown sql params old new rows → IsUnchanged old new
  unfolding Shown
  shown_unchanged sql params has plain rows h =
      let known = sym h.1.is ∙ ap (λ s. understood s sql) has.ours in
      let bare = subst IsPlain (sym known) (plain (others_in old.now.schema)) in
      (subst (ShowsRows old new sql h.0 (timed params h.0.formats h.1.now) rows) bare.0 h.2).3

  query_same : {X : Type 0} (items : X → List Row) (sql : List ℕ) (params : Row) → (IsTrue old.is_open → HasCounterTables old.now.schema) → ((others : Schema) → IsPlain (understood (with_others others) sql)) → (r : Result X Error)
      → IfOk r (λ rows. Shown sql params old new (items rows)) → OnOk r (IsUnchanged old new)
  query_same items sql params has plain (Ok rows) h = shown_unchanged sql params (has (shown_open sql params (items rows) h)) plain (items rows) h
  query_same items sql params has plain (Err e) h = tt

  -- what a query of a fixed text leaves
  pub only_queries : {X : Type 0} (items : X → List Row) (sql : List ℕ) (params given : Row) → ((others : Schema) → IsPlain (understood (with_others others) sql)) → (r : Result X Error)
      → (HasCleanDisk new → IfOk r (λ rows. Shown sql params old new (items rows)))
      → (HasCleanDisk new → IfErr r (λ e. FailsToQuery sql given old new e ⊎ IsTooLate sql given old new e))
      → LeavesNoMore old new → OnlyQueries old new r
  only_queries items sql params given plain r ok err crash = record {
    still_open = λ clean. IfOk-weaker r _ _ (λ rows shown. is_open_after sql params (items rows) shown) (ok clean);
    same = λ clean inside. query_same items sql params (λ is_open. (inside is_open).1) plain r (ok clean);
    err = λ clean inside. IfErr-weaker r _ _ (λ e failed. query_keeps sql given e failed) (err clean);
    crash = crash;
  }

  -- a statement that ran in a transaction goes on in it
  pub still_inside : Shows old new new.now old.committed true → IsInside old → Follows old.now new.now → IsInside new
  still_inside shows inside after _ =
      let it = inside shows.was_open in
      (shows.mode, after.tables, subst (λ (d : Database). KeepsOthers d new.now) (sym shows.committed_is) (keeps_on old.committed old.now new.now it.2 after.kept))

  -- what a statement that ran in a transaction leaves
  pub writes_inside : {X E : Type 0} {x : X} → (HasCleanDisk new → Shows old new new.now old.committed true)
      → (HasCleanDisk new → IsInside old → Follows old.now new.now) → LeavesNoMore old new → WritesInside {X = X} {E = E} old new (Ok x)
  writes_inside shows still crash = record {
    still_open = λ clean. (shows clean).is_open;
    inside = λ clean inside. still_inside (shows clean) inside (still clean inside);
    commit = λ clean _. let it = shows clean in record { was_open = λ _. it.was_open; committed = λ _. it.committed_is };
    crash = crash;
  }

  -- a statement that fails commits nothing
  execute_keeps : (sql : List ℕ) (params : Row) (r : Result ℕ Error) → (IsTrue old.in_transaction → ExecutesInside 0 sql params old new r) → (old.in_transaction ≡ false → new ≡ old) → KeepsCommit old new
  execute_keeps sql params r runs ended = elim (cases_Bool old.in_transaction) [
    | inl within ↦ inside_keeps old new 0 false sql params r (runs within)
    | inr without ↦ subst (KeepsCommit old) (sym (ended without)) (record { was_open = λ h. h; committed = λ _. refl })
  ]

  -- what a statement that failed leaves
  pub fails_inside : {X E : Type 0} (P : E → Type 0) (sql : List ℕ) (params : Row) (r : Result ℕ Error) (result : Result X E) → IsErrAnd result P
      → (HasCleanDisk new → IsTrue old.in_transaction → ExecutesInside 0 sql params old new r) → (old.in_transaction ≡ false → new ≡ old) → LeavesNoMore old new
      → WritesInside old new result
  fails_inside P sql params r (Ok x) failed runs ended crash = absurd failed
  fails_inside P sql params r (Err e) failed runs ended crash = record {
    still_open = λ _. tt;
    inside = λ _ _. tt;
    commit = λ clean _. execute_keeps sql params r (runs clean) ended;
    crash = crash;
  }

-- a statement that ran in a transaction ran inside it
pub inside_if_ok : {X Y : Type 0} (b : Bool) (r : Result X Error) (x : X) {e : Error} → r ≡ Ok x → (b ≡ false → (r ≡ Err e) × Y) → IsTrue b
inside_if_ok true r x is ended = refl
inside_if_ok false r x is ended = absurd (let a = sym is ∙ (ended refl).0 in cc)

-- a disk that is clean now was clean before
pub clean_before : (a b : State) {P : Trees → Type 0} → Survives a b P → HasCleanDisk b → HasCleanDisk a
clean_before a b s clean = let low = s.clean in omega (arith, low, clean)

-- what one statement and then others leave
pub writes_then : {X Y E : Type 0} (old middle new : State) (x : X) (r : Result Y E) → WritesIfAny {E = E} old middle (Ok x) → WritesIfAny middle new r → WritesIfAny old new r
writes_then old middle new x r first second = record {
  still_open = λ clean is_open. second.still_open clean (first.still_open (clean_before middle new second.crash clean) is_open);
  inside = λ clean inside. second.inside clean (first.inside (clean_before middle new second.crash clean) inside);
  commit = λ clean inside.
      let before = clean_before middle new second.crash clean in
      keeps_then old middle new (first.commit before inside) (second.commit clean (first.inside before inside));
  crash = survives_then old middle new (λ _. ⊥) (λ _. ⊥) (λ _. ⊥) (λ _ db h. h) (λ _ db h. h) first.crash second.crash;
}

pub one_if_any : {X E : Type 0} (old new : State) (r : Result X E) → WritesInside old new r → WritesIfAny old new r
one_if_any old new r it = record { still_open = λ clean _. it.still_open clean; inside = it.inside; commit = it.commit; crash = it.crash }

pub unchanged_inside : (a b : State) → IsUnchanged a b → IsInside a → IsInside b
unchanged_inside a b same inside is_open =
    let it = inside same.0.was_open in (
      same.0.mode ∙ it.0,
      subst (λ (d : Database). HasCounterTables d.schema) (sym same.0.now_is) it.1,
      subst₂ KeepsOthers (sym same.0.committed_is) (sym same.0.now_is) it.2,
    )

pub unchanged_sees : (a b : State) (rows : Rows) → IsUnchanged a b → Sees a rows → Sees b rows
unchanged_sees a b rows same sees is_open = let it = sees same.0.was_open in (subst (λ (d : Database). HasCounterTables d.schema) (sym same.0.now_is) it.0, subst (λ (d : Database). Holds d.trees rows) (sym same.0.now_is) it.1)

pub pushed : {A E X : Type 0} (r : Result A E) → false ≡ is_err r → (xs ys : List X) (x : X) → xs ≡ (if is_ok r then ys ++ x ∷ [] else ys) → xs ≡ ys ++ x ∷ []
pushed (Ok a) e xs ys x h = h
pushed (Err b) e xs ys x h = cc

pub one_more : {A B : Type 0} (f : A → B) (ys : List A) (x : A) (rest : List B) → map f (ys ++ x ∷ []) ++ rest ≡ map f ys ++ f x ∷ rest
one_more f [] x rest = refl
one_more f (y ∷ ys) x rest = ap (λ more. f y ∷ more) (one_more f ys x rest)

pub if_err : {X E Q : Type 0} (r : Result X E) → Q → OnErr r Q
if_err (Ok x) q = tt
if_err (Err e) q = q
