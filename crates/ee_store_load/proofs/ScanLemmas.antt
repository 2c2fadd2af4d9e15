-- What a query of a whole table shows.
use Rattle.std.proofs.Common.{◌≡◌, ℕ, List, [], ◌∷◌, ◌++◌, map, refl, sym, ap, subst, ◌∙◌, true, false, Ok, Err, Result}
use Rattle.std.specs.Prelude.{Bool, All, IsTrue, None, unwrap_or, slice_get, nat_le, ◌^◌, ◌-◌, if◌then◌else◌, flat_map, IsPermutation}
use Rattle.sqlite.specs.Tree.{Trees}
use Rattle.std.proofs.lemmas.List.Sorted.{IsPermutation-map}
use Rattle.sqlite.specs.declared.types.Value.TheVariants.{Null}
use Rattle.sqlite.specs.Order.{Row}
use Rattle.sqlite.specs.Term.{Term}
use Rattle.sqlite.specs.Schema.{Schema}
use Rattle.sqlite_value.specs.declared.keys.Key.{Key}
use Rattle.sqlite.specs.Query.{Query, IsAnswer, Output, output}
use Rattle.sqlite.specs.Program.{overlay}
use Rattle.sqlite.specs.Command.TheVariants.{Select}
use Rattle.sqlite_resolve.specs.declared.compiled.Compiled.{Compiled}
use Rattle.sqlite_resolve.specs.declared.error.CompileError.{CompileError}
use Rattle.sqlite.specs.Listing.{understood}
use Rattle.sqlite.specs.State.{State, IsUnchanged, Shown}
use Rattle.sqlite.proofs.Callers.{IsPlain, command_of, reads_as, EndsIn, begins_shown}
use Rattle.sqlite.specs.Effect.{Database}
use Rattle.sqlite_schema.specs.declared.command.Command.{Command}
use Rattle.ee_store_load.proofs.AskLemmas.{front_of}
use Rattle.ee_store_load.specs.Inner.Reading.{whole_table, IsQuery, AsksForAll, ShowsAll, ShowsUnreadable, shown_by}

abbrev named : (query : Query) (r : Result Compiled CompileError) → IsQuery query r → List (List ℕ)
named query (Ok c) h = h.0
named query (Err e) h = absurd h

asked : (query : Query) (r : Result Compiled CompileError) (h : IsQuery query r) → (command_of r ≡ Select (record { lets = []; body = query }) (named query r h)) × IsPlain r
asked query (Ok c) h = (h.1, (h.2, h.3))
asked query (Err e) h = absurd h

pub is_plain : (schema : Schema) (text : List ℕ) (tree : ℕ) (terms : List Term) (order : List (Term × Key)) → AsksForAll schema text tree terms order → IsPlain (understood schema text)
is_plain schema text tree terms order asks = (asked (whole_table tree terms order) (understood schema text) asks.query).1

module _ (tree : ℕ) (terms : List Term) (order : List (Term × Key)) where
  abbrev query : Query
  query = whole_table tree terms order

  each : (rows : List Row) → map (λ (o : Output). o.1) (map (output query) (flat_map (λ r. ([] ∷ r ∷ []) ∷ []) rows)) ≡ map (shown_by terms) rows
  each [] = refl
  each (r ∷ rows) = ap (λ more. shown_by terms r ∷ more) (each rows)

-- a table of the store, if the query has none of its own
stored_tree : (db : Trees) (t : ℕ) → overlay db [] t ≡ db t
stored_tree db t = ap (λ o. unwrap_or o (db t)) (none_given (nat_le (2 ^ 31) t))
  where
    none_given : (b : Bool) → (if b then slice_get {X = List Row} [] (t - 2 ^ 31) else None) ≡ None
    none_given true = refl
    none_given false = refl

pub answers : (old new : State) (schema : Schema) (text : List ℕ) (tree : ℕ) (terms : List Term) (order : List (Term × Key)) (rows : List Row) → AsksForAll schema text tree terms order → old.now.schema ≡ schema
    → Shown text [] old new rows → IsAnswer (whole_table tree terms order) (overlay old.now.trees []) [] rows
answers old new schema text tree terms order rows asks has shown =
    let is = asked (whole_table tree terms order) (understood schema text) asks.query in
    (reads_as text [] old new schema has _ is.0 is.1 asks.unlisted rows shown).answer Null

pub shows_all : (old new : State) (schema : Schema) (text : List ℕ) (tree : ℕ) (terms : List Term) (order : List (Term × Key)) (rows : List Row) → AsksForAll schema text tree terms order → old.now.schema ≡ schema
    → Shown text [] old new rows → ShowsAll old.now.trees tree terms rows
shows_all old new schema text tree terms order rows asks has shown =
    let query = whole_table tree terms order in
    let a : IsAnswer query (overlay old.now.trees []) [] rows = answers old new schema text tree terms order rows asks has shown in
    let kept : a.kept ≡ map (output query) (flat_map (λ r. ([] ∷ r ∷ []) ∷ []) (old.now.trees tree)) = a.distinct ∙ ap (map (output query)) (a.grouped ∙ ap (flat_map (λ r. ([] ∷ r ∷ []) ∷ [])) (stored_tree old.now.trees tree)) in
    let same = IsPermutation-map (λ (o : Output). o.1) a.kept a.ordered a.same in
    subst (λ rs. IsPermutation rs rows) (ap (map (λ (o : Output). o.1)) kept ∙ each tree terms order (old.now.trees tree)) (subst (IsPermutation (map (λ (o : Output). o.1) a.kept)) (sym a.shown) same)

-- ---- a row that can't be read

still : (s : State) → IsTrue s.is_open → IsUnchanged s s
still s is_open = (record { was_open = is_open; is_open = is_open; now_is = refl; committed_is = refl; mode = refl }, record { changes = refl; last_rowid = refl }, refl)

ends_alone : (body : Query) (names : List (List ℕ)) (command : Command) (db : Database) (params : Row) → command ≡ Select (record { lets = []; body = body }) names → EndsIn command db params
ends_alone body names command db params is = subst (λ k. EndsIn k db params) (sym is) tt

-- if an answer begins with rows of which some can't be read, no whole answer can be
pub unreadable : (IsReadable : Row → Type 0) (s : State) (schema : Schema) (text : List ℕ) (tree : ℕ) (terms : List Term) (order : List (Term × Key)) → AsksForAll schema text tree terms order → s.now.schema ≡ schema
    → IsTrue s.is_open → ShowsUnreadable IsReadable text s → ¬ ((rows : List Row) → IsAnswer (whole_table tree terms order) (overlay s.now.trees []) [] rows → All IsReadable rows)
unreadable IsReadable s schema text tree terms order asks has is_open begins can =
    let query = whole_table tree terms order in
    let is = asked query (understood schema text) asks.query in
    let whole = begins_shown text [] s s begins.0 begins.1 (still s is_open) (λ c db it source.
    ends_alone query (named query (understood schema text) asks.query) c.command db _ (ap command_of (sym it.is ∙ ap (λ t. understood t text) has) ∙ is.0)) in
    begins.2 (front_of IsReadable begins.0 whole.0 (can (begins.0 ++ whole.0) (answers s s schema text tree terms order (begins.0 ++ whole.0) asks has whole.1)))
