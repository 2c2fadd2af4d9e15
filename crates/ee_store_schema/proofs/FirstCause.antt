-- The desk's row fails to be written only for a cause.
use Rattle.std.proofs.Common.{◌≡◌, inl, inr, ℕ, zero, suc, ◌%◌, ◌^◌, List, [], ◌∷◌, length, length-append, pos, Some, None, Option, Err, refl, sym, ap, subst, ◌∙◌, arith}
use Rattle.std.specs.Float.{NotNan}
use Rattle.std.specs.Float.Ieee
use Rattle.std.specs.List.{AllByRecursion}
use Rattle.std.proofs.Math.Nat.{zero-div}
use Rattle.std.proofs.lemmas.List.Elements.{All-from_recursion}
use Rattle.sqlite.specs.declared.error.Error.{Error}
use Rattle.sqlite.specs.Order.{Row}
use Rattle.sqlite.specs.Tree.{Trees}
use Rattle.sqlite.specs.Schema.{Schema}
use Rattle.sqlite.specs.Edit.{edit_of}
use Rattle.sqlite.specs.Rowids.TheVariants.{Chosen}
use Rattle.sqlite_value.specs.Order.{number}
use Rattle.sqlite_trees.specs.Tree.{with_tree}
use Rattle.sqlite_trees.specs.View.{IsStorableRow}
use Rattle.sqlite_schema.specs.declared.schema.Among.TheVariants as which
use Rattle.sqlite_schema.specs.declared.schema.Index.{Index}
use Rattle.sqlite_schema.specs.declared.schema.Keys.{Keys}
use Rattle.sqlite_schema.specs.declared.schema.Keys.TheVariants.{Enforced}
use Rattle.sqlite_schema.specs.declared.schema.Constraint.TheVariants.{Datatype, NotNull, Check, PrimaryKey, Unique, ForeignKey}
use Rattle.sqlite_schema.specs.Rules.{Keeps, table_reals}
use Rattle.sqlite_rules.specs.declared.error.Refusal.{Refusal}
use Rattle.sqlite_rules.specs.declared.error.Refusal.TheVariants.{Violates, Mismatch, NoRowid, BadReference, TooDeep}
use Rattle.sqlite_rules.specs.Lists.{Has}
use Rattle.sqlite_rules.specs.Edit.{Edit, taken_by, edited, IsRefused, IsOversized}
use Rattle.sqlite_rules.specs.Action.{works, Leads, Writes}
use Rattle.sqlite_keyed.proofs.ListLemmas.{all_of}
use Rattle.sqlite.specs.Source.TheVariants.{Values}
use Rattle.sqlite.specs.Command.TheVariants.{Insert}
use Rattle.sqlite.specs.Effect.{Database}
use Rattle.sqlite.specs.Rows.{Sourced}
use Rattle.sqlite.specs.Does.{Does}
use Rattle.sqlite.specs.Listing.{understood}
use Rattle.sqlite_tied.specs.Compute.{everything}
use Rattle.sqlite.specs.State.{State, mode_of, ExecutesInside}
use Rattle.ee_store_tables.specs.Tables.{counter_schema, desk}
use Rattle.ee_store_tables.specs.Keyed.{row_of}
use Rattle.ee_store_tables.specs.Rows.{desk_columns}
use Rattle.ee_store_tables.proofs.Lemmas.Rows.{cast_int, cast_null}
use Rattle.ee_store_tables.proofs.Lemmas.Causes.{no_references}
use Rattle.ee_store_schema.specs.Making.{first_desk}
use Rattle.ee_store_schema.specs.Inner.Asking.{IsOneStatement}
use Rattle.ee_store_schema.proofs.Lemmas.Causes.{Excuses}
use Rattle.ee_store_schema.proofs.FirstLemmas.{terms, desk_row_text, desk_row_is, desk_row_whole}
use Rattle.ee_store_schema.proofs.MakeCause.{NeverStops, statement_excused, stopped, never_given}

-- ---- a step that is allowed, and sets nothing off

step_never : (schema : Schema) (keys : Keys) (db : Trees) (edit : Edit) → works schema keys 0 edit.table.tree (taken_by db edit) edit.news ≡ [] → ((reason : Refusal) → ¬ IsRefused schema keys db edit reason)
    → ((row : Row) → Has edit.news row → ¬ IsOversized schema edit.table row) → (why : Option Refusal) → ¬ Writes schema keys db edit (Err why)
step_never schema keys db edit still allowed fits why (inl (reason, refused, is)) = allowed reason refused
step_never schema keys db edit still allowed fits why (inr (inl (row, has, big, is))) = fits row has big
step_never schema keys db edit still allowed fits why (inr (inr (next, applies, leads))) = settled leads.0 (rw still at leads.1)
  where
    settled : (n : ℕ) → ¬ Leads schema keys n next [] (Err why)
    settled zero h = let e = h.1 in cc
    settled (suc n) h = absurd (omega (arith, ap length h.2, length-append h.0 (h.1 ∷ [])))

-- ---- the row

abbrev first_row : Row
first_row = row_of desk_columns (pos 1, (1, first_desk))

storable : IsStorableRow (table_reals desk) first_row
unfolding Ieee.is_nan
storable = (
  record {
    typed = λ c on. absurd (let e = subst (λ q. q % 2 ≡ 1) (zero-div (2 ^ c)) on in omega (arith, e));
    columns = (omega arith, omega arith);
    numbers = All-from_recursion (λ v. NotNan (number v)) first_row (tt, (tt, (tt, (tt, (tt, tt)))));
    short = omega arith;
  },
  omega arith,
)

fits : (row : Row) → Has (first_row ∷ []) row → ¬ IsOversized counter_schema desk row
fits row (inr has) big = has
fits row (inl same) (inl big) = big (subst (IsStorableRow (table_reals desk)) (sym same) storable)
fits row (inl same) (inr (index, has, at, big)) = elsewhere has
  where
    apart : (other : Index) (tree : ℕ) → other.table ≡ suc tree → index ≡ other → ⊥
    apart other tree is one = let e = sym at ∙ ap (λ (i : Index). i.table) one ∙ is in omega (arith, e)

    elsewhere : Has counter_schema.indexes index → ⊥
    elsewhere (inl is) = apart _ 1 refl is
    elsewhere (inr (inl is)) = apart _ 1 refl is
    elsewhere (inr (inr (inl is))) = apart _ 4 refl is
    elsewhere (inr (inr (inr (inl is)))) = apart _ 6 refl is
    elsewhere (inr (inr (inr (inr (inl is))))) = apart _ 6 refl is
    elsewhere (inr (inr (inr (inr (inr (inl is)))))) = apart _ 12 refl is
    elsewhere (inr (inr (inr (inr (inr (inr none)))))) = none

no_rows : (P : Row → Type 0) (rows : List Row) → rows ≡ [] → AllByRecursion P rows
no_rows P rows none = subst (AllByRecursion P) (sym none) tt

module _ (db : Trees) (none : AllByRecursion (λ t. db t.tree ≡ []) counter_schema.tables) where
  keeps : (rows : List Row) → Keeps Unique counter_schema (with_tree db 0 rows)
  keeps rows = (all_of _ (λ _. refl) _, (no_rows _ _ none.1.0, (no_rows _ _ none.1.1.0, (no_rows _ _ none.1.1.1.0, (no_rows _ _ none.1.1.1.1.0, (no_rows _ _ none.1.1.1.1.1.0, (no_rows _ _ none.1.1.1.1.1.1.0, (no_rows _ _ none.1.1.1.1.1.1.1.0, tt))))))))

  module _ (edit : Edit) (table : edit.table ≡ desk) (gone : edit.gone ≡ []) (news : edit.news ≡ first_row ∷ []) where
    allowed : (reason : Refusal) → ¬ IsRefused counter_schema Enforced db edit reason
    allowed (Violates Datatype) h = let it = rw (table, news) at h in cc
    allowed (Violates NotNull) h = let it = rw (table, news) at h in cc
    allowed (Violates Check) h = let it = rw (table, news) at h in cc
    allowed (Violates PrimaryKey) h = let it = rw (table, gone, news, none.0) at h in cc
    allowed (Violates Unique) h = h (subst (λ tree. Keeps Unique counter_schema (with_tree db tree (edited db edit))) (sym (ap (λ t. t.tree) table)) (keeps (edited db edit)))
    allowed (Violates ForeignKey) h = h
    allowed Mismatch h = let it = rw news at h in cc
    allowed NoRowid h = let it = rw news at h in cc
    allowed BadReference h = let it = rw (table, gone, news) at h in cc
    allowed TooDeep h = h

-- ---- the statement

abbrev AsksDesk : Type 0
AsksDesk = IsOneStatement desk_row_text 0 (understood counter_schema desk_row_text)

one_desk_row : AsksDesk
unfolding understood everything
one_desk_row = (omega arith, refl, refl, refl)

sourced : (limit : Option ℕ) → limit ≡ None → (db : Database) (stop : Option Error) → ¬ Sourced limit db [] (Values terms 5) (Err stop)
sourced limit unlimited db None given = given
sourced limit unlimited db (Some e) (inl given) = let h = given.1 in cc
sourced limit unlimited db (Some e) (inr given) = let h = rw unlimited at given.1 in cc

insert_never : (old : State) → old.step_limit ≡ None → AllByRecursion (λ t. old.now.trees t.tree ≡ []) counter_schema.tables
    → NeverStops (Does old.step_limit (mode_of old) [] (record old.now { schema = counter_schema }) desk_row_text None (Insert 0 (Values terms 5)))
insert_never old limit none stop does = elim (stopped stop does) [
  | inl wrote ↦ elim (stopped stop wrote) [
    | inl given ↦ sourced old.step_limit limit old.now stop given
    | inr given ↦ elim (stopped stop given.2) [
      | inl counter ↦ never_given _ stop counter
      | inr counter ↦ elim (stopped stop counter.2) [
        | inl wrong ↦ (
            let edit = edit_of old.now.trees desk [] Chosen 0 given.0 in
            let news : edit.news ≡ first_row ∷ [] = ap (λ all. (edit_of old.now.trees desk [] Chosen 0 all).news) given.1.1 ∙ rw (cast_null, cast_int 1, cast_int 2) refl in
            step_never counter_schema Enforced old.now.trees edit refl (allowed old.now.trees none edit refl refl news) (subst (λ all. (row : Row) → Has all row → ¬ IsOversized counter_schema desk row) (sym news) fits) wrong.0 wrong.1)
        | inr wrong ↦ elim (stopped stop wrong.2) [ inl counts ↦ never_given _ stop counts | inr counts ↦ never_given _ stop counts.2 ]
      ]
    ]
  ]
  | inr wrote ↦ elim (stopped stop wrote.2) [
    | inl tested ↦ tested.0 (no_references which.All wrote.0.trees)
    | inr tested ↦ elim (stopped stop tested.2) [ inl shows ↦ never_given _ stop shows | inr shows ↦ never_given _ stop shows.2 ]
  ]
]

pub desk_excused : (old new : State) (e : Error) → old.step_limit ≡ None → old.now.schema ≡ counter_schema → AllByRecursion (λ t. old.now.trees t.tree ≡ []) counter_schema.tables → ExecutesInside 0 desk_row_text [] old new (Err e) → Excuses old new e
desk_excused old new e limit has none =
    statement_excused old new desk_row_text counter_schema has (Insert 0 (Values terms 5)) one_desk_row desk_row_is desk_row_whole tt (λ c is bare. rw (is, bare) refl) (λ stop does.
    insert_never old limit none stop (subst (λ s. Does old.step_limit (mode_of old) [] (record old.now { schema = s }) desk_row_text None (Insert 0 (Values terms 5)) (Err stop)) has does)) e
