-- When a schema has the tables of version 2, and others' after them.
use Rattle.std.proofs.Common.{◌≡◌, ℕ, List, ◌++◌, ◌&&◌, Bool, take, drop, sym, ap, subst, ◌∙◌}
use Rattle.std.specs.Prelude.{All}
use Rattle.std.specs.Bool.{Decides}
use Rattle.std.proofs.lemmas.Bool.Decides.{Decides-and}
use Rattle.std.proofs.lemmas.List.{take-append-drop}
use Rattle.std.proofs.lemmas.List.Elements.{recursion_from_All, All-from_recursion}
use Rattle.sqlite.specs.Schema.{Schema}
use Rattle.sqlite.specs.Table.{Table}
use Rattle.sqlite_schema.specs.declared.schema.Index.{Index}
use Rattle.ee_store_tables.specs.Tables.{counter_schema, HasCounterTables}
use Rattle.ee_store_load.specs.Inner.Opening.{IsOtherTable, IsOtherIndex, IsView}

module _ (schema : Schema) where
  begun_with : {X : Type 0} (n : ℕ) (xs front ours : List X) → front ≡ take n xs → front ≡ ours → xs ≡ ours ++ drop n xs
  begun_with n xs front ours is same = sym (take-append-drop n xs) ∙ ap (λ zs. zs ++ drop n xs) (sym is ∙ same)

  -- each part decides its own
  pub has_decided : (tables more : List Table) (indexes behind : List Index) → tables ≡ take 8 schema.tables → more ≡ drop 8 schema.tables → indexes ≡ take 6 schema.indexes → behind ≡ drop 6 schema.indexes
      → (p q r s t : Bool) → Decides p (tables ≡ counter_schema.tables) → Decides q (indexes ≡ counter_schema.indexes) → Decides r (All IsOtherTable more) → Decides s (All IsOtherIndex behind) → Decides t (All IsView schema.views)
      → Decides ((((p && q) && r) && s) && t) (HasCounterTables schema)
  has_decided tables more indexes behind is_tables is_more is_indexes is_behind p q r s t for_p for_q for_r for_s for_t =
      let all = Decides-and _ _ (Decides-and _ _ (Decides-and _ _ (Decides-and p q for_p for_q) for_r) for_s) for_t in (
        λ h.
            let each = all.0 h in
            let at_tables = begun_with 8 schema.tables tables counter_schema.tables is_tables each.0.0.0.0 in
            let at_indexes = begun_with 6 schema.indexes indexes counter_schema.indexes is_indexes each.0.0.0.1 in
            record {
              ours = λ i. record { tables = at_tables i; indexes = at_indexes i; views = schema.views };
              others = record {
                tables = recursion_from_All IsOtherTable _ (subst (All IsOtherTable) is_more each.0.0.1);
                indexes = recursion_from_All IsOtherIndex _ (subst (All IsOtherIndex) is_behind each.0.1);
                views = recursion_from_All IsView schema.views each.1;
              };
            },
        λ has. all.1 (
          (
            (
              (is_tables ∙ ap (λ (s : Schema). take 8 s.tables) has.ours, is_indexes ∙ ap (λ (s : Schema). take 6 s.indexes) has.ours),
              subst (All IsOtherTable) (sym is_more) (All-from_recursion IsOtherTable _ has.others.tables),
            ),
            subst (All IsOtherIndex) (sym is_behind) (All-from_recursion IsOtherIndex _ has.others.indexes),
          ),
          All-from_recursion IsView schema.views has.others.views,
        ),
      )
