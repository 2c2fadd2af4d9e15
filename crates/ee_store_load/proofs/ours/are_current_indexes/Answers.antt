use Rattle.std.proofs.Common.{[], ◌∷◌, ◌++◌, sym, ap, ◌∙◌}
use Rattle.std.specs.Fmt.{digits}
use Rattle.sqlite_catalog.specs.Listing.{automatic}
use Rattle.ee_store_tables.specs.Tables.{answers}
use Rattle.ee_store_schema.specs.Forms.{first_tables}
use Rattle.ee_store_load.proofs.LastLemmas.{same_ends}
use Rattle.ee_store_load.proofs.ours.are_current_indexes.Goals as goal

pub returns-then-are_common_indexes : goal.returns-then-are_common_indexes
unfolding digits
returns-then-are_common_indexes c =
    let whole = c.in-Some.ensures.cases.0 in
    let common = c.are_common_indexes.ensures.0 c.if-are_common_indexes.true in (
      λ h. whole ∙ ap (λ l. c.in-Some.common.now ++ l ∷ []) (c.is_key.ensures.0 h) ∙ ap (λ xs. xs ++ automatic answers 0 (1 ∷ 2 ∷ []) 14 ∷ []) common,
      λ is. c.is_key.ensures.1 (same_ends c.in-Some.common.now first_tables.indexes c.in-Some.last.now (automatic answers 0 (1 ∷ 2 ∷ []) 14) (sym whole ∙ is)).1,
    )

pub returns-else-are_common_indexes : goal.returns-else-are_common_indexes
returns-else-are_common_indexes c =
    let whole = c.in-Some.ensures.cases.0 in (
      λ h. absurd (let e = sym c.if-are_common_indexes.false ∙ h in cc),
      λ is. c.are_common_indexes.ensures.1 (same_ends c.in-Some.common.now first_tables.indexes c.in-Some.last.now (automatic answers 0 (1 ∷ 2 ∷ []) 14) (sym whole ∙ is)).0,
    )
