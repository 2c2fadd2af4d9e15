use Rattle.std.proofs.Common.{take, drop, ap, subst, ◌∙◌}
use Rattle.std.specs.Prelude.{All}
use Rattle.std.specs.Bool.{Decides}
use Rattle.ee_store_load.specs.Inner.Opening.{IsView}
use Rattle.ee_store_load.proofs.OursLemmas.{has_decided}
use Rattle.ee_store_load.proofs.ours.is_current.Goals as goal

pub returns : goal.returns
returns c =
    let tables = c.in-Some.ensures.cases in
    let indexes = c.in-Some-split_at_checked.ensures.cases in
    has_decided c.args.schema.now _ _ _ _
    (tables.1 ∙ ap (take 8) c.as_slice.ensures) (tables.2 ∙ ap (drop 8) c.as_slice.ensures) (indexes.1 ∙ ap (take 6) c.as_slice-2.ensures) (indexes.2 ∙ ap (drop 6) c.as_slice-2.ensures) _ _ _ _ _
    c.are_current_tables.ensures c.are_current_indexes.ensures c.are_other_tables.ensures c.are_other_indexes.ensures
    (subst (λ views. Decides c.are_views.result (All IsView views)) c.as_slice-3.ensures c.are_views.ensures)
