use Rattle.std.proofs.Common.{ap, refl, sym, ◌∙◌, ◌∷◌, ◌++◌, [], length}
use Rattle.std.specs.Prelude.{◌-◌, slice_get}
use Rattle.ee_store_load.proofs.TestLemmas.{last_is, pushed, rise_more}
use Rattle.ee_store_load.proofs.reading.TableRowsGather.take.Goals as goal

pub returns-clause-taken : goal.returns-clause-taken
returns-clause-taken g c rows is =
    let ends = c.last.ensures.value ∙ ap (λ rows. slice_get rows (length rows - 1)) (c.deref.ensures.value ∙ is.0) ∙ last_is rows in (
      pushed c.push.result (sym c.if-is_err.false ∙ c.is_err.ensures.value) c.push.new.self.items c.args.self.all.items c.args.next c.push.ensures.items ∙ ap (λ xs. xs ++ c.args.next ∷ []) is.0,
      rise_more g.T.StoredRow.stands_before _ c.args.self.rise c.follows.result _ rows c.args.next ends is.1 c.follows.ensures refl,
    )
