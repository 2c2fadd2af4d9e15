use Rattle.std.proofs.Common.{◌≡◌, ◌+◌, ◌*◌, [], refl, inl, inr, subst, arith}
use Rattle.ee_cli_actions.proofs.Lemmas.{applies_with, exports_with, imports_with, serves_all_with, sheets_with}
use Rattle.ee_cli_program.proofs.Lemmas.{tries_with}
use Rattle.ee_cli_program.proofs.Opened.{over_worked}
use Rattle.ee_cli_program.proofs.carrying.carry_out.Goals as goal

pub returns-in-Value-clause-over : goal.returns-in-Value-clause-over
returns-in-Value-clause-over g c = λ contents holds. rw c.in-Value.is refl

pub returns-in-Apply-clause-over : goal.returns-in-Apply-clause-over
returns-in-Apply-clause-over g c = λ contents holds. rw c.in-Apply.is
    (over_worked _ _ _ _ _ _ _ _ _ _ _ _ _ _ _ _ _ _ _ 1000 _ (contents c.in-Apply.store.now) (holds c.in-Apply.store.now)
    (λ first left ended cause enough fit. cause 0 enough fit)
    (λ Has After more ended. applies_with Has After more _ _ _ _ _ ended)
    c.apply.ensures.works)

pub returns-in-Import-clause-over : goal.returns-in-Import-clause-over
returns-in-Import-clause-over g c = λ contents holds. rw c.in-Import.is
    (over_worked _ _ _ _ _ _ _ _ _ _ _ _ _ _ _ _ _ _ _ 1 _ (contents c.in-Import.store.now) (holds c.in-Import.store.now)
    (λ first left ended cause enough fit. cause 0 enough fit)
    (λ Has After more ended. tries_with _ _ ended _ _ _ _ (imports_with Has After more _ _ _ _ _ _ ended) (more _ []))
    c.import.ensures.works)

pub returns-in-Export-clause-over : goal.returns-in-Export-clause-over
returns-in-Export-clause-over g c = λ contents holds. rw c.in-Export.is
    (over_worked _ _ _ _ _ _ _ _ _ _ _ _ _ _ _ _ _ _ _ 0 _ (contents c.in-Export.store.now) (holds c.in-Export.store.now)
    (λ first left ended cause enough fit. cause 0 enough)
    (λ Has After more ended. exports_with Has After more (g.W.Write.contents c.args.output.now) (g.W.Write.contents c.export.new.output) _ (contents c.in-Export.store.now) ended)
    c.export.ensures.works)

pub returns-in-Sheet-clause-over : goal.returns-in-Sheet-clause-over
returns-in-Sheet-clause-over g c = λ contents holds. rw c.in-Sheet.is
    (over_worked _ _ _ _ _ _ _ _ _ _ _ _ _ _ _ _ _ _ _ 0 _ (contents c.in-Sheet.store.now) (holds c.in-Sheet.store.now)
    (λ first left ended cause enough fit. cause 0 enough)
    (λ Has After more ended. sheets_with _ _ c.in-Sheet.customer c.in-Sheet.month (contents c.in-Sheet.store.now) ended _ _ (more (contents c.in-Sheet.store.now) []))
    c.sheet.ensures.works)

pub returns-in-Serve-clause-over : goal.returns-in-Serve-clause-over
returns-in-Serve-clause-over g c = λ contents holds. rw c.in-Serve.is (elim c.serve.ensures.works [
  | inl unbound ↦ inl unbound
  | inr worked ↦ inr (over_worked _ _ _ _ _ _ _ _ _ _ _ _ _ _ _ _ _ _ _ (c.in-Serve.connections * 1000) _ (contents c.in-Serve.store.now) (holds c.in-Serve.store.now)
      (λ first left ended cause enough fit.
      let none_more : c.in-Serve.connections * 1000 ≡ 0 + c.in-Serve.connections * 1000 = omega arith in
      cause 0 (subst (λ m. g.O.Store.Keeper.takes m first) none_more enough) fit)
      (λ Has After more ended. tries_with _ _ ended _ _ _ _ (serves_all_with Has After more _ _ _ _ _ ended) (more _ []))
      worked)
])
