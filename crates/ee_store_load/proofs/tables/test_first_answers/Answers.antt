use Rattle.std.proofs.Common.{rules, ◌≡◌, ◌↔◌, true, T, subst}
use Rattle.std.specs.List.{AllByRecursion}
use Rattle.std.specs.FinMap.{entries_sorted, is_sorted}
use Rattle.ee_store_tables.specs.Keyed.{pair_cmp}
use Rattle.ee_store_schema.proofs.Lemmas.Faults.{handed_on}
use Rattle.ee_store_load.specs.Shown.{answer_map}
use Rattle.ee_store_load.proofs.tables.test_first_answers.Goals as goal

pub returns-clause-found : goal.returns-clause-found
returns-clause-found g c clean ours sound =
    let kept = c.in_ok-earlier.earlier.items in
    record {
      kept = kept;
      tested = record {
        in_order = subst (λ es. T (is_sorted pair_cmp es)) c.in_ok-earlier.ensures.listed (entries_sorted (answer_map kept));
        pass = subst (λ rows. (c.in_ok-pass.pass ≡ true) ↔ AllByRecursion g.P.RowTest.passes rows) c.deref.ensures.value c.in_ok-pass.ensures.exact;
        earlier = λ _ i. kept;
      };
      held = c.in_ok-earlier.ensures.found clean ours sound;
    }

pub returns-in_err-earlier-clause-usable : goal.returns-in_err-earlier-clause-usable
returns-in_err-earlier-clause-usable g c clean = handed_on _ c.from_residual.result c.in_err-earlier.field-0.0 c.from_residual.ensures.1 (c.in_err-earlier.ensures.usable clean)

pub returns-clause-listed : goal.returns-clause-listed
returns-clause-listed g c = search rules

pub returns-clause-usable : goal.returns-clause-usable
returns-clause-usable g c = search rules

pub returns-clause-only_loads : goal.returns-clause-only_loads
returns-clause-only_loads g c = search rules

pub returns-clause-cause : goal.returns-clause-cause
returns-clause-cause g c = search rules
