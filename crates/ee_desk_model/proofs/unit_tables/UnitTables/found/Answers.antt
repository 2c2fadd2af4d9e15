use Rattle.std.proofs.Common.{◌≡◌, sym, ap, ◌∙◌, subst}
use Rattle.std.specs.Option.{IfSome, option_copied}
use Rattle.std.specs.FinMap as finite
use Rattle.ee_desk_model.proofs.Maps.{get_lookup}
use Rattle.ee_desk_model.proofs.KeptTables.{rates_total, copied_if}
use Rattle.ee_desk_model.proofs.unit_tables.UnitTables.found.Goals as goal

pub returns : goal.returns
returns c =
    let is : option_copied c.get.result ≡ finite.get c.args.self.now c.args.rates = c.get.ensures.value ∙ sym (get_lookup rates_total _ c.args.rates) ∙ ap (λ v. finite.get v c.args.rates) c.self.view_is in
    record {
      value = is;
      own = copied_if (λ own. own ≡ c.args.rates) c.get.result (subst (λ o. IfSome o (λ own. own ≡ c.args.rates)) (sym (is ∙ ap (λ v. finite.get v c.args.rates) (sym c.self.view_is))) (c.self.invariant c.args.rates));
    }
