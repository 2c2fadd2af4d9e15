use Rattle.std.proofs.Common.{rules, ◌≡◌, Some, sym, ap, ◌∙◌}
use Rattle.std.specs.Option.{option_map_or}
use Rattle.std.specs.FinMap as finite
use Rattle.std.specs.FinMap.{nat_cmp-IsAntisymmetric}
use Rattle.std.specs.Cmp.{nat_cmp_total}
use Rattle.ee_desk_model.proofs.Lemmas.Maps.{map_with_one_more}
use Rattle.ee_desk_decide.specs.Noted.{rates_in}
use Rattle.ee_desk.proofs.seeing.note_rate.Goals as goal

pub returns-in_ok-insert : goal.returns-in_ok-insert
returns-in_ok-insert c =
    let e : finite.get c.args.ledger.now.rates c.args.period ≡ Some c.in-Some.terms.now = search rules in
    map_with_one_more nat_cmp_total nat_cmp-IsAntisymmetric c.args.found.now.entries c.insert.new.self.entries c.args.period c.in_ok-shared.shared c.in_ok-insert.ensures.updates.0
    ∙ ap (finite.insert (rates_in c.args.found.now.entries) c.args.period) c.in_ok-shared.ensures
    ∙ ap (λ o. option_map_or (λ x. finite.insert (rates_in c.args.found.now.entries) c.args.period x) o (rates_in c.args.found.now.entries)) (sym e)
