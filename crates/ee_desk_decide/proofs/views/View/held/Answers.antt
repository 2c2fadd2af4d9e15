use Rattle.std.proofs.Common.{rules, ◌≡◌, sym, ap, ◌∙◌}
use Rattle.std.specs.Map.{lookup}
use Rattle.std.specs.BTreeMap.{is_at}
use Rattle.std.specs.FinMap as finite
use Rattle.ee_desk_model.specs.Serials.{serial_cmp}
use Rattle.ee_desk_model.proofs.Lemmas.Maps.{get_lookup, serials_total}
use Rattle.ee_desk_decide.proofs.views.View.held.Goals as goal

pub returns : goal.returns
returns c =
    let e : c.copied.result ≡ lookup (is_at (serial_cmp c.args.serial)) c.self.inside.parts.bonds.entries = search rules in
    e ∙ sym (get_lookup serials_total _ c.args.serial) ∙ ap (λ v. finite.get v.bonds c.args.serial) c.self.view_is
