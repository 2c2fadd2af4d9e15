use Rattle.std.proofs.Common.{rules, ◌≡◌, sym, ◌∙◌}
use Rattle.std.specs.Map.{lookup}
use Rattle.std.specs.BTreeMap.{is_at}
use Rattle.ee_desk_model.specs.Serials.{serial_cmp}
use Rattle.ee_desk_model.proofs.Lemmas.Maps.{get_lookup, serials_total}
use Rattle.ee_store_delivery.proofs.named_by_act.found_of.Goals as goal

pub returns : goal.returns
returns c =
    let e : c.copied.result ≡ lookup (is_at (serial_cmp c.args.serial)) c.args.found.now.entries = search rules in
    e ∙ sym (get_lookup serials_total _ c.args.serial)
