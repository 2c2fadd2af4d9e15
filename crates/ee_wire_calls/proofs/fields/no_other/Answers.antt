use Rattle.std.proofs.Common.{true, false, map, sym, ◌∙◌}
use Rattle.serde_json.specs.View.{view, members_view}
use Rattle.ee_wire_calls.specs.Inner.Views.{text_at}
use Rattle.ee_wire_calls.proofs.Names.{all_named, of_object}
use Rattle.ee_wire_calls.proofs.fields.no_other.Goals as goal

pub returns-then-keys_named : goal.returns-then-keys_named
returns-then-keys_named c =
    sym (of_object (map text_at c.args.names.now) (view c.args.body.now) (members_view c.in-Some.members.now.entries) true c.in-Some.ensures
    (all_named c.args.names.now c.in-Some.members.now.entries ∙ sym c.if-keys_named.ensures))

pub returns-else-keys_named : goal.returns-else-keys_named
returns-else-keys_named c =
    sym (of_object (map text_at c.args.names.now) (view c.args.body.now) (members_view c.in-Some.members.now.entries) false c.in-Some.ensures
    (all_named c.args.names.now c.in-Some.members.now.entries ∙ sym c.if-keys_named.ensures))
