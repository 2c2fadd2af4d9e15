use Rattle.std.proofs.Common.{rules, ◌≡◌, ◌≢◌}
use Rattle.std.specs.Prelude.{string_bytes}
use Rattle.ee_store_delivery.proofs.Again.{GivesKnown, of_other, of_same}
use Rattle.ee_store_delivery.proofs.delivery.reply_again.Goals as goal

pub returns-then-ne-clause-told : goal.returns-then-ne-clause-told
returns-then-ne-clause-told c =
    let apart : c.args.act.now ≢ c.args.asked.now = search rules in
    of_other c.args.act.now (string_bytes c.args.reply) c.args.asked.now apart

pub returns-in-Some-clause-told : goal.returns-in-Some-clause-told
returns-in-Some-clause-told c =
    let same : c.args.act.now ≡ c.args.asked.now = search rules in
    let gives : GivesKnown (string_bytes c.args.reply) c.in-Some.given = search rules in
    of_same c.args.act.now (string_bytes c.args.reply) c.args.asked.now c.in-Some.given same gives
