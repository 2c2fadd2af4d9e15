use Rattle.ee_desk_soundness.proofs.Counts.{day_begun}
use Rattle.ee_desk_soundness.proofs.days.add_day.Goals as goal

pub returns : goal.returns
returns c =
    day_begun c.args.counts.now.entries c.insert.new.self.entries c.args.day c.none_yet.result c.none_yet.ensures c.in_ok-insert.ensures.updates.0
