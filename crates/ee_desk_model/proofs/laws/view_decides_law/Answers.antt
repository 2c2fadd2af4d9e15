use Rattle.std.proofs.Common.{sym, ap, ◌∙◌}
use Rattle.ee_desk_model.specs.declared.changes.Effects.{Effects}
use Rattle.ee_desk_model.proofs.Seeing.{applied_is, needed_enough, seen_enough}
use Rattle.ee_desk_model.proofs.laws.view_decides_law.Goals as goal

pub returns-clause-reply : goal.returns-clause-reply
returns-clause-reply c = λ books asked. ap (λ (e : Effects). e.reply) (seen_enough books asked)

pub returns-clause-books : goal.returns-clause-books
returns-clause-books c = applied_is

pub returns-clause-needed : goal.returns-clause-needed
returns-clause-needed c = λ books asked. needed_enough books asked ∙ sym (seen_enough books asked)
