use Rattle.std.proofs.Common.{◌≤◌, sym, ap, ◌∙◌, subst}
use Rattle.ee_desk_model.specs.declared.changes.Effects.{Effects}
use Rattle.ee_desk_model.specs.Effects.{effects_of}
use Rattle.ee_desk_model.specs.Views.{PlainView, shown_by}
use Rattle.ee_desk_model.proofs.Lemmas.Books.{needed_enough}
use Rattle.ee_store_delivery.specs.Inner.Written.{all_added_rows}
use Rattle.ee_store_delivery.proofs.NeededDays.{needed_day}
use Rattle.ee_store_delivery.proofs.Writable.{few_rows}
use Rattle.ee_store_delivery.proofs.view.effects_in.Goals as goal

pub returns-clause-found : goal.returns-clause-found
returns-clause-found g c clean inside S sees known =
    let view = c.in_ok-view.ensures.found clean inside S sees known in
    let are = c.in_ok-effects.ensures ∙ ap (λ (v : PlainView). effects_of (shown_by v) c.args.act.now) view ∙ needed_enough S.books c.args.act.now in (
      are,
      λ some.
          c.count_of-last_day.ensures ∙ c.last_day-closed.ensures ∙ ap (λ (v : PlainView). v.last_day) view
          ∙ needed_day S.books c.args.act.now (λ none. some (ap (λ (e : Effects). e.changes) are ∙ none)),
    )

pub returns-clause-few : goal.returns-clause-few
returns-clause-few g c =
    subst (λ (e : Effects). all_added_rows e.changes ≤ 500) (sym c.in_ok-effects.ensures) (few_rows (shown_by c.in_ok-view.view) c.args.act.now)
