use Rattle.std.proofs.Common.{rules, ◌≡◌, ◌∷◌, ap, sym, ◌∙◌}
use Rattle.std.proofs.lemmas.Bool.{or_parts}
use Rattle.std.specs.FinMap as finite
use Rattle.ee_desk_model.specs.Serials.{serial_cmp}
use Rattle.ee_desk_model.proofs.Lemmas.Maps.{serials_exact, serials_total}
use Rattle.ee_desk_decide.specs.Noted.{held_in}
use Rattle.ee_desk.specs.Inner.Added.{held_row, with_changes, every_second, is_row, adds_at}
use Rattle.ee_desk_decide.specs.Inner.NewRows.{with_row}
use Rattle.ee_desk.proofs.Added.{next_turn, fewer_beside, get_beside}
use Rattle.ee_desk.proofs.additions.add_every_second.Goals as goal

pub loop-change-preserved : goal.loop-change-preserved
loop-change-preserved c =
    let is : c.loop-change.rest.now ≡ c.in-Some.change.now ∷ c.in-Some.others.now = search rules in
    let was = rw is at c.loop-change.invariant in
    let before = held_in c.loop-change.bonds.entries in
    let added : held_in c.add_bond.new.bonds.entries ≡ with_row before (held_row c.in-Some.change.now) = search rules in
    let later = c.after_first-rest.ensures in (
      ap (λ m. with_changes held_row m (every_second c.after_first-rest.result.now)) added
          ∙ ap (λ cs. with_changes held_row (with_row before (held_row c.in-Some.change.now)) (every_second cs)) later
          ∙ sym (next_turn serials_total serials_exact held_row before c.in-Some.change.now c.in-Some.others.now) ∙ was.0,
      λ q beside.
          let two = or_parts (is_row serial_cmp q (held_row c.in-Some.change.now)) (adds_at serial_cmp held_row q c.in-Some.others.now) (was.1 q beside).0 in (
            ap (adds_at serial_cmp held_row q) later ∙ fewer_beside serials_total serials_exact held_row c.in-Some.others.now q two.1,
            ap (λ m. finite.get m q) added ∙ get_beside serials_total serials_exact held_row before (held_row c.in-Some.change.now) q two.0 ∙ (was.1 q beside).1,
          ),
    )
