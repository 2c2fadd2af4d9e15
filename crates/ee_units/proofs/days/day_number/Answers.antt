use Rattle.std.proofs.Common.{◌≡◌, ◌∙◌, Ok, rules, refl, w8, w16, arith, ◌<◌, ◌^◌}
use Rattle.std.proofs.lemmas.Int.{to_z_pos}
use Rattle.std.proofs.lemmas.Result.{IfOk-at_ok}
use Rattle.ee_units.proofs.Known.{known}
use Rattle.ee_units.proofs.days.day_number.Goals as goal

pub returns-clause-known : goal.returns-clause-known
returns-clause-known c =
    let d = c.in_ok-date.date in
    let ok : c.new.result ≡ Ok d = search (rules) in
    let v = IfOk-at_ok _ ok c.new.ensures.value in
    let fits_y : c.args.year < 2 ^ 15 = omega arith in
    let fits_m : c.args.month < 2 ^ 7 = omega arith in
    let fits_d : c.args.day < 2 ^ 7 = omega arith in
    let is = known c.args.year c.args.month c.args.day d.year d.month d.day (v.0 ∙ to_z_pos w16 c.args.year fits_y) (v.1 ∙ to_z_pos w8 c.args.month fits_m) (v.2 ∙ to_z_pos w8 c.args.day fits_d) d.month_in d.day_in in
    (λ _. is, λ _. refl)
