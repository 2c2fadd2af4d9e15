use Rattle.std.proofs.Common.{rules, ◌≡◌, true, List, map, sym, ap, ◌∙◌, subst}
use Rattle.ee_calculator.specs.declared.bonds.Bond.{Bond}
use Rattle.ee_desk_soundness.specs.Parts.{AreUnsound}
use Rattle.ee_desk_soundness.specs.Made.{IsMadeOf}
use Rattle.ee_desk_soundness.specs.Marks.{bond_of, AreMarked}
use Rattle.ee_desk_soundness.specs.Checks.{parts_in, HaveRisingSerials}
use Rattle.ee_desk_soundness.proofs.Lemmas.{not_rising}
use Rattle.ee_desk.proofs.HeldRows.{bonds_back, rows_marked}
use Rattle.ee_desk.proofs.parts.checked_lists.Goals as goal

pub checked-requires : goal.checked-requires
checked-requires c =
    let holds : c.serials_rise.result ≡ true = search rules in
    let same = ap (map bond_of) (c.as_slice.ensures.value ∙ c.in_ok-rows.ensures) ∙ bonds_back c.args.tickets.now c.args.bonds.now in
    subst HaveRisingSerials (sym same) (c.serials_rise.ensures.0 holds)

pub returns-in-Ok-clause-ok : goal.returns-in-Ok-clause-ok
returns-in-Ok-clause-ok c =
    let same = ap (map bond_of) (c.as_slice.ensures.value ∙ c.in_ok-rows.ensures) ∙ bonds_back c.args.tickets.now c.args.bonds.now in
    subst (λ (bonds : List Bond). IsMadeOf (parts_in c.args.rates.now bonds c.args.day c.args.last c.args.tickets.now c.args.batches.now) c.in-Ok.indexes) same c.in-Ok.ensures.ok

pub returns-in-Err-clause-unsound : goal.returns-in-Err-clause-unsound
returns-in-Err-clause-unsound c is =
    let rows = c.as_slice.ensures.value ∙ c.in_ok-rows.ensures in
    let same = ap (map bond_of) rows ∙ bonds_back c.args.tickets.now c.args.bonds.now in
    subst (λ (bonds : List Bond). AreUnsound (parts_in c.args.rates.now bonds c.args.day c.args.last c.args.tickets.now c.args.batches.now)) same
    (c.in-Err.ensures.unsound is (subst (AreMarked c.args.tickets.now) (sym rows) (rows_marked c.args.tickets.now c.args.bonds.now)))

pub returns-then-not-serials_rise-clause-unsound : goal.returns-then-not-serials_rise-clause-unsound
returns-then-not-serials_rise-clause-unsound c =
    λ e. not_rising (parts_in c.args.rates.now c.args.bonds.now c.args.day c.args.last c.args.tickets.now c.args.batches.now) (λ rising. let full = c.serials_rise.ensures.1 rising in absurd (search rules))
