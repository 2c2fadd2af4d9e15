use Rattle.std.proofs.Common.{◌≡◌, List, map, subst}
use Rattle.std.specs.Result.{IfOk, IfErr}
use Rattle.ee_calculator.specs.declared.bonds.Bond.{Bond}
use Rattle.ee_desk_model.specs.declared.replies.Ticket.{Ticket}
use Rattle.ee_desk_soundness.specs.declared.faults.PartsFault.TheVariants.{Unsound}
use Rattle.ee_desk_soundness.specs.Parts.{Parts, AreUnsound}
use Rattle.ee_desk_soundness.specs.Checks.{parts_in}
use Rattle.ee_desk_soundness.specs.Made.{IsMadeOf}
use Rattle.ee_desk.specs.declared.parts.Checked.{Checked}
use Rattle.ee_desk.specs.Inner.Parts.{held_bond}
use Rattle.ee_desk.proofs.parts.checked_parts.Goals as goal

pub returns-clause-rows : goal.returns-clause-rows
returns-clause-rows c =
    subst (λ (p : List Ticket × List Bond). IfOk c.checked_lists.result (λ (own : Checked). own.rows.items ≡ map (held_bond p.0) p.1)) (λ i. (c.as_slice-3.ensures i, c.as_slice-2.ensures i)) c.checked_lists.ensures.rows

pub returns-clause-ok : goal.returns-clause-ok
returns-clause-ok c =
    subst (λ (p : Parts). IfOk c.checked_lists.result (λ (own : Checked). IsMadeOf p own.indexes)) (λ i. parts_in (c.as_slice.ensures i) (c.as_slice-2.ensures i) c.args.parts.now.day c.args.parts.now.last_day (c.as_slice-3.ensures i) (c.as_slice-4.ensures i)) c.checked_lists.ensures.ok

pub returns-clause-unsound : goal.returns-clause-unsound
returns-clause-unsound c =
    subst (λ (p : Parts). IfErr c.checked_lists.result (λ fault. fault ≡ Unsound → AreUnsound p)) (λ i. parts_in (c.as_slice.ensures i) (c.as_slice-2.ensures i) c.args.parts.now.day c.args.parts.now.last_day (c.as_slice-3.ensures i) (c.as_slice-4.ensures i)) c.checked_lists.ensures.unsound
