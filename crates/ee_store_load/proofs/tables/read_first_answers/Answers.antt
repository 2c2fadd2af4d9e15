use Rattle.std.proofs.Common.{◌≡◌, map, sym, subst, ◌∙◌}
use Rattle.std.specs.FinMap.{entries}
use Rattle.sqlite.specs.Held.{state}
use Rattle.ee_store_schema.specs.Forms.{HoldsReplies}
use Rattle.ee_store_schema.specs.Migrating.{answer_entry}
use Rattle.ee_store_schema.proofs.Lemmas.Faults.{handed_on, each_fault}
use Rattle.ee_store_load.specs.Shown.{AreWritten, answer_map}
use Rattle.ee_store_load.proofs.FirstAnswers.{holds_first, lists_first}
use Rattle.ee_store_load.proofs.ReadLemmas.{each_ok}
use Rattle.ee_store_load.proofs.tables.read_first_answers.Goals as goal

pub returns-clause-found : goal.returns-clause-found
returns-clause-found g c clean ours sound =
    let old = state g.S.Store c.args.conn.now in
    let replies = c.in_ok-replies.replies.items in
    each_ok c.with_first_desk.result (λ found is. subst (λ items. HoldsReplies old.now.trees (answer_map items)) (sym is) (holds_first replies c.in_ok-replies.ensures.listed old.now.trees (c.in_ok-replies.ensures.found clean ours sound)))
    c.with_first_desk.ensures.first

pub returns-clause-listed : goal.returns-clause-listed
returns-clause-listed g c =
    let replies = c.in_ok-replies.replies.items in
    each_ok c.with_first_desk.result (λ found is. subst (λ items. entries (answer_map items) ≡ map answer_entry items) (sym is) (lists_first replies c.in_ok-replies.ensures.listed)) c.with_first_desk.ensures.first

pub returns-in_err-replies-clause-usable : goal.returns-in_err-replies-clause-usable
returns-in_err-replies-clause-usable g c clean =
    handed_on _ c.from_residual.result c.in_err-replies.field-0.0 c.from_residual.ensures.1 (λ unusable ours is_open m written holds.
    c.in_err-replies.ensures.usable clean unusable ours is_open holds.kept (subst AreWritten holds.first written) holds.held)

pub returns-clause-usable : goal.returns-clause-usable
returns-clause-usable g c clean = each_fault c.with_first_desk.result (λ e memory unusable. absurd (let u = sym memory ∙ unusable in cc)) c.with_first_desk.ensures.memory
