use Rattle.std.proofs.Common.{◌≡◌, ℕ, sym, subst}
use Rattle.sqlite.specs.Held.{state}
use Rattle.ee_store_tables.specs.AsRows.{row_of_reply}
use Rattle.ee_store_tables.specs.Rows.{ReplyRow, FitsRow, with_answer}
use Rattle.ee_store_tables.specs.Statements.{Makes}
use Rattle.ee_store_tables.proofs.answers.add_answer.Goals as goal

pub returns-clause-added : goal.returns-clause-added
returns-clause-added g c =
    let old = state g.S.Store c.args.tx.now.conn.now in
    let new = state g.S.Store c.add_answer_texts.new.tx.conn.now in
    let k : ℕ × ℕ = (c.args.desk, c.args.number) in
    let texts : ReplyRow = record { act = c.as_str.result.now; reply = c.as_str-2.result.now } in
    let same : texts ≡ row_of_reply c.args.entry.now = λ i. record { act = c.as_str.ensures.value i; reply = c.as_str-2.ensures.value i } in
    subst (λ x. Makes old new c.add_answer_texts.result (λ rows. with_answer rows k x)) same c.add_answer_texts.ensures.added

pub returns-clause-cause : goal.returns-clause-cause
returns-clause-cause g c clean inside endless rows sees allowed =
    let texts : ReplyRow = record { act = c.as_str.result.now; reply = c.as_str-2.result.now } in
    let same : texts ≡ row_of_reply c.args.entry.now = λ i. record { act = c.as_str.ensures.value i; reply = c.as_str-2.ensures.value i } in
    c.add_answer_texts.ensures.cause clean inside endless rows sees ((λ is_open. let it = allowed.0 is_open in (it.0, it.1.2)), allowed.1, subst FitsRow (sym same) allowed.2)
