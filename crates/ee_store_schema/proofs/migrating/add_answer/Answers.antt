use Rattle.std.proofs.Common.{◌≡◌, ℕ, sym, subst}
use Rattle.sqlite.specs.Held.{state}
use Rattle.ee_store_tables.specs.Rows.{ReplyRow, FitsRow, with_answer}
use Rattle.ee_store_tables.specs.Statements.{Makes}
use Rattle.ee_store_schema.specs.Migrating.{answer_entry}
use Rattle.ee_store_schema.proofs.Lemmas.Faults.{two_ok}
use Rattle.ee_store_schema.proofs.migrating.add_answer.Goals as goal

pub returns-clause-added : goal.returns-clause-added
returns-clause-added g c =
    let old = state g.S.Store c.args.tx.now.conn.now in
    let new = state g.S.Store c.add_answer_texts.new.tx.conn.now in
    let k : ℕ × ℕ = (c.args.answer.now.desk, c.args.answer.now.number) in
    let texts : ReplyRow = record { act = c.as_str.result.now; reply = c.as_str-2.result.now } in
    let same : texts ≡ (answer_entry c.args.answer.now).1 = λ i. record { act = c.as_str.ensures.value i; reply = c.as_str-2.ensures.value i } in
    subst (λ x. Makes old new c.add_answer_texts.result (λ rows. with_answer rows k x)) same c.add_answer_texts.ensures.added

pub returns-clause-place : goal.returns-clause-place
returns-clause-place g c clean inside =
    two_ok c.add_answer_texts.result (λ sound rises n place is_open. (sound is_open, rises n (place ((c.add_answer_texts.ensures.commit clean).was_open is_open)).1 is_open)) (c.add_answer_texts.ensures.sound clean inside)
    (c.add_answer_texts.ensures.rises clean inside)

pub returns-clause-cause : goal.returns-clause-cause
returns-clause-cause g c clean starts limit =
    let texts : ReplyRow = record { act = c.as_str.result.now; reply = c.as_str-2.result.now } in
    let same : texts ≡ (answer_entry c.args.answer.now).1 = λ i. record { act = c.as_str.ensures.value i; reply = c.as_str-2.ensures.value i } in
    c.add_answer_texts.ensures.cause clean starts.0 limit starts.1 starts.2 (starts.4, starts.3.2, subst FitsRow (sym same) starts.3.3)
