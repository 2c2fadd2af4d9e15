use Rattle.std.proofs.Common.{rules, ◌≡◌, ℕ, List, subst, ◌≤◌, ◌+◌, ◌∙◌, ap, sym, arith, None}
use Rattle.std.specs.Prelude.{string_bytes}
use Rattle.sqlite.specs.Held.{state}
use Rattle.ee_desk_model.specs.declared.changes.Change.{Change}
use Rattle.ee_desk_texts.specs.Texts.{act_text, reply_text}
use Rattle.ee_store_tables.specs.Rows.{Sees, ReplyRow, with_answer, FitsRow}
use Rattle.ee_store_tables.proofs.Lemmas.Transactions.{clean_before}
use Rattle.ee_store_books.specs.Standing.{rows_of, reply_row}
use Rattle.ee_store_delivery.specs.Inner.Written.{applied_rows, CanWriteAll, all_added_rows}
use Rattle.ee_store_delivery.proofs.Served.{is_decided}
use Rattle.ee_store_delivery.proofs.InOrder.{reads_if_any, one_if_any, given_if_any, writes_then}
use Rattle.ee_store_books.proofs.Lemmas.Lookups.{handed_on, excused_later, leaves_then}
use Rattle.ee_store_delivery.proofs.Writable.{can_write, answers_stay}
use Rattle.ee_store_tables.proofs.Lemmas.Causes.{room_less}
use Rattle.ee_store_books.proofs.Lemmas.Contents.{get_reply_row}
use Rattle.ee_desk_model.specs.declared.changes.Effects.{Effects}
use Rattle.std.specs.FinMap as finite
use Rattle.std.specs.Option.{option_map}
use Rattle.ee_desk_model.specs.Numbers.{number_of}
use Rattle.ee_store_delivery.proofs.delivery.decide_in.Goals as goal

pub returns-clause-decides : goal.returns-clause-decides
returns-clause-decides g c clean inside S sees known none =
    let q = c.args.request.now in
    let effects = c.in_ok-effects.effects in
    let last = c.in_ok-effects.last_day in
    let a = state g.S.Store c.effects_in.new.tx.conn.now in
    let b = state g.S.Store c.write_changes.new.tx.conn.now in
    let new = state g.S.Store c.add_answer.new.tx.conn.now in
    let clean_b = clean_before b new c.add_answer.ensures.writes_inside.crash clean in
    let clean_a = clean_before a b c.write_changes.ensures.writes_if_any.crash clean_b in
    let found = c.in_ok-effects.ensures.found clean_a inside S sees known in
    let are : c.as_slice.result.now ≡ effects.changes = search rules in
    let row : ReplyRow = record { act = string_bytes c.args.act; reply = string_bytes c.in_ok-words.words } in
    let words : row ≡ record { act = act_text q.act; reply = reply_text effects.reply } = λ i. record { act = c.requires.text i; reply = c.in_ok-words.ensures.text i } in
    let written = c.in_ok-write_changes.ensures.written clean_b (rows_of S) (c.in_ok-effects.ensures.only_reads.rows clean_a inside (rows_of S) sees.rows).0 in
    let kept = c.in_ok-add_answer.ensures.added clean (applied_rows last (rows_of S) c.as_slice.result.now) written in
    is_decided new q S effects.changes effects.reply last row sees.right none c.requires.fits c.number-desk.ensures.high (c.value.ensures.low, c.value.ensures.high) c.reply_text.ensures.fits found.0 found.1 words
    (subst (λ (d : (ℕ × ℕ) × List Change). Sees new (with_answer (applied_rows last (rows_of S) d.1) d.0 row)) (λ i. ((c.number-desk.ensures.value i, c.value.ensures.value i), are i)) kept)

pub returns-in_err-effects-clause-cause : goal.returns-in_err-effects-clause-cause
returns-in_err-effects-clause-cause g c clean inside unlimited S sees any =
    handed_on _ c.from_residual.result c.in_err-effects.field-0.0 c.from_residual.ensures.1 (c.in_err-effects.ensures.cause clean inside unlimited S sees any.0)

pub returns-in_err-write_changes-clause-cause : goal.returns-in_err-write_changes-clause-cause
returns-in_err-write_changes-clause-cause g c clean inside unlimited S sees any =
    let q = c.args.request.now in
    let old = state g.S.Store c.args.tx.now.conn.now in
    let a = state g.S.Store c.effects_in.new.tx.conn.now in
    let new = state g.S.Store c.write_changes.new.tx.conn.now in
    let clean_a = clean_before a new c.write_changes.ensures.writes_if_any.crash clean in
    let found = c.in_ok-effects.ensures.found clean_a inside S sees any.0 in
    let stays = c.in_ok-effects.ensures.only_reads.rows clean_a inside (rows_of S) sees.rows in
    let are : c.as_slice.result.now ≡ c.in_ok-effects.effects.changes = search rules in
    let can = subst (CanWriteAll c.in_ok-effects.last_day (rows_of S)) (sym are) (can_write S q.act c.in_ok-effects.effects c.in_ok-effects.last_day sees.right c.requires.fits found.0 found.1) in
    let few = subst (λ changes. all_added_rows changes ≤ 500) (sym are) c.in_ok-effects.ensures.few in
    handed_on _ c.from_residual-in_err-write_changes.result c.in_err-write_changes.field-0.0 c.from_residual-in_err-write_changes.ensures.1
    (excused_later old a new clean c.effects_in.ensures.only_reads.crash c.write_changes.ensures.writes_if_any.crash _
    (c.in_err-write_changes.ensures.cause clean (c.in_ok-effects.ensures.only_reads.inside clean_a inside) (c.effects_in.ensures.only_reads.crash.limit ∙ unlimited) (rows_of S) stays.0
    (can, room_less a _ 501 (omega (arith, few)) (stays.1 501 any.3))))

pub returns-in_err-add_answer-clause-cause : goal.returns-in_err-add_answer-clause-cause
returns-in_err-add_answer-clause-cause g c clean inside unlimited S sees any =
    let q = c.args.request.now in
    let effects = c.in_ok-effects.effects in
    let last = c.in_ok-effects.last_day in
    let old = state g.S.Store c.args.tx.now.conn.now in
    let a = state g.S.Store c.effects_in.new.tx.conn.now in
    let b = state g.S.Store c.write_changes.new.tx.conn.now in
    let new = state g.S.Store c.add_answer.new.tx.conn.now in
    let clean_b = clean_before b new c.add_answer.ensures.writes_inside.crash clean in
    let clean_a = clean_before a b c.write_changes.ensures.writes_if_any.crash clean_b in
    let inside_a = c.in_ok-effects.ensures.only_reads.inside clean_a inside in
    let found = c.in_ok-effects.ensures.found clean_a inside S sees any.0 in
    let stays = c.in_ok-effects.ensures.only_reads.rows clean_a inside (rows_of S) sees.rows in
    let changes = c.as_slice.result.now in
    let are : changes ≡ effects.changes = search rules in
    let few = subst (λ changes. all_added_rows changes ≤ 500) (sym are) c.in_ok-effects.ensures.few in
    let written = c.in_ok-write_changes.ensures.written clean_b (rows_of S) stays.0 in
    let room = c.in_ok-write_changes.ensures.room clean_b inside_a (rows_of S) stays.0 1 (room_less a _ 501 (omega (arith, few)) (stays.1 501 any.3)) in
    let key : (c.number-desk.result, c.value.result) ≡ number_of q = λ i. (c.number-desk.ensures.value i, c.value.ensures.value i) in
    let none : finite.get (applied_rows last (rows_of S) changes).answers (c.number-desk.result, c.value.result) ≡ None =
    ap (λ answers. finite.get answers (c.number-desk.result, c.value.result)) (answers_stay last (rows_of S) changes) ∙ ap (finite.get (rows_of S).answers) key ∙ get_reply_row S.kept (number_of q) ∙ ap (option_map reply_row) any.1 in
    let row : ReplyRow = record { act = string_bytes c.args.act; reply = string_bytes c.in_ok-words.words } in
    let words : row ≡ record { act = act_text q.act; reply = reply_text effects.reply } = λ i. record { act = c.requires.text i; reply = c.in_ok-words.ensures.text i } in
    let own = words ∙ ap (λ (e : Effects). record { act = act_text q.act; reply = reply_text e.reply }) found.0 in
    let crash = leaves_then old a b c.effects_in.ensures.only_reads.crash c.write_changes.ensures.writes_if_any.crash in
    handed_on _ c.from_residual-in_err-add_answer.result c.in_err-add_answer.field-0.0 c.from_residual-in_err-add_answer.ensures.1
    (excused_later old b new clean crash c.add_answer.ensures.writes_inside.crash _ (c.in_err-add_answer.ensures.cause clean (c.in_ok-write_changes.ensures.writes_if_any.inside clean_b inside_a) (crash.limit ∙ unlimited) (applied_rows last (rows_of S) changes) written
    (room, none, subst FitsRow (sym own) any.2)))

pub returns-clause-room : goal.returns-clause-room
returns-clause-room g c clean inside S sees n room =
    let a = state g.S.Store c.effects_in.new.tx.conn.now in
    let b = state g.S.Store c.write_changes.new.tx.conn.now in
    let new = state g.S.Store c.add_answer.new.tx.conn.now in
    let clean_b = clean_before b new c.add_answer.ensures.writes_inside.crash clean in
    let clean_a = clean_before a b c.write_changes.ensures.writes_if_any.crash clean_b in
    let inside_a = c.in_ok-effects.ensures.only_reads.inside clean_a inside in
    let stays = c.in_ok-effects.ensures.only_reads.rows clean_a inside (rows_of S) sees.rows in
    let are : c.as_slice.result.now ≡ c.in_ok-effects.effects.changes = search rules in
    let few = subst (λ changes. all_added_rows changes ≤ 500) (sym are) c.in_ok-effects.ensures.few in
    let written = c.in_ok-write_changes.ensures.written clean_b (rows_of S) stays.0 in
    c.in_ok-add_answer.ensures.room clean (c.in_ok-write_changes.ensures.writes_if_any.inside clean_b inside_a) (applied_rows c.in_ok-effects.last_day (rows_of S) c.as_slice.result.now) written n
    (c.in_ok-write_changes.ensures.room clean_b inside_a (rows_of S) stays.0 (n + 1) (room_less a _ (501 + n) (omega (arith, few)) (stays.1 (501 + n) room)))

pub returns-clause-learns : goal.returns-clause-learns
returns-clause-learns g c clean inside S sees known =
    let a = state g.S.Store c.effects_in.new.tx.conn.now in
    let b = state g.S.Store c.write_changes.new.tx.conn.now in
    let new = state g.S.Store c.add_answer.new.tx.conn.now in
    let clean_b = clean_before b new c.add_answer.ensures.writes_inside.crash clean in
    let clean_a = clean_before a b c.write_changes.ensures.writes_if_any.crash clean_b in
    let found = c.in_ok-effects.ensures.found clean_a inside S sees known in
    c.follow.ensures S.books (c.in_ok-effects.ensures.learns clean_a inside S sees known) (ap (λ (e : Effects). e.reply) found.0)

pub returns-clause-writes_if_any : goal.returns-clause-writes_if_any
returns-clause-writes_if_any g c =
    let old = state g.S.Store c.args.tx.now.conn.now in
    let a = state g.S.Store c.effects_in.new.tx.conn.now in
    let b = state g.S.Store c.write_changes.new.tx.conn.now in
    let new = state g.S.Store c.add_answer.new.tx.conn.now in
    let first = writes_then old a b _ _ (reads_if_any old a _ c.in_ok-effects.ensures.only_reads) c.in_ok-write_changes.ensures.writes_if_any in
    given_if_any old new _ _ (writes_then old b new _ _ first (one_if_any b new _ c.in_ok-add_answer.ensures.writes_inside))

pub returns-clause-sound : goal.returns-clause-sound
returns-clause-sound g c clean inside =
    let a = state g.S.Store c.effects_in.new.tx.conn.now in
    let b = state g.S.Store c.write_changes.new.tx.conn.now in
    let new = state g.S.Store c.add_answer.new.tx.conn.now in
    let clean_b = clean_before b new c.add_answer.ensures.writes_inside.crash clean in
    let clean_a = clean_before a b c.write_changes.ensures.writes_if_any.crash clean_b in
    c.in_ok-add_answer.ensures.sound clean (c.in_ok-write_changes.ensures.writes_if_any.inside clean_b (c.in_ok-effects.ensures.only_reads.inside clean_a inside))
