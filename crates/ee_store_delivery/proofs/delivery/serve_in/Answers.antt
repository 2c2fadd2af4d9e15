use Rattle.std.proofs.Common.{rules, ◌≡◌, None, sym, ap, ◌∙◌, ◌+◌, subst, arith}
use Rattle.std.specs.Prelude.{string_bytes, IfSome}
use Rattle.std.specs.Option.{option_map}
use Rattle.std.specs.FinMap as finite
use Rattle.sqlite.specs.Held.{state}
use Rattle.ee_desk_model.specs.Numbers.{number_of}
use Rattle.ee_desk_texts.specs.Texts.{act_text}
use Rattle.ee_store_tables.specs.AsRows.{row_of_reply}
use Rattle.ee_store_tables.proofs.Lemmas.Transactions.{clean_before, unchanged_sees, unchanged_inside}
use Rattle.ee_store_books.specs.Standing.{rows_of, IsKept}
use Rattle.ee_store_books.specs.Seen.{SeesContent}
use Rattle.ee_store_delivery.proofs.Served.{is_again, known_again, is_new, is_first, known_first, kept_by}
use Rattle.ee_store_books.proofs.Lemmas.Contents.{get_reply_row, kept_texts}
use Rattle.ee_store_tables.proofs.Lemmas.Causes.{room_less, unchanged_room}
use Rattle.ee_store_books.proofs.Lemmas.Lookups.{statement_failed, memory_handed_on, handed_on, excused_later, leaves_then}
use Rattle.ee_store_delivery.proofs.InOrder.{unchanged_keeps, commits_then}
use Rattle.ee_store_delivery.proofs.delivery.serve_in.Goals as goal

pub returns-in-Some-clause-serves : goal.returns-in-Some-clause-serves
returns-in-Some-clause-serves g c clean inside S sees =
    let q = c.args.request.now in
    let old = state g.S.Store c.args.tx.now.conn.now in
    let new = state g.S.Store c.find_answer.new.tx.conn.now in
    let found = c.in_ok-entry.ensures.found clean (rows_of S) sees.rows in
    let act : c.as_str-kept.result.now ≡ string_bytes c.in-Some.entry.act = search rules in
    let asked : c.as_str-asked.result.now ≡ act_text q.act = search rules in
    is_again old new c.args.known.now q S (row_of_reply c.in-Some.entry) c.in_ok-reply.reply (c.in_ok-entry.ensures.only_queries.same clean inside) sees
    (sym (ap (option_map row_of_reply) c.in-Some.is) ∙ found ∙ ap (finite.get (rows_of S).answers) (λ i. (c.number-desk.ensures.value i, c.value.ensures.value i)))
    c.canonical.ensures.fits
    (λ number kept again is fits one two three. c.in_ok-reply.ensures.told number kept again is fits (act ∙ one) two (asked ∙ three))

pub returns-clause-serves : goal.returns-clause-serves
returns-clause-serves g c clean inside S sees =
    let q = c.args.request.now in
    let old = state g.S.Store c.args.tx.now.conn.now in
    let middle = state g.S.Store c.find_answer.new.tx.conn.now in
    let new = state g.S.Store c.decide_in.new.tx.conn.now in
    let before = clean_before middle new c.decide_in.ensures.writes_if_any.crash clean in
    let same = c.in_ok-entry.ensures.only_queries.same before inside in
    let still : SeesContent middle S = record { right = sees.right; rows = unchanged_sees old middle (rows_of S) same sees.rows } in
    let found = c.in_ok-entry.ensures.found before (rows_of S) sees.rows in
    let nothing : c.in_ok-entry.field-0 ≡ None = search rules in
    let none = is_new S (number_of q) (sym (ap (option_map row_of_reply) nothing) ∙ found ∙ ap (finite.get (rows_of S).answers) (λ i. (c.number-desk.ensures.value i, c.value.ensures.value i))) in
    is_first new c.args.known.now q S c.in_ok-reply-2.reply none (λ known. c.in_ok-reply-2.ensures.decides clean (unchanged_inside old middle same inside) S still known none)

pub returns-in_err-entry-clause-cause : goal.returns-in_err-entry-clause-cause
returns-in_err-entry-clause-cause g c clean inside unlimited S sees any =
    statement_failed (state g.S.Store c.args.tx.now.conn.now) (state g.S.Store c.find_answer.new.tx.conn.now) c.from_residual-in_err-entry.result c.in_err-entry.field-0.0 c.from_residual-in_err-entry.ensures.1
    (c.in_err-entry.ensures.cause clean inside unlimited (rows_of S) sees.rows (kept_texts S sees.right (c.number-desk.result, c.value.result)))

pub returns-in_err-reply-clause-cause : goal.returns-in_err-reply-clause-cause
returns-in_err-reply-clause-cause g c clean inside unlimited S sees any =
    let n = number_of c.args.request.now in
    let found = kept_by (row_of_reply c.in-Some.entry) (finite.get S.kept n)
    (sym (ap (option_map row_of_reply) c.in-Some.is) ∙ c.in_ok-entry.ensures.found clean (rows_of S) sees.rows ∙ ap (finite.get (rows_of S).answers) (λ i. (c.number-desk.ensures.value i, c.value.ensures.value i)) ∙ get_reply_row S.kept n) in
    let right = subst (λ o. IfSome o (IsKept n)) found.1 (sees.right.kept n) in
    memory_handed_on (state g.S.Store c.args.tx.now.conn.now) (state g.S.Store c.find_answer.new.tx.conn.now) c.from_residual-in_err-reply.result c.in_err-reply.field-0.0 c.from_residual-in_err-reply.ensures.1
    (c.in_err-reply.ensures.read n found.0 right (ap (λ r. r.reply) found.2))

pub returns-in_err-reply-2-clause-cause : goal.returns-in_err-reply-2-clause-cause
returns-in_err-reply-2-clause-cause g c clean inside unlimited S sees any =
    let q = c.args.request.now in
    let old = state g.S.Store c.args.tx.now.conn.now in
    let middle = state g.S.Store c.find_answer.new.tx.conn.now in
    let new = state g.S.Store c.decide_in.new.tx.conn.now in
    let before = clean_before middle new c.decide_in.ensures.writes_if_any.crash clean in
    let same = c.in_ok-entry.ensures.only_queries.same before inside in
    let still : SeesContent middle S = record { right = sees.right; rows = unchanged_sees old middle (rows_of S) same sees.rows } in
    let found = c.in_ok-entry.ensures.found before (rows_of S) sees.rows in
    let nothing : c.in_ok-entry.field-0 ≡ None = search rules in
    let none = is_new S (number_of q) (sym (ap (option_map row_of_reply) nothing) ∙ found ∙ ap (finite.get (rows_of S).answers) (λ i. (c.number-desk.ensures.value i, c.value.ensures.value i))) in
    handed_on _ c.from_residual-in_err-reply-2.result c.in_err-reply-2.field-0.0 c.from_residual-in_err-reply-2.ensures.1
    (excused_later old middle new clean c.find_answer.ensures.only_queries.crash c.decide_in.ensures.writes_if_any.crash _
    (c.in_err-reply-2.ensures.cause clean (unchanged_inside old middle same inside) (c.find_answer.ensures.only_queries.crash.limit ∙ unlimited) S still (any.0, none, any.1, unchanged_room old middle 501 same any.2)))

pub returns-in-Some-clause-room : goal.returns-in-Some-clause-room
returns-in-Some-clause-room g c clean inside S sees n room =
    let old = state g.S.Store c.args.tx.now.conn.now in
    unchanged_room old (state g.S.Store c.find_answer.new.tx.conn.now) n (c.in_ok-entry.ensures.only_queries.same clean inside) (room_less old n (501 + n) (omega arith) room)

pub returns-clause-room : goal.returns-clause-room
returns-clause-room g c clean inside S sees n room =
    let old = state g.S.Store c.args.tx.now.conn.now in
    let middle = state g.S.Store c.find_answer.new.tx.conn.now in
    let new = state g.S.Store c.decide_in.new.tx.conn.now in
    let before = clean_before middle new c.decide_in.ensures.writes_if_any.crash clean in
    let same = c.in_ok-entry.ensures.only_queries.same before inside in
    let still : SeesContent middle S = record { right = sees.right; rows = unchanged_sees old middle (rows_of S) same sees.rows } in
    c.in_ok-reply-2.ensures.room clean (unchanged_inside old middle same inside) S still n (unchanged_room old middle (501 + n) same room)

pub returns-in-Some-clause-learns : goal.returns-in-Some-clause-learns
returns-in-Some-clause-learns g c clean inside S sees known =
    let found = c.in_ok-entry.ensures.found clean (rows_of S) sees.rows in
    known_again c.args.known.now c.args.request.now S (row_of_reply c.in-Some.entry)
    (sym (ap (option_map row_of_reply) c.in-Some.is) ∙ found ∙ ap (finite.get (rows_of S).answers) (λ i. (c.number-desk.ensures.value i, c.value.ensures.value i))) known

pub returns-clause-learns : goal.returns-clause-learns
returns-clause-learns g c clean inside S sees known =
    let q = c.args.request.now in
    let old = state g.S.Store c.args.tx.now.conn.now in
    let middle = state g.S.Store c.find_answer.new.tx.conn.now in
    let new = state g.S.Store c.decide_in.new.tx.conn.now in
    let before = clean_before middle new c.decide_in.ensures.writes_if_any.crash clean in
    let same = c.in_ok-entry.ensures.only_queries.same before inside in
    let still : SeesContent middle S = record { right = sees.right; rows = unchanged_sees old middle (rows_of S) same sees.rows } in
    let found = c.in_ok-entry.ensures.found before (rows_of S) sees.rows in
    let nothing : c.in_ok-entry.field-0 ≡ None = search rules in
    let none = is_new S (number_of q) (sym (ap (option_map row_of_reply) nothing) ∙ found ∙ ap (finite.get (rows_of S).answers) (λ i. (c.number-desk.ensures.value i, c.value.ensures.value i))) in
    known_first c.decide_in.new.known q S none (c.in_ok-reply-2.ensures.learns clean (unchanged_inside old middle same inside) S still known)

pub returns-in-Some-clause-writes_inside : goal.returns-in-Some-clause-writes_inside
returns-in-Some-clause-writes_inside g c =
    let old = state g.S.Store c.args.tx.now.conn.now in
    let new = state g.S.Store c.find_answer.new.tx.conn.now in
    let it = c.in_ok-entry.ensures.only_queries in
    record {
      still_open = it.still_open;
      inside = λ clean inside. unchanged_inside old new (it.same clean inside) inside;
      commit = λ clean inside. unchanged_keeps old new (it.same clean inside);
      crash = it.crash;
    }

pub returns-clause-writes_inside : goal.returns-clause-writes_inside
returns-clause-writes_inside g c =
    let old = state g.S.Store c.args.tx.now.conn.now in
    let middle = state g.S.Store c.find_answer.new.tx.conn.now in
    let new = state g.S.Store c.decide_in.new.tx.conn.now in
    let it = c.in_ok-entry.ensures.only_queries in
    let then = c.in_ok-reply-2.ensures.writes_if_any in
    record {
      still_open = λ clean. then.still_open clean (it.still_open (clean_before middle new then.crash clean));
      inside = λ clean inside. then.inside clean (unchanged_inside old middle (it.same (clean_before middle new then.crash clean) inside) inside);
      commit = commits_then old middle new (λ before inside. unchanged_inside old middle (it.same before inside) inside) then.crash (λ before inside. unchanged_keeps old middle (it.same before inside)) then.commit;
      crash = leaves_then old middle new it.crash then.crash;
    }

pub returns-clause-sound : goal.returns-clause-sound
returns-clause-sound g c clean inside is_new =
    let old = state g.S.Store c.args.tx.now.conn.now in
    let middle = state g.S.Store c.find_answer.new.tx.conn.now in
    let new = state g.S.Store c.decide_in.new.tx.conn.now in
    let before = clean_before middle new c.in_ok-reply-2.ensures.writes_if_any.crash clean in
    c.in_ok-reply-2.ensures.sound clean (unchanged_inside old middle (c.in_ok-entry.ensures.only_queries.same before inside) inside)
