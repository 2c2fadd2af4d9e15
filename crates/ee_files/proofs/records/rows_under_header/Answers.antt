use Rattle.std.proofs.Common.{◌≡◌, ◌∙◌, ◌+◌, ◌-◌, [], ◌∷◌, length, length-append, sym, ap, arith, rules, suc, true}
use Rattle.std.specs.Result.{is_ok}
use Rattle.std.proofs.lemmas.Result.{err_from_is_err_and}
use Rattle.csv.specs.Records.{fields_of}
use Rattle.ee_files.specs.Rows.{rows_from}
use Rattle.ee_files.proofs.Entries.{at_end, fails_as, fault_here, no_more, no_room, one_more, took, with_front}
use Rattle.ee_files.proofs.records.rows_under_header.Goals as goal

pub returns-then-not-branch-clause-gives : goal.returns-then-not-branch-clause-gives
returns-then-not-branch-clause-gives g c = λ all h.
    let entry = g.T.FileRow.entry c.args.width in
    let (rest, left, whole) = c.loop-row.invariant.left all h in
    let takes = c.in_ok-next_record.ensures.ok rest left in
    let none : rest ≡ [] = at_end c.next_record.new.records rest c.in_ok-next_record.field-0 (fields_of c.next_record.new.fields) takes (search rules) in
    let front = c.loop-row.rows.items in
    sym whole ∙ ap (λ xs. with_front front (rows_from entry c.loop-row.row (503 - c.loop-row.row) xs)) none ∙ no_more entry c.loop-row.row (503 - c.loop-row.row) front

pub returns-in_err-entry-clause-gives : goal.returns-in_err-entry-clause-gives
returns-in_err-entry-clause-gives g c = λ all h.
    let entry = g.T.FileRow.entry c.args.width in
    let (rest, left, whole) = c.loop-row.invariant.left all h in
    let takes = c.in_ok-next_record.ensures.ok rest left in
    let fields = fields_of c.next_record.new.fields in
    let t = took c.next_record.new.records rest c.in_ok-next_record.field-0 fields takes (search rules) in
    let lt = c.loop-row-test.true in
    let left_over = 503 - (c.loop-row.row + 1) in
    let more : 503 - c.loop-row.row ≡ suc left_over = omega arith in
    let front = c.loop-row.rows.items in
    let e = c.in_err-entry.field-0.0 in
    let fault = fault_here entry c.loop-row.row left_over front fields t.rest e.row e.code c.in_err-entry.ensures.gives in
    let same = ap (λ k. with_front front (rows_from entry c.loop-row.row k (fields ∷ t.rest))) (sym more)
    ∙ ap (λ xs. with_front front (rows_from entry c.loop-row.row (503 - c.loop-row.row) xs)) (sym t.is) ∙ whole in
    let p = err_from_is_err_and c.from_residual-in_err-entry.result c.from_residual-in_err-entry.ensures.1 in
    rw (p.1, p.2) (fails_as e.row e.code _ _ same fault)

pub loop-row-preserved : goal.loop-row-preserved
loop-row-preserved g c = record {
  count = let good : is_ok c.push.result ≡ true = search rules in
      let items = rw good at c.push.ensures.items in
      omega (arith, ap (λ xs. length xs) items, length-append c.loop-row.rows.items (c.in_ok-entry.entry ∷ []), c.loop-row.invariant.count);
  left = λ all h.
      let entry = g.T.FileRow.entry c.args.width in
      let (rest, left, whole) = c.loop-row.invariant.left all h in
      let takes = c.in_ok-next_record.ensures.ok rest left in
      let fields = fields_of c.next_record.new.fields in
      let t = took c.next_record.new.records rest c.in_ok-next_record.field-0 fields takes (search rules) in
      let lt = c.loop-row-test.true in
      let left_over = 503 - (c.loop-row.row + 1) in
      let more : 503 - c.loop-row.row ≡ suc left_over = omega arith in
      let good : is_ok c.push.result ≡ true = search rules in
      let items = rw good at c.push.ensures.items in
      let front = c.loop-row.rows.items in
      let step = one_more entry c.loop-row.row left_over front fields t.rest c.in_ok-entry.entry c.in_ok-entry.ensures.gives in (
        t.rest,
        t.left,
        ap (λ xs. with_front xs (rows_from entry (c.loop-row.row + 1) left_over t.rest)) items
            ∙ sym step ∙ ap (λ k. with_front front (rows_from entry c.loop-row.row k (fields ∷ t.rest))) (sym more)
            ∙ ap (λ xs. with_front front (rows_from entry c.loop-row.row (503 - c.loop-row.row) xs)) (sym t.is) ∙ whole,
      );
}

pub returns-clause-gives : goal.returns-clause-gives
returns-clause-gives g c = λ all h.
    let entry = g.T.FileRow.entry c.args.width in
    let (rest, left, whole) = c.loop-row.invariant.left all h in
    let past = c.loop-row-test.false in
    let none : 503 - c.loop-row.row ≡ 0 = omega arith in
    let front = c.loop-row.rows.items in
    sym whole ∙ ap (λ k. with_front front (rows_from entry c.loop-row.row k rest)) none ∙ no_room entry c.loop-row.row front rest
