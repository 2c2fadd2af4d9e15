use Rattle.std.proofs.Common.{sym, subst}
use Rattle.std.proofs.lemmas.List.Elements.{All-from_recursion}
use Rattle.ee_desk_model.specs.declared.replies.Line.{Line}
use Rattle.ee_store_tables.specs.AsRows.{Fits}
use Rattle.ee_store_delivery.proofs.to_rows.line_rows.Goals as goal

pub returns-in_err-row-clause-served : goal.returns-in_err-row-clause-served
returns-in_err-row-clause-served c fit =
    let all = All-from_recursion (λ (line : Line). Fits line.cents.0) c.args.lines.now fit in
    let here = subst (λ (line : Line). Fits line.cents.0) (sym c.line-item.is) (all c.loop-line.line-index c.line-item.result c.loop-line-test.true) in
    cc (c.in_err-row.ensures.fits here)
