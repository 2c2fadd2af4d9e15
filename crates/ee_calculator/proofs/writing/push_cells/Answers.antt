use Rattle.std.proofs.Common.{◌≡◌, ◌++◌, get_or, length, sym, ap, ◌∙◌, arith}
use Rattle.std.proofs.lemmas.List.{length-append}
use Rattle.ee_io.proofs.Lemmas.{flat_map_more}
use Rattle.ee_calculator.specs.Sheets.{placed}
use Rattle.ee_calculator.specs.Inner.Lines.{cell_of}
use Rattle.ee_calculator.specs.declared.columns.Column.TheVariants as column
use Rattle.ee_calculator.proofs.Placed.{placed_short}
use Rattle.ee_calculator.proofs.writing.push_cells.Goals as goal

pub loop-column-preserved : goal.loop-column-preserved
loop-column-preserved c =
    let columns = c.args.columns.now in
    let i = c.loop-column.column-index in
    let old = c.loop-column.text.bytes in
    let x = get_or columns i column.Serial in
    let cell = c.cell.result.bytes in
    let more : c.push_placed.new.line.bytes ≡ old ++ placed x cell = c.push_placed.ensures ∙ ap (λ t. old ++ placed x t) c.as_str.ensures.value in
    let text = ap (λ t. old ++ placed x t) c.cell.ensures.text ∙ ap (λ t. t ++ placed x (cell_of c.args.line x)) c.loop-column.invariant.0 in (
      more ∙ text ∙ sym (flat_map_more (λ k. placed k (cell_of c.args.line k)) columns i column.Serial c.loop-column-test.true),
      omega (arith, ap length more, length-append old (placed x cell), placed_short x cell c.cell.ensures.short, c.loop-column.invariant.1),
    )
