use Rattle.std.proofs.Common.{arith, ◌≡◌, ◌+◌, ◌∷◌, ◌++◌, drop, map, sym, ap, ◌∙◌, append_assoc, rules}
use Rattle.std.proofs.lemmas.Grind.{common_steps}
use Rattle.std.proofs.lemmas.List.{drop_more}
use Rattle.json.specs.Tree.{json_tokens, items_tokens}
use Rattle.serde_json.specs.View.{items_of}
use Rattle.serde_json.specs.Written.{outline, items_outline}
use Rattle.ee_desk_texts.proofs.writing.write_list_member.Goals as goal

pub loop-row-preserved : goal.loop-row-preserved
loop-row-preserved g c =
    let row_data = g.R.Row.row_data in
    let rows = c.args.rows.now in
    let row = c.row-item.result in
    let l = c.loop-row in
    let later = drop (l.row-index + 1) rows in
    let here : drop l.row-index rows ≡ row ∷ later = drop_more rows l.row-index row (omega arith) ∙ ap (λ first. first ∷ later) (sym c.row-item.is) in
    let left = items_tokens (items_outline (items_of (map row_data later))) in
    let written = c.in_ok-write.ensures in (
      written.0 ∙ l.invariant.0,
      ap (λ ts. ts ++ left) written.1 ∙ append_assoc l.out.tokens (json_tokens (outline (row_data row))) left
          ∙ ap (λ rs. l.out.tokens ++ items_tokens (items_outline (items_of (map row_data rs)))) (sym here) ∙ l.invariant.1,
    )

pub loop-row-init : goal.loop-row-init
loop-row-init g c = grind (arith, common_steps)

pub returns : goal.returns
returns g c = grind (arith, common_steps)

pub returns-in_err-begin_array : goal.returns-in_err-begin_array
returns-in_err-begin_array g c = search rules

pub returns-in_err-key : goal.returns-in_err-key
returns-in_err-key g c = search rules

pub returns-in_err-write : goal.returns-in_err-write
returns-in_err-write g c = search rules
