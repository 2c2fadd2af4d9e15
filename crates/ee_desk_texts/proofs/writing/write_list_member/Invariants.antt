use Rattle.std.proofs.Common.{◌≡◌, ◌∷◌, ◌++◌, drop, map}
use Rattle.json.specs.Token as token
use Rattle.json.specs.Tree.{json_tokens, items_tokens}
use Rattle.serde_json.specs.View.{items_of}
use Rattle.serde_json.specs.Written.{outline, items_outline}
use Rattle.ee_desk_texts.specs.Data.{list_data}
use Rattle.ee_desk_texts.proofs.writing.write_list_member.Given as goal

-- what is written, with the rows that are left, is the whole member
abbrev pub invariant-loop-row : goal.invariant-loop-row
invariant-loop-row g l =
    let row_data = g.R.Row.row_data in
    let later = items_tokens (items_outline (items_of (map row_data (drop l.row-index l.rows)))) in
    let whole = token.key l.name ∷ json_tokens (outline (list_data row_data l.rows)) in
    (l.out.before ≡ l.fn.out.before) × (l.out.tokens ++ later ≡ l.fn.out.tokens ++ whole)
