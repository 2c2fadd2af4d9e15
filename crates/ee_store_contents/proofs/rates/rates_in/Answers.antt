use Rattle.std.proofs.Common.{rules, ◌≡◌, ◌==◌, false, List, [], ◌∷◌, ◌++◌, length, Some, None, refl, sym, ◌∙◌}
use Rattle.std.proofs.lemmas.List.{drop_all}
use Rattle.ee_units.specs.Spelling.{◌>>=◌}
use Rattle.ee_store_load.specs.declared.entries.StoredRate.{StoredRate}
use Rattle.ee_store_contents.specs.Inner.Reading.{rates_in}
use Rattle.ee_store_contents.proofs.rates.rates_in.Goals as goal

left_over : (rest : List StoredRate) → (length rest == 0) ≡ false → rates_in [] rest ≡ None
left_over [] some = absurd (cc)
left_over (extension ∷ rest) some = refl

pub returns-else-is_empty : goal.returns-else-is_empty
returns-else-is_empty c =
    let rest = c.loop-row.rest.now in
    let done = drop_all c.loop-row.row-index c.args.rows.now c.loop-row-test.false in
    let some : (length rest == 0) ≡ false = search rules in
    (λ i. sym (left_over rest some) i >>= λ later. Some (c.loop-row.rates.items ++ later))
    ∙ (λ i. rates_in (sym done i) rest >>= λ later. Some (c.loop-row.rates.items ++ later))
    ∙ c.loop-row.invariant
