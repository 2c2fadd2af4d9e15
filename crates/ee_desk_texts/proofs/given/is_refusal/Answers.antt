use Rattle.std.proofs.Common.{nat_eq, slice_index_or, ap, ◌∙◌}
use Rattle.ee_desk_texts.proofs.Fronts.{first_key}
use Rattle.ee_desk_texts.proofs.given.is_refusal.Goals as goal

pub returns-in-Some : goal.returns-in-Some
returns-in-Some c = λ p same.
    let found = c.in-Some.first.now in
    ap (λ b. nat_eq b 99) (c.in-Some.ensures.lookup.1 ∙ ap (λ t. slice_index_or t 2 found) (c.as_bytes.ensures.value ∙ same)) ∙ first_key p found
