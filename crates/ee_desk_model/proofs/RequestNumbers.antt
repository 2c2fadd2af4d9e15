-- The order of numbers.
use Rattle.std.proofs.Common.{◌≡◌, ◌==◌, ◌&&◌, true, refl, ◌∙◌}
use Rattle.std.specs.Cmp.{IsTotalOrder, nat_cmp_total, unsigned_tied}
use Rattle.std.specs.Ordering.{nat_cmp, eq_by_cmp}
use Rattle.std.proofs.lemmas.Cmp.{on_total, then_total}
use Rattle.std.proofs.lemmas.Bool.{eq-eqb, eqb-true, and_parts, and_from}
use Rattle.std.proofs.lemmas.Map.Lookups.{CmpEqualImpliesEq, exact_pairs, exact_unsigned}
use Rattle.ee_desk_model.specs.Numbers.{RequestKey, number_cmp, same_number}
use Rattle.ee_desk_model.proofs.Maps.{eq_then}

pub numbers_total : IsTotalOrder number_cmp
numbers_total = then_total (on_total (λ n. n.0) nat_cmp_total) (on_total (λ n. n.1) nat_cmp_total)

pub numbers_tied : (m n : RequestKey) → eq_by_cmp number_cmp m n ≡ same_number m n
numbers_tied m n = eq_then (nat_cmp m.0 n.0) (nat_cmp m.1 n.1) ∙ (λ i. unsigned_tied m.0 n.0 i && unsigned_tied m.1 n.1 i)

pub number_is : (m n : RequestKey) → same_number m n ≡ true → m ≡ n
number_is m n h = let p = and_parts (m.0 == n.0) (m.1 == n.1) h in λ i. (eqb-true m.0 n.0 p.0 i, eqb-true m.1 n.1 p.1 i)

pub number_self : (n : RequestKey) → same_number n n ≡ true
number_self n = and_from (n.0 == n.0) (n.1 == n.1) (eq-eqb n.0 n.0 refl) (eq-eqb n.1 n.1 refl)

-- numbers that compare alike are one
pub numbers_exact : CmpEqualImpliesEq number_cmp
numbers_exact m n h = exact_pairs nat_cmp nat_cmp exact_unsigned exact_unsigned m n h
