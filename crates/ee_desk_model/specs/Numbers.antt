-- The identity of a request: its desk, and its number there.
use Rattle.std.specs.Prelude.{ℕ, Bool, ◌==◌, ◌&&◌}
use Rattle.std.specs.declared.cmp.Ordering.{Ordering}
use Rattle.std.specs.Ordering.{nat_cmp, then_cmp, on}
use Rattle.ee_desk_model.specs.declared.acts.Act.{Act}
use Rattle.ee_desk_model.specs.declared.acts.Request.{Request}

-- what identifies a request: a desk, and the number that it gave
abbrev pub RequestKey : Type 0
RequestKey = ℕ × ℕ

-- by desk, then by number
abbrev pub number_cmp : RequestKey → RequestKey → Ordering
number_cmp = then_cmp (on (λ p. p.0) nat_cmp) (on (λ p. p.1) nat_cmp)

abbrev pub same_number : RequestKey → RequestKey → Bool
same_number a b = (a.0 == b.0) && (a.1 == b.1)

abbrev pub number_of : Request → RequestKey
number_of q = (q.desk, q.number)

-- a request with this number
abbrev pub numbered : RequestKey → Act → Request
numbered n act = record { desk = n.0; number = n.1; act = act }
