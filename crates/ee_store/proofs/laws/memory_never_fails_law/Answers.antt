use Rattle.std.proofs.Common.{inl, inr, arith}
use Rattle.ee_store.proofs.laws.memory_never_fails_law.Goals as goal

pub returns : goal.returns
returns c old new cause = elim cause [
  | inl more ↦ absurd (omega (arith, more))
  | inr shut ↦ absurd (cc)
]
