-- Lemmas that the proofs of crates above use.
use Rattle.std.proofs.Common.{inl, inr, ℕ, List, Option, Result}
use Rattle.ee_cli_actions.specs.declared.faults.Outcome.{Outcome}
use Rattle.ee_cli_actions.specs.declared.faults.RunFault.{RunFault}
use Rattle.ee_cli_program.specs.Stores.{Tries}

-- a command that was tried is said to be so too if less is known of its work, and of what stays
pub tries_with : (old new : Option (List ℕ)) (result : Result Outcome RunFault) (Carried Done Stays Now : Type 0) → (Carried → Done) → (Stays → Now)
    → Tries old new result Carried Stays → Tries old new result Done Now
tries_with old new result Carried Done Stays Now more stay (inl carried) = inl (more carried)
tries_with old new result Carried Done Stays Now more stay (inr (failed, same, stays)) = inr (failed, same, stay stays)
