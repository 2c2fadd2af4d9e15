-- What a query of a keeper in memory leaves.
use Rattle.std.proofs.Common.{◌≡◌, true, Result, Ok, Err, IfOk, IfErr, subst, arith}
use Rattle.ee_desk_model.specs.declared.refusals.Unserved.{Unserved}
use Rattle.ee_desk_model.specs.declared.refusals.Unserved.TheVariants.{NoMemory}
use Rattle.ee_desk_model.specs.PlainBooks.{PlainBooks}
use Rattle.ee_desk_model.specs.Repeats.{Content}
use Rattle.ee_keeper.specs.Keeping.{Shows, FailsOnlyIf, IsShutByCause}

-- what is shown of the keeper's books is right of the content that it has
pub shows_same : {X : Type 0} (IsRight : PlainBooks → X → Type 0) (now content : Content) (result : Result X Unserved) (Stays : Type 0)
    → now ≡ content → IfOk result (IsRight now.books) → Stays → Shows (IsRight content.books) result Stays
shows_same IsRight now content (Ok shown) Stays is right stays = (subst (λ (c : Content). IsRight c.books shown) is right, stays)
shows_same IsRight now content (Err unserved) Stays is right stays = stays

pub never_fails : {X : Type 0} (may_fail : Type 0) (result : Result X Unserved) → IfErr result (λ e. e ≡ NoMemory) → FailsOnlyIf may_fail result
never_fails may_fail (Ok shown) memory = tt
never_fails may_fail (Err unserved) memory = λ failed. absurd (cc)

pub never_shut : IsShutByCause 0 0 true true
never_shut = (omega arith, λ shut. absurd (cc))
