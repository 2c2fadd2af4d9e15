-- What a query leaves: the cache, and what is said of each call of a keeper.
use Rattle.std.proofs.Common.{◌≡◌, Result, Ok, Err, OnOk, IfErr, inl, inr, refl}
use Rattle.std.specs.Prelude.{None, IfSome}
use Rattle.std.specs.Result.{result_err}
use Rattle.ee_desk_model.specs.Repeats.{Content}
use Rattle.ee_desk_model.specs.declared.acts.Request.{Request}
use Rattle.ee_desk_model.specs.declared.replies.Reply.{Reply}
use Rattle.ee_desk_texts.specs.declared.given.GivenReply.{GivenReply}
use Rattle.sqlite.specs.State.{State, HasCleanDisk}
use Rattle.ee_desk_laws.specs.Events.{World}
use Rattle.ee_desk_laws.proofs.Lemmas.{leaves_as_before}
use Rattle.ee_store_books.specs.Seen.{StandsFor}
use Rattle.ee_store.specs.Served.{FollowsWorld}
use Rattle.ee_desk_model.specs.declared.refusals.Unserved.{Unserved}
use Rattle.ee_keeper.specs.Keeping.{Delivers, Responds, Shows, FailsOnlyIf}
use Rattle.ee_store_tables.specs.Statements.{LeavesNoMore}
use Rattle.ee_store_tables.proofs.Lemmas.Transactions.{clean_before}
use Rattle.ee_store_queries.specs.Asking.{KeepsContent}
use Rattle.ee_store_delivery.specs.declared.known.Known.{Known}
use Rattle.ee_store_delivery.specs.Known.{IsInformed}

pub still_informed : (old new : State) (known : Known) → LeavesNoMore old new → KeepsContent old new → IsInformed old known → IsInformed new known
still_informed old new known crash kept informed clean =
    let it = informed (clean_before old new crash clean) in
    (it.0, kept clean it.0 it.1, it.2)

-- a query is no event
pub follows_still : (old new : State) → LeavesNoMore old new → KeepsContent old new → HasCleanDisk new → (w : World) → FollowsWorld old w → FollowsWorld new w
follows_still old new crash kept clean w (has, leaves) = (
  kept clean w.now has,
  leaves_as_before StandsFor old.may_leave new.may_leave w (λ db may. elim (crash.crash clean db may) [ inl before ↦ before | inr none ↦ absurd none ]) leaves,
)

-- the cache stays as well as the content
pub shows_both : {X : Type 0} (IsRight : X → Type 0) (result : Result X Unserved) (has informed : Type 0)
    → Shows IsRight result has → informed → Shows IsRight result (has × informed)
shows_both IsRight (Ok shown) has informed shows still = (shows.0, (shows.1, still))
shows_both IsRight (Err unserved) has informed shows still = (shows, still)

-- nothing is said of when a store that may fail does
pub may_fail : {X : Type 0} (result : Result X Unserved) → FailsOnlyIf (Unit {0}) result
may_fail (Ok shown) = tt
may_fail (Err unserved) = λ _. tt

-- ---- a request

pub delivers_both : (c : Content) (q : Request) (result : Result Reply Unserved) (Has : Content → Type 0) (informed : Type 0)
    → Delivers c q result Has → informed → Delivers c q result (λ d. Has d × informed)
delivers_both c q (Ok reply) Has informed delivers still = (delivers.0, (delivers.1, still))
delivers_both c q (Err unserved) Has informed delivers still = (delivers, still)

pub responds_both : (c : Content) (q : Request) (result : Result GivenReply Unserved) (Has : Content → Type 0) (informed : Type 0)
    → Responds c q result Has → informed → Responds c q result (λ d. Has d × informed)
responds_both c q (Ok given) Has informed responds still = (responds.0, (responds.1, still))
responds_both c q (Err unserved) Has informed responds still = (responds, still)

-- what is said of the answer is said of the result
pub if_served : {X : Type 0} {P : Type 0} (result : Result X Unserved) → (result_err result ≡ None → P) → OnOk result P
if_served (Ok shown) p = p refl
if_served (Err unserved) p = tt

pub if_unserved : {X : Type 0} (P : Unserved → Type 0) (result : Result X Unserved) → IfSome (result_err result) P → IfErr result P
if_unserved P (Ok shown) p = tt
if_unserved P (Err unserved) p = p
