-- The answer to a request in a transaction, and what is then seen.
use Rattle.std.specs.Prelude.{◌≡◌, ◌≢◌, ℕ, Option, None, Bool, not, [], ◌∷◌, Result, IfOk, OnOk}
use Rattle.std.specs.FinMap as finite
use Rattle.sqlite.specs.State.{State, HasCleanDisk}
use Rattle.ee_desk_model.specs.declared.acts.Act.{Act}
use Rattle.ee_desk_model.specs.declared.acts.Request.{Request}
use Rattle.ee_desk_model.specs.declared.changes.Effects.{Effects}
use Rattle.ee_desk_model.specs.declared.replies.Reply.{Reply}
use Rattle.ee_desk_model.specs.Numbers.{number_of}
use Rattle.ee_desk_model.specs.Seen.{shown}
use Rattle.ee_desk_model.specs.Effects.{effects_of}
use Rattle.ee_desk_model.specs.Outcomes.{act}
use Rattle.ee_desk_model.specs.Repeats.{Content}
use Rattle.ee_desk_model.specs.Contents.{content_after}
use Rattle.ee_desk_model.specs.Answers.{answer}
use Rattle.ee_desk_texts.specs.Given.{IsGiven}
use Rattle.ee_desk_texts.specs.declared.given.GivenReply.{GivenReply}
use Rattle.ee_store_tables.specs.Rows.{IsInside}
use Rattle.ee_store_books.specs.Seen.{SeesContent}
use Rattle.ee_store_delivery.specs.declared.known.Known.{Known}
use Rattle.ee_store_delivery.specs.Known.{AreKnown}

-- the effects of an act on the books that are seen and, if it changes anything, the last closed day of these books
abbrev pub AreEffects : Act → Content → Effects × Option ℕ → Type 0
AreEffects asked content found = (found.0 ≡ effects_of (shown content.books) asked) × (found.0.changes ≢ [] → found.1 ≡ content.books.last_day)

-- the reply to a number that isn't kept, and what is then seen
pub record IsDecided (new : State) (request : Request) (content : Content) (reply : Reply) : Type 0 where
  pub told : reply ≡ (act content.books request.act).reply
  pub seen : SeesContent new (content_after content (request ∷ []))

-- what a request with a new number leaves
abbrev pub Decides : {E : Type 0} → State → State → Known → Request → Result Reply E → Type 0
Decides old new known request result = HasCleanDisk new → IsInside old → IfOk result (λ reply. (content : Content) → SeesContent old content
    → AreKnown known content.books → finite.get content.kept (number_of request) ≡ None → IsDecided new request content reply)

-- the answer to a request in a transaction, and what is then seen
pub record IsServed (new : State) (request : Request) (content : Content) (reply : GivenReply) : Type 0 where
  pub told : IsGiven reply (answer content [] request)
  pub seen : SeesContent new (content_after content (request ∷ []))

-- The number is new if it isn't kept. If what is known is correct, the request is answered, and its effects are seen.
pub record IsToldIn (new : State) (known : Known) (request : Request) (content : Content) (is_new : Bool) (reply : GivenReply) : Type 0 where
  pub first : is_new ≡ not (finite.contains_key content.kept (number_of request))
  pub served : AreKnown known content.books → IsServed new request content reply

abbrev pub Serves : {E : Type 0} → State → State → Known → Request → Result (Bool × GivenReply) E → Type 0
Serves old new known request result = HasCleanDisk new → IsInside old → IfOk result (λ r. (content : Content) → SeesContent old content → IsToldIn new known request content r.0 r.1)

-- what is known stays correct
abbrev pub Follows : {X E : Type 0} → State → State → Known → Known → Request → Result X E → Type 0
Follows old new before after request result = HasCleanDisk new → IsInside old → OnOk result ((content : Content) → SeesContent old content
    → AreKnown before content.books → AreKnown after (content_after content (request ∷ [])).books)
