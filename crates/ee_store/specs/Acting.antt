-- What a request does to a keeper, in whichever form its reply is given.
use Rattle.std.specs.Prelude.{◌≡◌, Bool, true, false, List, [], ◌∷◌, Option, None, IfSome, IsTrue, MatchOption}
use Rattle.std.specs.FinMap.{contains_key}
use Rattle.sqlite.specs.Tree.{Trees}
use Rattle.sqlite.specs.State.{State, HasCleanDisk, Survives}
use Rattle.ee_desk_model.specs.Numbers.{number_of}
use Rattle.ee_desk_model.specs.Repeats.{Content}
use Rattle.ee_desk_model.specs.Contents.{content_after}
use Rattle.ee_desk_model.specs.declared.acts.Request.{Request}
use Rattle.ee_desk_model.specs.declared.refusals.Unserved.{Unserved}
use Rattle.ee_desk_model.specs.declared.refusals.Unserved.TheVariants.{StoreFailed}
use Rattle.ee_desk_laws.specs.Events.{World, Told, decided as with_decided, unserved as with_unserved}
use Rattle.ee_desk_laws.specs.Events.Event.{Deliver, Lose, Unserved as NotServed}
use Rattle.ee_store_tables.specs.Statements.{HasCause, LeavesOthers}
use Rattle.ee_store_books.specs.Causes.{IsReady}
use Rattle.ee_store_books.specs.Seen.{StandsFor, HasContent}
use Rattle.ee_store_delivery.specs.Causes.{TakesRequestRoom, CanDeliver}
use Rattle.ee_store_delivery.specs.Known.{IsInformed}
use Rattle.ee_store_delivery.specs.declared.known.Known.{Known}
use Rattle.ee_store.specs.Served.{FollowsWorld}
use Rattle.ee_store.specs.History.{Goes}

-- The reply was given, to a number that was kept or to one that wasn't.
abbrev pub IsGivenFor : Bool → State → Request → Option Unserved → Content → Type 0
IsGivenFor was_kept old request failed content = (failed ≡ None) × HasContent old content × (contains_key content.kept (number_of request) ≡ was_kept)

-- The store and the cache before and after a request; `failed` says why it wasn't served, if it wasn't.
pub record ActsOnce (old new : State) (known known_now : Known) (request : Request) (failed : Option Unserved) : Type 0 where
  pub clean : HasCleanDisk new → HasCleanDisk old
  -- the cache stays correct
  pub informed : IsInformed old known → IsInformed new known_now
  -- after the reply to a number that wasn't kept, the store is open
  pub opened : HasCleanDisk new → (content : Content) → IsGivenFor false old request failed content → IsTrue new.is_open
  -- whenever the keeper stops, a crash leaves what it could leave before, or the rows of the content with this request decided
  pub crash : Survives old new (λ db. IsInformed old known → (content : Content) → HasContent old content → StandsFor db (content_after content (request ∷ [])))
  -- after the reply to a number that wasn't kept, it leaves only the new rows
  pub durable : HasCleanDisk new → IsInformed old known → (content : Content) → IsGivenFor false old request failed content
      → (db : Trees) → new.may_leave db → StandsFor db (content_after content (request ∷ []))
  -- after the reply to a kept number, what it could leave before
  pub again : HasCleanDisk new → (content : Content) → IsGivenFor true old request failed content → (db : Trees) → new.may_leave db → old.may_leave db
  -- others' tables and their rows are kept
  pub others : HasCleanDisk new → (content : Content) → HasContent old content → LeavesOthers old new
  -- it takes requests as before, with room for at most 501 rows less
  pub ready : IsReady old → IsReady new
  pub room : TakesRequestRoom old new
  -- if its store was ready, with that room, and the texts fit a row, the store failed only if the device failed once more, or it was shut
  pub cause : HasCleanDisk new → IsInformed old known → (content : Content) → CanDeliver old content request → IfSome failed (λ e. e ≡ StoreFailed → HasCause old new)
  -- so the store follows the events of the law of stops and retries
  pub decided : HasCleanDisk new → IsInformed old known → failed ≡ None → (w : World) (told : List Told) → FollowsWorld old w → FollowsWorld new (with_decided w request told)
  pub unserved : HasCleanDisk new → IsInformed old known → IfSome failed (λ _. (w : World) → FollowsWorld old w → FollowsWorld new (with_unserved w request))
  -- and they are its events in its whole history
  pub goes : HasCleanDisk new → IsInformed old known
      → MatchOption failed (Goes old (Deliver request ∷ []) new × Goes old (Lose request ∷ []) new) (λ _. Goes old (NotServed request ∷ []) new)
