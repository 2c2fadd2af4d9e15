-- Why a delivery fails, and the room that it takes.
use Rattle.std.specs.Prelude.{ℕ, Result, ◌≤◌, ◌+◌, length, IfErr}
use Rattle.sqlite.specs.State.{State, HasCleanDisk}
use Rattle.ee_desk_model.specs.declared.acts.Request.{Request}
use Rattle.ee_desk_model.specs.Outcomes.{act}
use Rattle.ee_desk_model.specs.Repeats.{Content}
use Rattle.ee_store_tables.specs.Rows.{HasRoom}
use Rattle.ee_desk_texts.specs.Texts.{act_text, reply_text}
use Rattle.ee_store_tables.specs.declared.failures.Failure.{Failure}
use Rattle.ee_store_books.specs.Seen.{HasContent}
use Rattle.ee_store_books.specs.Causes.{IsReady}
use Rattle.ee_store_tables.specs.Statements.{IsExcused}
use Rattle.ee_store_delivery.specs.declared.known.Known.{Known}
use Rattle.ee_store_delivery.specs.Known.{IsInformed}

-- the texts of the request and of its reply fit a row
abbrev pub TextsFit : Content → Request → Type 0
TextsFit content request = length (act_text request.act) + length (reply_text (act content.books request.act).reply) ≤ 900000000

-- a request to a ready store, with room for the rows of one request, whose texts fit
abbrev pub CanDeliver : State → Content → Request → Type 0
CanDeliver old content request = IsReady old × HasContent old content × TextsFit content request × HasRoom 501 old

abbrev pub DeliversOrFails : {X : Type 0} → State → State → Known → Request → Result X Failure → Type 0
DeliversOrFails old new known request result = HasCleanDisk new → IsInformed old known → (content : Content) → CanDeliver old content request → IfErr result (IsExcused old new)

-- a request takes room for at most 501 rows
abbrev pub TakesRequestRoom : State → State → Type 0
TakesRequestRoom old new = HasCleanDisk new → IsReady old → (content : Content) → HasContent old content → (n : ℕ) → HasRoom (501 + n) old → HasRoom n new
