-- The bytes of a response (this project's rule): its status, its body and its head.
use Rattle.std.specs.Prelude.{ℕ, Bool, true, false, ◌||◌, List, [], ◌++◌, length, codes, string_bytes, Option, Some, None, Result, Ok, Err}
use Rattle.std.specs.Io.KnownBytes.{Appends}
use Rattle.serde_json.specs.Data.{Data, number, unsigned, string, object, Members, no_members, member}
use Rattle.serde_json.specs.Written.{compact_text}
use Rattle.ee_units.specs.Texts.{rate_text, month_text, decimal_text}
use Rattle.ee_units.specs.Denoms.{dollars}
use Rattle.ee_io.specs.Written.{WritesFront}
use Rattle.ee_calculator.specs.Notes.{note_text}
use Rattle.ee_calculator.specs.Sheets.{sheet_text}
use Rattle.ee_calculator.specs.declared.rows.Row.{Row}
use Rattle.ee_wire_framing.specs.declared.FramingFault.TheVariants.{BadHead, HeadTooLong, BodyTooLong, BadLength, Truncated}
use Rattle.ee_desk_model.specs.declared.replies.Reply.TheVariants as reply
use Rattle.ee_desk_model.specs.declared.refusals.Unserved.{Unserved}
use Rattle.ee_desk_model.specs.declared.refusals.Unserved.TheVariants as unserved
use Rattle.ee_desk_texts.specs.Texts.{reply_text}
use Rattle.ee_desk_texts.specs.declared.given.GivenReply.TheVariants as given
use Rattle.ee_wire_calls.specs.Faults.{code_of, name_of, field_name}
use Rattle.ee_wire_calls.specs.declared.faults.Field.{Field}
use Rattle.ee_wire_calls.specs.declared.faults.WireFault.{WireFault}
use Rattle.ee_wire_calls.specs.declared.faults.WireFault.TheVariants as fault
use Rattle.ee_wire.specs.Heads.{head_text}
use Rattle.ee_wire.specs.declared.answers.Answer.{Answer}
use Rattle.ee_wire.specs.declared.answers.Answer.TheVariants as answer
use Rattle.ee_wire.specs.declared.answers.Status.{Status}
use Rattle.ee_wire.specs.declared.answers.Status.TheVariants as status
use Rattle.ee_wire.specs.declared.answers.Kind.{Kind}
use Rattle.ee_wire.specs.declared.answers.Kind.TheVariants as kind
use Rattle.ee_wire.specs.declared.answers.WriteEnd.{WriteEnd}
use Rattle.ee_wire.specs.declared.answers.WriteEnd.TheVariants as written

-- ---- the status

abbrev pub status_of_fault : WireFault → Status
status_of_fault (fault.Framing BadHead) = status.BadRequest
status_of_fault (fault.Framing HeadTooLong) = status.ContentTooLarge
status_of_fault (fault.Framing BodyTooLong) = status.ContentTooLarge
status_of_fault (fault.Framing BadLength) = status.BadRequest
status_of_fault (fault.Framing Truncated) = status.BadRequest
status_of_fault fault.BadJson = status.BadRequest
status_of_fault (fault.BadField field) = status.BadRequest
status_of_fault fault.NoRoute = status.NotFound
status_of_fault fault.BadMethod = status.MethodNotAllowed
status_of_fault fault.NoMemory = status.ServiceUnavailable

abbrev pub status_of : Answer → Status
status_of (answer.Reply (given.Reply (reply.Added new same))) = status.Ok
status_of (answer.Reply (given.Reply (reply.Opened day))) = status.Ok
status_of (answer.Reply (given.Reply (reply.Ticket ticket))) = status.Ok
status_of (answer.Reply (given.Reply (reply.Batch batch))) = status.Ok
status_of (answer.Reply (given.Reply (reply.Refused refusal))) = status.Conflict
status_of (answer.Reply (given.Text text)) = status.Ok
status_of (answer.Sheet sheet) = status.Ok
status_of (answer.Row (Some row)) = status.Ok
status_of (answer.Row None) = status.Conflict
status_of (answer.Ticket (Some ticket)) = status.Ok
status_of (answer.Ticket None) = status.NotFound
status_of (answer.Batch (Some batch)) = status.Ok
status_of (answer.Batch None) = status.NotFound
status_of (answer.Fault fault) = status_of_fault fault
status_of (answer.Unserved cause) = status.ServiceUnavailable

-- ---- the body

-- JSON, except for sheets
abbrev pub kind_of : Answer → Kind
kind_of (answer.Reply reply) = kind.Json
kind_of (answer.Sheet sheet) = kind.Text
kind_of (answer.Row row) = kind.Json
kind_of (answer.Ticket ticket) = kind.Json
kind_of (answer.Batch batch) = kind.Json
kind_of (answer.Fault fault) = kind.Json
kind_of (answer.Unserved cause) = kind.Json

abbrev pub number_data : ℕ → Data
number_data n = number (unsigned n)

-- the text, or an empty text for None
abbrev pub text_or_none : (ℕ → List ℕ) → Option ℕ → List ℕ
text_or_none text None = []
text_or_none text (Some n) = text n

-- a row without its serial number
abbrev pub row_data : Row → Data
row_data r =
    object (member (codes "denom") (number_data (dollars r.denom)) (member (codes "final") (string (text_or_none month_text r.final_maturity))
    (member (codes "interest") (string (decimal_text r.interest.0)) (member (codes "issued") (string (month_text r.issued))
    (member (codes "next") (string (text_or_none month_text r.next_accrual)) (member (codes "note") (string (note_text r.note))
    (member (codes "price") (string (decimal_text r.price.0)) (member (codes "rate") (string (text_or_none rate_text r.rate))
    (member (codes "value") (string (decimal_text r.value.0)) no_members)))))))))

-- the field that a fault names
abbrev pub field_in : WireFault → Option Field
field_in (fault.Framing cause) = None
field_in fault.BadJson = None
field_in (fault.BadField field) = Some field
field_in fault.NoRoute = None
field_in fault.BadMethod = None
field_in fault.NoMemory = None

abbrev pub field_member : Option Field → Members
field_member None = no_members
field_member (Some field) = member (codes "field") (string (field_name field)) no_members

abbrev pub fault_data : WireFault → Data
fault_data f = object (member (codes "code") (number_data (code_of f)) (member (codes "fault") (string (name_of f)) (field_member (field_in f))))

abbrev pub unserved_text : Unserved → List ℕ
unserved_text unserved.NoMemory = codes "{\"code\":1,\"unserved\":\"NoMemory\"}"
unserved_text unserved.StoreFailed = codes "{\"code\":2,\"unserved\":\"StoreFailed\"}"

abbrev pub not_found : List ℕ
not_found = codes "{\"code\":69,\"fault\":\"NotFound\"}"

abbrev pub no_rate : List ℕ
no_rate = codes "{\"code\":30,\"refused\":\"NoRate\"}"

-- the text of a fault; want of memory is reported as a request that wasn't served
abbrev pub fault_text : WireFault → List ℕ
fault_text (fault.Framing cause) = compact_text (fault_data (fault.Framing cause))
fault_text fault.BadJson = compact_text (fault_data fault.BadJson)
fault_text (fault.BadField field) = compact_text (fault_data (fault.BadField field))
fault_text fault.NoRoute = compact_text (fault_data fault.NoRoute)
fault_text fault.BadMethod = compact_text (fault_data fault.BadMethod)
fault_text fault.NoMemory = unserved_text unserved.NoMemory

-- a ticket or a batch has the text of the reply that made it
abbrev pub body_of : Answer → List ℕ
body_of (answer.Reply (given.Reply reply)) = reply_text reply
body_of (answer.Reply (given.Text text)) = string_bytes text
body_of (answer.Sheet sheet) = sheet_text sheet
body_of (answer.Row (Some row)) = compact_text (row_data row)
body_of (answer.Row None) = no_rate
body_of (answer.Ticket (Some ticket)) = reply_text (reply.Ticket ticket)
body_of (answer.Ticket None) = not_found
body_of (answer.Batch (Some batch)) = reply_text (reply.Batch batch)
body_of (answer.Batch None) = not_found
body_of (answer.Fault fault) = fault_text fault
body_of (answer.Unserved cause) = unserved_text cause

-- ---- the whole response

-- the connection ends with the answer to a framing fault
abbrev pub ends_connection : Answer → Bool
ends_connection (answer.Reply reply) = false
ends_connection (answer.Sheet sheet) = false
ends_connection (answer.Row row) = false
ends_connection (answer.Ticket ticket) = false
ends_connection (answer.Batch batch) = false
ends_connection (answer.Fault (fault.Framing cause)) = true
ends_connection (answer.Fault fault.BadJson) = false
ends_connection (answer.Fault (fault.BadField field)) = false
ends_connection (answer.Fault fault.NoRoute) = false
ends_connection (answer.Fault fault.BadMethod) = false
ends_connection (answer.Fault fault.NoMemory) = false
ends_connection (answer.Unserved cause) = false

-- a response with this body
unfoldable pub whole_text : Status → Kind → List ℕ → Bool → List ℕ
whole_text status kind body closes = head_text status kind (length body) closes ++ body

-- the bytes of a response; closing: the connection ends with it
abbrev pub answer_text : Answer → Bool → List ℕ
answer_text a closing = whole_text (status_of a) (kind_of a) (body_of a) (closing || ends_connection a)

-- the cause, if the answer says that nothing was served
abbrev pub unserved_in : Answer → Option Unserved
unserved_in (answer.Reply reply) = None
unserved_in (answer.Sheet sheet) = None
unserved_in (answer.Row row) = None
unserved_in (answer.Ticket ticket) = None
unserved_in (answer.Batch batch) = None
unserved_in (answer.Fault (fault.Framing cause)) = None
unserved_in (answer.Fault fault.BadJson) = None
unserved_in (answer.Fault (fault.BadField field)) = None
unserved_in (answer.Fault fault.NoRoute) = None
unserved_in (answer.Fault fault.BadMethod) = None
unserved_in (answer.Fault fault.NoMemory) = Some unserved.NoMemory
unserved_in (answer.Unserved cause) = Some cause

-- what a writer has taken of a response: all of it; only its front if the writer failed; or nothing
abbrev pub WritesAnswer : List ℕ → Option (List ℕ) → Option (List ℕ) → Result (Unit {0}) WriteEnd → Type 0
WritesAnswer text old new (Ok u) = WritesFront old new text true
WritesAnswer text old new (Err written.WriteFailed) = WritesFront old new text false
WritesAnswer text old new (Err written.NoMemory) = Appends old new []
