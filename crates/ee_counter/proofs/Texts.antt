-- The text of an answer is settled by what it shows.
use Rattle.std.proofs.Common.{◌≡◌, ℕ, ◌||◌, Bool, false, String, Global, subst, List, [], ◌∷◌, ◌++◌, map, Option, Some, None, Result, Ok, Err, refl, sym, ap, ◌∙◌}
use Rattle.std.specs.Prelude.{codes, string_bytes, ⊤}
use Rattle.std.proofs.lemmas.Bool.{false≢true}
use Rattle.std.specs.Fmt.{decimal}
use Rattle.std.specs.List.{flat_map}
use Rattle.std.specs.Option.{option_map}
use Rattle.serde_json.specs.Data.{Data, string, object, no_members, member}
use Rattle.serde_json.specs.Written.{compact_text}
use Rattle.ee_units.specs.declared.denoms.Denom.{Denom}
use Rattle.ee_units.specs.Denoms.{dollars}
use Rattle.ee_units.specs.Texts.{decimal_text, serial_text, sheet_month_text, rate_text, month_text}
use Rattle.ee_calculator.specs.Notes.{note_text}
use Rattle.ee_calculator.specs.Sheets.{line, heading, when_some, row_cell, total_cell, sheet_text}
use Rattle.ee_calculator.specs.declared.rows.Row.{Row}
use Rattle.ee_calculator.specs.declared.columns.Column.{Column}
use Rattle.ee_calculator.specs.declared.columns.Column.TheVariants as column
use Rattle.ee_calculator.specs.declared.sheets.Sheet.{Sheet}
use Rattle.ee_desk_model.specs.Repeats.{Content}
use Rattle.ee_desk_model.specs.Answers as desk
use Rattle.ee_desk_model.specs.Queries.{PlainRow, PlainSheet, shown_in_row, shown_in_sheet, ticket_numbered, batch_on, IsInventory, IsQuote}
use Rattle.ee_desk_model.specs.declared.acts.Request.{Request}
use Rattle.ee_desk_model.specs.declared.replies.Reply.{Reply}
use Rattle.ee_desk_model.specs.declared.replies.Reply.TheVariants as reply
use Rattle.ee_desk_texts.specs.Given.{is_refusal}
use Rattle.ee_desk_texts.specs.Texts.{reply_text}
use Rattle.ee_desk_texts.specs.declared.given.GivenReply.TheVariants as given
use Rattle.ee_wire_calls.specs.declared.calls.Call.{Call}
use Rattle.ee_wire_calls.specs.declared.calls.Call.TheVariants as call
use Rattle.ee_desk_model.specs.declared.queries.Query.TheVariants as ask
use Rattle.ee_wire_calls.specs.declared.faults.WireFault.{WireFault}
use Rattle.ee_wire_calls.specs.declared.faults.WireFault.TheVariants.{NoRoute}
use Rattle.ee_wire.specs.Answers.{answer_text, whole_text, row_data, number_data, text_or_none}
use Rattle.ee_wire.specs.declared.answers.Status.TheVariants as status
use Rattle.ee_wire.specs.declared.answers.Kind.TheVariants as kind
use Rattle.ee_wire.specs.declared.answers.Answer.{Answer}
use Rattle.ee_wire.specs.declared.answers.Answer.TheVariants as told
use Rattle.ee_counter.specs.Answering.{IsAnswer}

-- ---- a sheet

abbrev plain_cell : PlainRow → Column → List ℕ
plain_cell p column.Serial = when_some serial_text p.serial
plain_cell p column.Series = codes "EE"
plain_cell p column.Denom = decimal (dollars p.denom)
plain_cell p column.Issued = sheet_month_text p.issued
plain_cell p column.Next = when_some sheet_month_text p.columns.next_accrual
plain_cell p column.Final = when_some sheet_month_text p.columns.final_maturity
plain_cell p column.Price = decimal_text p.columns.price
plain_cell p column.Interest = decimal_text p.columns.interest
plain_cell p column.Rate = when_some rate_text p.columns.rate
plain_cell p column.Value = decimal_text p.columns.value
plain_cell p column.Note = note_text p.columns.note

cell_same : (row : Row) (c : Column) → row_cell row c ≡ plain_cell (shown_in_row row) c
cell_same row column.Serial = refl
cell_same row column.Series = refl
cell_same row column.Denom = refl
cell_same row column.Issued = refl
cell_same row column.Next = refl
cell_same row column.Final = refl
cell_same row column.Price = refl
cell_same row column.Interest = refl
cell_same row column.Rate = refl
cell_same row column.Value = refl
cell_same row column.Note = refl

abbrev plain_total : PlainSheet → Column → List ℕ
plain_total p column.Serial = codes "Total"
plain_total p column.Price = decimal_text p.price
plain_total p column.Interest = decimal_text p.interest
plain_total p column.Value = decimal_text p.value
plain_total p c = []

total_same : (sheet : Sheet) (c : Column) → total_cell sheet c ≡ plain_total (shown_in_sheet sheet) c
total_same sheet column.Serial = refl
total_same sheet column.Series = refl
total_same sheet column.Denom = refl
total_same sheet column.Issued = refl
total_same sheet column.Next = refl
total_same sheet column.Final = refl
total_same sheet column.Price = refl
total_same sheet column.Interest = refl
total_same sheet column.Rate = refl
total_same sheet column.Value = refl
total_same sheet column.Note = refl

abbrev plain_lines : List PlainRow → List ℕ
plain_lines rows = flat_map (λ p. line (plain_cell p)) rows

lines_same : (rows : List Row) → flat_map (λ r. line (row_cell r)) rows ≡ plain_lines (map shown_in_row rows)
lines_same [] = refl
lines_same (row ∷ rows) = λ i. line (λ c. cell_same row c i) ++ lines_same rows i

abbrev plain_text : PlainSheet → List ℕ
plain_text p = line heading ++ plain_lines p.rows ++ line (plain_total p)

text_same : (sheet : Sheet) → sheet_text sheet ≡ plain_text (shown_in_sheet sheet)
unfolding sheet_text
text_same sheet = λ i. line heading ++ lines_same sheet.rows.items i ++ line (λ c. total_same sheet c i)

sheets_same : (one other : Sheet) → shown_in_sheet one ≡ shown_in_sheet other → sheet_text one ≡ sheet_text other
sheets_same one other same = text_same one ∙ ap plain_text same ∙ sym (text_same other)

-- ---- a row

abbrev plain_data : PlainRow → Data
plain_data p =
    object (member (codes "denom") (number_data (dollars p.denom)) (member (codes "final") (string (text_or_none month_text p.columns.final_maturity))
    (member (codes "interest") (string (decimal_text p.columns.interest)) (member (codes "issued") (string (month_text p.issued))
    (member (codes "next") (string (text_or_none month_text p.columns.next_accrual)) (member (codes "note") (string (note_text p.columns.note))
    (member (codes "price") (string (decimal_text p.columns.price)) (member (codes "rate") (string (text_or_none rate_text p.columns.rate))
    (member (codes "value") (string (decimal_text p.columns.value)) no_members)))))))))

abbrev or_plain : PlainRow → Option PlainRow → PlainRow
or_plain p None = p
or_plain p (Some q) = q

-- the same rows, or none
rows_same : (one other : Row) → Some (shown_in_row one) ≡ Some (shown_in_row other) → row_data one ≡ row_data other
rows_same one other same = ap (λ (o : Option PlainRow). plain_data (or_plain (shown_in_row one) o)) same

abbrev IsThere : Option PlainRow → Type 0
IsThere None = ⊥
IsThere (Some p) = ⊤

row_texts : (one other : Option Row) (closing : Bool) → option_map shown_in_row one ≡ option_map shown_in_row other
    → answer_text (told.Row one) closing ≡ answer_text (told.Row other) closing
row_texts None None closing same = refl
row_texts None (Some other) closing same = absurd (subst IsThere (sym same) tt)
row_texts (Some one) None closing same = absurd (subst IsThere same tt)
row_texts (Some one) (Some other) closing same = ap (λ d. whole_text status.Ok kind.Json (compact_text d) (closing || false)) (rows_same one other same)

-- ---- what a right answer is

-- a reply that is given by its text has the same response as the reply
given_text : (text : String Global) (p : Reply) (closing : Bool) → string_bytes text ≡ reply_text p → is_refusal p ≡ false
    → answer_text (told.Reply (given.Text text)) closing ≡ answer_text (told.Reply (given.Reply p)) closing
given_text text (reply.Added new same) closing is none = ap (λ body. whole_text status.Ok kind.Json body (closing || false)) is
given_text text (reply.Opened day) closing is none = ap (λ body. whole_text status.Ok kind.Json body (closing || false)) is
given_text text (reply.Ticket ticket) closing is none = ap (λ body. whole_text status.Ok kind.Json body (closing || false)) is
given_text text (reply.Batch batch) closing is none = ap (λ body. whole_text status.Ok kind.Json body (closing || false)) is
given_text text (reply.Refused refusal) closing is none = absurd (false≢true (sym none))

reply_text_is : (c : Content) (q : Request) (a : Answer) (closing : Bool) → IsAnswer c (Ok (call.Request q)) a
    → answer_text a closing ≡ answer_text (told.Reply (given.Reply (desk.answer c [] q))) closing
reply_text_is c q (told.Reply (given.Reply reply)) closing is = ap (λ r. answer_text (told.Reply (given.Reply r)) closing) is
reply_text_is c q (told.Reply (given.Text text)) closing is = given_text text (desk.answer c [] q) closing is.0 is.1
reply_text_is c q (told.Sheet sheet) closing is = absurd is
reply_text_is c q (told.Row row) closing is = absurd is
reply_text_is c q (told.Ticket ticket) closing is = absurd is
reply_text_is c q (told.Batch batch) closing is = absurd is
reply_text_is c q (told.Fault fault) closing is = absurd is
reply_text_is c q (told.Unserved cause) closing is = absurd is

fault_is : (c : Content) (f : WireFault) (a : Answer) → IsAnswer c (Err f) a → a ≡ told.Fault f
fault_is c f (told.Reply reply) is = absurd is
fault_is c f (told.Sheet sheet) is = absurd is
fault_is c f (told.Row row) is = absurd is
fault_is c f (told.Ticket ticket) is = absurd is
fault_is c f (told.Batch batch) is = absurd is
fault_is c f (told.Fault fault) is = ap (λ g. told.Fault g) is
fault_is c f (told.Unserved cause) is = absurd is

ticket_is : (c : Content) (n : ℕ) (a : Answer) → IsAnswer c (Ok (call.Query (ask.Ticket n))) a → a ≡ told.Ticket (ticket_numbered c.books n)
ticket_is c n (told.Reply reply) is = absurd is
ticket_is c n (told.Sheet sheet) is = absurd is
ticket_is c n (told.Row row) is = absurd is
ticket_is c n (told.Ticket ticket) is = ap (λ t. told.Ticket t) is
ticket_is c n (told.Batch batch) is = absurd is
ticket_is c n (told.Fault fault) is = absurd is
ticket_is c n (told.Unserved cause) is = absurd is

batch_is : (c : Content) (day : ℕ) (a : Answer) → IsAnswer c (Ok (call.Query (ask.Batch day))) a → a ≡ told.Batch (batch_on c.books day)
batch_is c day (told.Reply reply) is = absurd is
batch_is c day (told.Sheet sheet) is = absurd is
batch_is c day (told.Row row) is = absurd is
batch_is c day (told.Ticket ticket) is = absurd is
batch_is c day (told.Batch batch) is = ap (λ b. told.Batch b) is
batch_is c day (told.Fault fault) is = absurd is
batch_is c day (told.Unserved cause) is = absurd is

sheet_is : (c : Content) (customer month : ℕ) (a : Answer) → IsAnswer c (Ok (call.Query (ask.Inventory customer month))) a
    → (sheet : Sheet) × (a ≡ told.Sheet sheet) × IsInventory c.books customer month sheet
sheet_is c customer month (told.Reply reply) is = absurd is
sheet_is c customer month (told.Sheet sheet) is = (sheet, refl, is)
sheet_is c customer month (told.Row row) is = absurd is
sheet_is c customer month (told.Ticket ticket) is = absurd is
sheet_is c customer month (told.Batch batch) is = absurd is
sheet_is c customer month (told.Fault fault) is = absurd is
sheet_is c customer month (told.Unserved cause) is = absurd is

row_is : (c : Content) (denom : Denom) (issued month : ℕ) (a : Answer) → IsAnswer c (Ok (call.Query (ask.Value denom issued month))) a
    → (row : Option Row) × (a ≡ told.Row row) × IsQuote c.books denom issued month row
row_is c denom issued month (told.Reply reply) is = absurd is
row_is c denom issued month (told.Sheet sheet) is = absurd is
row_is c denom issued month (told.Row row) is = (row, refl, is)
row_is c denom issued month (told.Ticket ticket) is = absurd is
row_is c denom issued month (told.Batch batch) is = absurd is
row_is c denom issued month (told.Fault fault) is = absurd is
row_is c denom issued month (told.Unserved cause) is = absurd is

no_route_is : (c : Content) (customer : ℕ) (a : Answer) → IsAnswer c (Ok (call.Query (ask.Bonds customer))) a → a ≡ told.Fault NoRoute
no_route_is c customer (told.Reply reply) is = absurd is
no_route_is c customer (told.Sheet sheet) is = absurd is
no_route_is c customer (told.Row row) is = absurd is
no_route_is c customer (told.Ticket ticket) is = absurd is
no_route_is c customer (told.Batch batch) is = absurd is
no_route_is c customer (told.Fault fault) is = ap (λ g. told.Fault g) is
no_route_is c customer (told.Unserved cause) is = absurd is

pub one_text : (c : Content) (asked : Result Call WireFault) (one other : Answer) (closing : Bool)
    → IsAnswer c asked one → IsAnswer c asked other → answer_text one closing ≡ answer_text other closing
one_text c (Ok (call.Request q)) one other closing x y = reply_text_is c q one closing x ∙ sym (reply_text_is c q other closing y)
one_text c (Ok (call.Query (ask.Inventory customer month))) one other closing x y =
    let s = sheet_is c customer month one x in
    let t = sheet_is c customer month other y in
    ap (λ a. answer_text a closing) s.1
    ∙ ap (λ text. whole_text status.Ok kind.Text text (closing || false)) (sheets_same s.0 t.0 (s.2 ∙ sym t.2))
    ∙ ap (λ a. answer_text a closing) (sym t.1)
one_text c (Ok (call.Query (ask.Ticket n))) one other closing x y = ap (λ a. answer_text a closing) (ticket_is c n one x ∙ sym (ticket_is c n other y))
one_text c (Ok (call.Query (ask.Batch day))) one other closing x y = ap (λ a. answer_text a closing) (batch_is c day one x ∙ sym (batch_is c day other y))
one_text c (Ok (call.Query (ask.Value denom issued month))) one other closing x y =
    let s = row_is c denom issued month one x in
    let t = row_is c denom issued month other y in
    ap (λ a. answer_text a closing) s.1 ∙ row_texts s.0 t.0 closing (s.2 ∙ sym t.2) ∙ ap (λ a. answer_text a closing) (sym t.1)
one_text c (Ok (call.Query (ask.Bonds customer))) one other closing x y =
    ap (λ a. answer_text a closing) (no_route_is c customer one x ∙ sym (no_route_is c customer other y))
one_text c (Err f) one other closing x y = ap (λ a. answer_text a closing) (fault_is c f one x ∙ sym (fault_is c f other y))
