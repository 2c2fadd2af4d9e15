-- The batches lose nothing that was paid.
use Rattle.std.specs.Prelude.{◌≡◌, ℕ, ◌+◌, List, Option, Some, None, sum_by}
use Rattle.ee_desk_model.specs.declared.replies.Ticket.{Ticket}
use Rattle.ee_desk_model.specs.declared.replies.Batch.{Batch}
use Rattle.ee_desk_model.specs.PlainBooks.{PlainBooks, of_day, total_of, cents_of}
use Rattle.ee_desk_model.specs.Paid.{paid_lines}

abbrev pub batch_total : Batch → ℕ
batch_total batch = batch.total.0

-- the sum of the open day's tickets
abbrev pub open_total : Option ℕ → List Ticket → ℕ
open_total None tickets = 0
open_total (Some day) tickets = sum_by total_of (of_day day tickets)

-- the batches and the open day together add up to what was paid
abbrev pub IsConserved : PlainBooks → Type 0
IsConserved books =
    sum_by batch_total books.batches + open_total books.day books.tickets ≡ sum_by cents_of (paid_lines books.tickets)
