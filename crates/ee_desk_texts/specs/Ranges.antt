-- Acts and replies whose plain numbers are in the ranges of their types, as in every program.
use Rattle.std.specs.Prelude.{ℕ, ◌^◌, ◌<◌, ◌≤◌, ⊤}
use Rattle.std.specs.List.{AllByRecursion}
use Rattle.ee_value.specs.Chain.{InRange}
use Rattle.ee_desk_model.specs.Ranges.{IsCustomer, IsSerial, BondFits}
use Rattle.ee_desk_model.specs.Sound.{IsDay, IsIssueMonth}
use Rattle.ee_value.specs.declared.rates.RateRow.{RateRow}
use Rattle.ee_desk_model.specs.declared.acts.Act.{Act}
use Rattle.ee_desk_model.specs.declared.acts.Act.TheVariants as act
use Rattle.ee_desk_model.specs.declared.replies.Line.{Line}
use Rattle.ee_desk_model.specs.declared.replies.Ticket.{Ticket}
use Rattle.ee_desk_model.specs.declared.replies.Batch.{Batch}
use Rattle.ee_desk_model.specs.declared.replies.Reply.{Reply}
use Rattle.ee_desk_model.specs.declared.replies.Reply.TheVariants as reply
use Rattle.ee_desk_texts.specs.Data.{names}
use Rattle.ee_desk_texts.specs.declared.refusals.Named.{Named}
use Rattle.ee_desk_texts.specs.declared.refusals.Named.TheVariants as named
use Rattle.ee_units.specs.Limits.{latest_month}

-- a count, or an amount of cents
abbrev pub IsCount : ℕ → Type 0
IsCount n = n < 2 ^ 64

abbrev pub RateRowFits : RateRow → Type 0
RateRowFits row = IsIssueMonth row.from × InRange row.rates

abbrev pub ActFits : Act → Type 0
ActFits (act.AddRates rows) = AllByRecursion RateRowFits rows
ActFits (act.AddBonds bonds) = AllByRecursion BondFits bonds
ActFits (act.OpenDay day) = IsDay day
ActFits (act.Redeem day payee serials) = IsDay day × IsCustomer payee × AllByRecursion IsSerial serials
ActFits (act.CloseDay day) = IsDay day

abbrev pub LineFits : Line → Type 0
LineFits line = IsSerial line.serial × IsCount line.cents.0

pub record TicketFits (ticket : Ticket) : Type 0 where
  pub number : IsCount ticket.ticket
  pub day : IsDay ticket.day
  pub payee : IsCustomer ticket.payee
  pub lines : AllByRecursion LineFits ticket.lines
  pub total : IsCount ticket.total.0

pub record BatchFits (batch : Batch) : Type 0 where
  pub day : IsDay batch.day
  pub tickets : IsCount batch.tickets
  pub bonds : IsCount batch.bonds
  pub total : IsCount batch.total.0

abbrev pub NamedFits : Named → Type 0
NamedFits named.Nothing = ⊤
NamedFits (named.Period month) = IsIssueMonth month
NamedFits (named.Months age) = age ≤ latest_month
NamedFits (named.Bond serial) = IsSerial serial
NamedFits (named.Paid serial ticket) = IsSerial serial × IsCount ticket

abbrev pub ReplyFits : Reply → Type 0
ReplyFits (reply.Added new same) = IsCount new × IsCount same
ReplyFits (reply.Opened day) = IsDay day
ReplyFits (reply.Ticket ticket) = TicketFits ticket
ReplyFits (reply.Batch batch) = BatchFits batch
ReplyFits (reply.Refused refusal) = NamedFits (names refusal)
