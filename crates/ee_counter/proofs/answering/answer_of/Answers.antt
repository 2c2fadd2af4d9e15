use Rattle.std.proofs.Common.{subst}
use Rattle.ee_desk_model.specs.Queries.{ShowsQuery}
use Rattle.ee_desk_model.specs.declared.queries.Shown.{Shown}
use Rattle.ee_counter.proofs.Right.{batch_answers, row_answers, sheet_answers, ticket_answers}
use Rattle.ee_counter.proofs.answering.answer_of.Goals as goal

pub returns-in-Sheet-clause-answers : goal.returns-in-Sheet-clause-answers
returns-in-Sheet-clause-answers c = λ books query is. sheet_answers books query c.in-Sheet.sheet (subst (λ (s : Shown). ShowsQuery books query s) c.in-Sheet.is is)

pub returns-in-Ticket-clause-answers : goal.returns-in-Ticket-clause-answers
returns-in-Ticket-clause-answers c = λ books query is. ticket_answers books query c.in-Ticket.ticket (subst (λ (s : Shown). ShowsQuery books query s) c.in-Ticket.is is)

pub returns-in-Batch-clause-answers : goal.returns-in-Batch-clause-answers
returns-in-Batch-clause-answers c = λ books query is. batch_answers books query c.in-Batch.batch (subst (λ (s : Shown). ShowsQuery books query s) c.in-Batch.is is)

pub returns-in-Row-clause-answers : goal.returns-in-Row-clause-answers
returns-in-Row-clause-answers c = λ books query is. row_answers books query c.in-Row.row (subst (λ (s : Shown). ShowsQuery books query s) c.in-Row.is is)
