-- Sound books pay each bond its value.
use Rattle.std.specs.List.{AllByRecursion}
use Rattle.ee_desk_model.specs.PlainBooks.{PlainBooks}
use Rattle.ee_desk_model.specs.Paid.{PaysValue, ArePaidRight}
use Rattle.ee_desk_model.specs.Sound.{IsSound, IsRightLine, IsRightTicket}
use Rattle.ee_desk_model.proofs.Maps.{all_map}

pub paid_right : (books : PlainBooks) → IsSound books → ArePaidRight books
paid_right books sound =
    all_map (IsRightTicket books.rates books.bonds) (λ ticket. AllByRecursion (PaysValue books ticket.day) ticket.lines)
    (λ ticket right. all_map (IsRightLine books.rates books.bonds ticket) (PaysValue books ticket.day) (λ line h. (h.0, h.1, h.2, h.3, h.5, h.6)) ticket.lines right.lines)
    books.tickets sound.tickets
