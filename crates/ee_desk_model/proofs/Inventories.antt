-- What an inventory shows.
use Rattle.std.proofs.Common.{◌≡◌, ℕ}
use Rattle.ee_desk_model.specs.PlainBooks.{PlainBooks}
use Rattle.ee_desk_model.specs.Queries.{sheet_in, bonds_of, inventory}

pub own_alone : (one other : PlainBooks) (customer month : ℕ) → one.rates ≡ other.rates → bonds_of one customer ≡ bonds_of other customer → inventory one customer month ≡ inventory other customer month
own_alone one other customer month rates bonds = λ i. sheet_in (rates i) month (bonds i)
