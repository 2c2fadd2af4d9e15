use Rattle.ee_desk_model.proofs.Lemmas.Books.{sound_keyed}
use Rattle.ee_desk.proofs.books.Books.bonds_of.Goals as goal

pub bonds_of-requires : goal.bonds_of-requires
bonds_of-requires c = sound_keyed c.self.inside.ledger c.self.invariant
