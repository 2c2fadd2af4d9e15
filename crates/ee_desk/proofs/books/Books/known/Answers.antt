use Rattle.std.proofs.Common.{subst}
use Rattle.ee_desk_model.specs.Paid.{ArePaidRight}
use Rattle.ee_desk_model.specs.Conserved.{IsConserved}
use Rattle.ee_desk_model.proofs.Lemmas.Books.{sound_pays_right, sound_conserves}
use Rattle.ee_desk.proofs.books.Books.known.Goals as goal

pub returns-clause-right : goal.returns-clause-right
returns-clause-right c = subst ArePaidRight c.self.view_is (sound_pays_right c.self.inside.ledger c.self.invariant)

pub returns-clause-conserved : goal.returns-clause-conserved
returns-clause-conserved c = subst IsConserved c.self.view_is (sound_conserves c.self.inside.ledger c.self.invariant)
