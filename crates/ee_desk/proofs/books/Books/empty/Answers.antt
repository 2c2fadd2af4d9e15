use Rattle.std.proofs.Common.{subst, sym}
use Rattle.ee_desk_model.specs.Sound.{IsSound}
use Rattle.ee_desk_model.proofs.Lemmas.Books.{empty_is_sound}
use Rattle.ee_desk.proofs.books.Books.empty.Goals as goal

pub invariant_of-result : goal.invariant_of-result
invariant_of-result c = subst IsSound (sym c.empty.ensures) empty_is_sound
