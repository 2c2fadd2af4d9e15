use Rattle.ee_desk_model.proofs.Lemmas.Books.{sound_pays_right, sound_conserves}
use Rattle.ee_counter.proofs.soundness.known.Goals as goal

pub returns-clause-right : goal.returns-clause-right
returns-clause-right g c = λ d has. sound_pays_right d.books (g.met.K.Keeper.sound c.args.keeper.now d has)

pub returns-clause-conserved : goal.returns-clause-conserved
returns-clause-conserved g c = λ d has. sound_conserves d.books (g.met.K.Keeper.sound c.args.keeper.now d has)
