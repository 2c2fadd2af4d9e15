use Rattle.ee_desk_model.specs.Acts.{books_after}
use Rattle.ee_store_delivery.proofs.known.Known.follow.Goals as goal

pub returns-in-AddRates : goal.returns-in-AddRates
returns-in-AddRates c = λ books known told. c.nothing.ensures (books_after books c.args.act.now)
