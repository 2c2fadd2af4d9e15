use Rattle.std.proofs.Common.{sym, subst}
use Rattle.ee_store_delivery.specs.Known.{AreTermsOf}
use Rattle.ee_store_delivery.proofs.Knowing.{no_terms_of}
use Rattle.ee_store_delivery.proofs.known.Known.nothing.Goals as goal

pub returns : goal.returns
returns c = λ books. record { day_state = tt; terms = subst (λ terms. AreTermsOf terms books) (sym c.no_terms.ensures) (no_terms_of books) }
