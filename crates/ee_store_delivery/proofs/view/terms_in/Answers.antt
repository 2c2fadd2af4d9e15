use Rattle.std.proofs.Common.{sym, subst}
use Rattle.ee_store_books.specs.Found.{terms_found}
use Rattle.ee_store_delivery.specs.Known.{AreTermsOf}
use Rattle.ee_store_delivery.proofs.Knowing.{learned}
use Rattle.ee_store_delivery.proofs.view.terms_in.Goals as goal

pub returns-clause-learns : goal.returns-clause-learns
returns-clause-learns g c clean inside S sees are =
    subst (λ terms. AreTermsOf terms S.books) (sym c.in_ok-learn_terms.ensures)
    (learned (terms_found c.args.known.now.entries) S.books c.args.period c.in_ok-terms-2.terms (c.in_ok-terms-2.ensures.found clean inside S sees) are)
