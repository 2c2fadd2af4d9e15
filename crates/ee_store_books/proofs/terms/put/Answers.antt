use Rattle.std.specs.FinMap.{nat_cmp-IsAntisymmetric}
use Rattle.std.specs.Cmp.{nat_cmp_total}
use Rattle.ee_desk_model.proofs.Lemmas.Maps.{map_with_one_more}
use Rattle.ee_store_books.proofs.terms.put.Goals as goal

pub returns : goal.returns
returns c =
    map_with_one_more nat_cmp_total nat_cmp-IsAntisymmetric c.args.found.now.entries c.insert.new.self.entries c.args.period c.args.terms c.in_ok-insert.ensures.updates.0
