use Rattle.std.proofs.Common.{ap, refl, ◌∙◌, true}
use Rattle.std.specs.Option.{option_map_or}
use Rattle.ee_store_load.proofs.TestLemmas.{one_tested}
use Rattle.ee_store_load.proofs.testing.TestedRowsGather.take.Goals as goal

pub returns-clause-taken : goal.returns-clause-taken
returns-clause-taken g c rows tells =
    let follow = c.follows.ensures ∙ ap (λ last. option_map_or (λ it. g.T.StoredRow.stands_before it c.args.next) last true) c.as_ref.ensures.value in
    one_tested g.T.StoredRow.stands_before g.P.RowTest.passes c.args.self.last c.args.self.rise c.args.self.pass _ _ rows c.args.next c.follows.result c.in-Ok.right tells follow c.in-Ok.ensures refl refl
