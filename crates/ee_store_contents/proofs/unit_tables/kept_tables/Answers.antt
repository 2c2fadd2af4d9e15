use Rattle.std.proofs.Common.{rules, ◌≡◌, [], sym, ap, ◌∙◌}
use Rattle.std.specs.BTreeMap as tree
use Rattle.ee_store_contents.proofs.KeptTables.{with_each, with_all}
use Rattle.ee_store_contents.proofs.unit_tables.kept_tables.Goals as goal

pub loop-own-preserved : goal.loop-own-preserved
loop-own-preserved c = search rules

pub returns : goal.returns
returns c =
    let ended : c.loop-own.own-iterator ≡ [] = search rules in
    ap (with_each c.loop-own.tables) (sym ended) ∙ c.loop-own.invariant ∙ with_all (tree.values c.args.terms.now)
