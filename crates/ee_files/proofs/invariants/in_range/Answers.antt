use Rattle.std.proofs.Common.{All, subst}
use Rattle.std.proofs.lemmas.List.{take_all}
use Rattle.std.proofs.lemmas.List.Elements.{All-more}
use Rattle.ee_files.specs.BondFile.{IsBond}
use Rattle.ee_files.proofs.invariants.in_range.Goals as goal

pub loop-bond-preserved : goal.loop-bond-preserved
loop-bond-preserved c =
    All-more IsBond c.args.bonds.now c.loop-bond.bond-index c.bond-item.result c.loop-bond-test.true c.loop-bond.invariant (subst IsBond c.bond-item.is c.read.ensures)

pub returns : goal.returns
returns c = subst (All IsBond) (take_all c.loop-bond.bond-index c.args.bonds.now c.loop-bond-test.false) c.loop-bond.invariant
