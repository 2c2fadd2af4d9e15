use Rattle.std.proofs.Common.{true, false, sym, ◌∙◌}
use Rattle.ee_desk_model.proofs.Lemmas.Maps.{repeated_bond_more}
use Rattle.ee_desk_decide.proofs.checks.first_repeated_bond.Goals as goal

pub returns-then-has_bond : goal.returns-then-has_bond
returns-then-has_bond c =
    sym (repeated_bond_more c.args.bonds.now c.loop-i.i c.index-bonds-i.result true c.loop-i-test.true c.index-bonds-i.is (sym c.has_bond.ensures ∙ c.if-has_bond.true))
    ∙ c.loop-i.invariant

pub loop-i-preserved : goal.loop-i-preserved
loop-i-preserved c =
    sym (repeated_bond_more c.args.bonds.now c.loop-i.i c.index-bonds-i.result false c.loop-i-test.true c.index-bonds-i.is (sym c.has_bond.ensures ∙ c.if-has_bond.false))
    ∙ c.loop-i.invariant
