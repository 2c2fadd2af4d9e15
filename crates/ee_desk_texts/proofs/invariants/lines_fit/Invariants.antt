use Rattle.std.proofs.Common.{drop}
use Rattle.std.specs.List.{AllByRecursion}
use Rattle.ee_desk_texts.specs.Ranges.{LineFits}
use Rattle.ee_desk_texts.proofs.invariants.lines_fit.Given as goal

abbrev pub invariant-loop-line : goal.invariant-loop-line
invariant-loop-line l = AllByRecursion LineFits (drop l.line-index l.lines) → AllByRecursion LineFits l.lines
