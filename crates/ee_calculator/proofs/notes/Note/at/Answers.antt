use Rattle.std.proofs.Common.{rules}
use Rattle.ee_calculator.proofs.notes.Note.at.Goals as goal

pub returns-then-months-lt-FREE_OF_PENALTY : goal.returns-then-months-lt-FREE_OF_PENALTY
returns-then-months-lt-FREE_OF_PENALTY c = search rules
