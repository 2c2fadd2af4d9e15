use Rattle.std.proofs.Common.{rules}
use Rattle.ee_store_contents.proofs.reading.days_in.Goals as goal

pub returns-then-row-version : goal.returns-then-row-version
returns-then-row-version c = search rules
