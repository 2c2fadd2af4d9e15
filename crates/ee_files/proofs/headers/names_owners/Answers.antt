use Rattle.std.proofs.Common.{rules}
use Rattle.ee_files.proofs.headers.names_owners.Goals as goal

pub returns-then-names : goal.returns-then-names
returns-then-names c = search rules
