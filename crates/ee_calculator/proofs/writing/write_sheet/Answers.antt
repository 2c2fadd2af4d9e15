use Rattle.std.proofs.Common.{rules}
use Rattle.ee_calculator.proofs.writing.write_sheet.Goals as goal

pub returns-else-write_lines-clause-written : goal.returns-else-write_lines-clause-written
returns-else-write_lines-clause-written g c = search rules
