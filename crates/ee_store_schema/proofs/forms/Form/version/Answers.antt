use Rattle.std.proofs.Common.{rules}
use Rattle.ee_store_schema.proofs.forms.Form.version.Goals as goal

pub returns-in-Current : goal.returns-in-Current
returns-in-Current c = search rules
