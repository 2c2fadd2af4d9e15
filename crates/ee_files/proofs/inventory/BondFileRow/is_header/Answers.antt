use Rattle.std.proofs.Common.{◌∙◌, sym}
use Rattle.std.proofs.Math.Bool.{or-false}
use Rattle.csv.specs.Records.{fields_of}
use Rattle.ee_files.proofs.NamesInPlace.{five_names}
use Rattle.ee_files.proofs.inventory.BondFileRow.is_header.Goals as goal

pub returns : goal.returns
returns c = c.is_bond_header.ensures ∙ five_names (fields_of c.args.fields.now) ∙ sym (or-false _)
