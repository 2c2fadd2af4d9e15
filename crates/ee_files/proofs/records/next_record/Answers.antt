use Rattle.csv.specs.Records.{fields_of}
use Rattle.ee_files.proofs.Taking.{takes_if_ok}
use Rattle.ee_files.proofs.records.next_record.Goals as goal

pub returns-clause-ok : goal.returns-clause-ok
returns-clause-ok c =
    takes_if_ok c.args.records.now c.read_byte_record.new.self (fields_of c.read_byte_record.new.row) c.in-Ok.found c.in-Ok.ensures.reads c.in-Ok.ensures.ready
