use Rattle.std.proofs.Common.{◌≡◌, [], rules, true, false}
use Rattle.csv.specs.Reading.{default_config, records, strip_bom}
use Rattle.csv.specs.Records.{fields_of}
use Rattle.ee_files.specs.Rows.{is_header}
use Rattle.ee_files.proofs.Entries.{at_end, bad_header, gives_as, good_header, none_read, Took, took}
use Rattle.ee_files.proofs.records.rows_in.Goals as goal

pub returns-then-not-branch-clause-gives : goal.returns-then-not-branch-clause-gives
returns-then-not-branch-clause-gives g c =
    let takes = c.in_ok-next_record.ensures.ok _ c.reader_of-records.ensures in
    let none : records default_config (strip_bom c.args.bytes.now) ≡ [] = at_end c.next_record.new.records _ c.in_ok-next_record.field-0 (fields_of c.next_record.new.fields) takes (search rules) in
    none_read g.T.FileRow.headers g.T.FileRow.entry _ _ none c.new.ensures.items

pub returns-clause-gives : goal.returns-clause-gives
returns-clause-gives g c =
    let takes = c.in_ok-next_record.ensures.ok _ c.reader_of-records.ensures in
    let fields = fields_of c.next_record.new.fields in
    let t : Took c.next_record.new.records (records default_config (strip_bom c.args.bytes.now)) fields = took c.next_record.new.records _ c.in_ok-next_record.field-0 fields takes (search rules) in
    let good : is_header g.T.FileRow.headers fields ≡ true = search rules in
    gives_as (λ v. v.items) c.rows_under_header.result _ _ (good_header g.T.FileRow.headers g.T.FileRow.entry _ fields t.rest t.is good) (rw c.len.ensures at (c.rows_under_header.ensures.gives t.rest t.left))

pub returns-then-not-is_header-clause-gives : goal.returns-then-not-is_header-clause-gives
returns-then-not-is_header-clause-gives g c =
    let takes = c.in_ok-next_record.ensures.ok _ c.reader_of-records.ensures in
    let fields = fields_of c.next_record.new.fields in
    let t : Took c.next_record.new.records (records default_config (strip_bom c.args.bytes.now)) fields = took c.next_record.new.records _ c.in_ok-next_record.field-0 fields takes (search rules) in
    let wrong : is_header g.T.FileRow.headers fields ≡ false = search rules in
    bad_header g.T.FileRow.headers g.T.FileRow.entry _ fields t.rest t.is wrong
