use Rattle.std.proofs.Common.{◌≡◌, ◌+◌, ◌-◌, suc, refl, arith, rules}
use Rattle.csv.specs.Reading.{default_config, records, strip_bom}
use Rattle.csv.specs.Records.{fields_of}
use Rattle.ee_files.proofs.Entries.{took}
use Rattle.ee_files.proofs.Passed.{past_one, this_one}
use Rattle.ee_files.proofs.showing.record_at.Goals as goal

pub loop-before-init : goal.loop-before-init
loop-before-init c = (records default_config (strip_bom c.args.bytes.now), c.reader_of-records.ensures, refl)

pub loop-before-preserved : goal.loop-before-preserved
loop-before-preserved c =
    let (rest, left, whole) = c.loop-before.invariant in
    let takes = c.in_ok-next_record.ensures.ok rest left in
    let fields = fields_of c.next_record.new.fields in
    let t = took c.next_record.new.records rest c.in_ok-next_record.field-0 fields takes (search rules) in
    let lt = c.loop-before-test.true in
    let more : c.args.row - c.loop-before._before ≡ suc (c.args.row - (c.loop-before._before + 1)) = omega arith in
    (t.rest, t.left, past_one _ _ rest t.rest fields _ more t.is whole)

pub returns-then-branch : goal.returns-then-branch
returns-then-branch c =
    let (rest, left, whole) = c.loop-before.invariant in
    let takes = c.in_ok-next_record-2.ensures.ok rest left in
    let fields = fields_of c.next_record-2.new.fields in
    let t = took c.next_record-2.new.records rest c.in_ok-next_record-2.field-0 fields takes (search rules) in
    let past = c.loop-before-test.false in
    let none : c.args.row - c.loop-before._before ≡ 0 = omega arith in
    this_one _ rest t.rest fields _ none t.is whole
