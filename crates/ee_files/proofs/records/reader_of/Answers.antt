use Rattle.std.proofs.Common.{sym, inr, rules, subst}
use Rattle.csv.specs.Reading.{AreRecords, default_config, records, strip_bom}
use Rattle.ee_files.proofs.Fuel.{all_records}
use Rattle.csv.specs.declared.parser.State.{State}
use Rattle.ee_files.proofs.records.reader_of.Goals as goal

pub returns : goal.returns
returns c =
    let fr = c.from_reader.ensures in
    let text = strip_bom c.args.bytes.now in
    record {
      plain = search rules;
      ready = inr (inr (search rules, fr.headers));
      config = search rules;
      text = text;
      source = fr.source;
      records = subst (λ (s : State). AreRecords default_config s text (records default_config text)) (sym fr.state) (all_records default_config text);
    }
